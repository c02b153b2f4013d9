-- A text is cut where the mark stands that nothing before it has.
use Rattle.std.proofs.Common.{◌≡◌, refl, ℕ, ◌+◌, Bool, true, false, not, ◌==◌, List, [], ◌∷◌, ◌++◌, length, take, drop, filter, sym, ap, ◌∙◌, ◌⊎◌, inl, inr, true≢false, arith, append_assoc, append-nil}
use Rattle.std.proofs.lemmas.Bool.{cases_Bool, and_parts, and_from}
use Rattle.std.proofs.lemmas.Bool.Decides.{nat_tests}
use Rattle.std.proofs.lemmas.List.{take_at, drop_at, take_all, drop_all, length_push}
use Rattle.std.proofs.lemmas.List.Folds.{list_all-append}
use Rattle.std.specs.List.{list_all, before_first, after_first, prefix_len}
use Rattle.theory_bytes.proofs.RunsAreLongest.{run_is_whole}

-- the mark does not stand in the text
abbrev pub is_free : ℕ → List ℕ → Bool
is_free mark text = list_all (λ b. not (b == mark)) text

same_byte : (mark : ℕ) → not (mark == mark) ≡ false
same_byte mark = grind (arith, nat_tests)

-- what stands before the mark
pub before_mark : (mark : ℕ) (front back : List ℕ) → is_free mark front ≡ true
    → before_first (λ b. b == mark) (front ++ mark ∷ back) ≡ front
before_mark mark front back free =
    ap (λ n. take n (front ++ mark ∷ back))
    (run_is_whole (λ b. not (b == mark)) front (mark ∷ back) free (same_byte mark))
    ∙ take_at front (mark ∷ back) (length front) refl

-- and behind it
pub behind_mark : (mark : ℕ) (front back : List ℕ) → is_free mark front ≡ true
    → after_first (λ b. b == mark) (front ++ mark ∷ back) ≡ back
behind_mark mark front back free =
    ap (λ n. drop (n + 1) (front ++ mark ∷ back))
    (run_is_whole (λ b. not (b == mark)) front (mark ∷ back) free (same_byte mark))
    ∙ ap (drop (length front + 1)) (sym (append_assoc front (mark ∷ []) back))
    ∙ drop_at (front ++ mark ∷ []) back (length front + 1) (length_push front mark)

-- where there is none, it is the length
no_mark : (mark : ℕ) (text : List ℕ) → is_free mark text ≡ true
    → prefix_len (λ b. not (b == mark)) text ≡ length text
no_mark mark text free =
    ap (prefix_len (λ b. not (b == mark))) (sym (append-nil text))
    ∙ run_is_whole (λ b. not (b == mark)) text [] free refl

-- all stands before
pub before_no_mark : (mark : ℕ) (text : List ℕ) → is_free mark text ≡ true
    → before_first (λ b. b == mark) text ≡ text
before_no_mark mark text free =
    ap (λ n. take n text) (no_mark mark text free) ∙ take_all (length text) text (omega arith)

-- and nothing behind
pub behind_no_mark : (mark : ℕ) (text : List ℕ) → is_free mark text ≡ true
    → after_first (λ b. b == mark) text ≡ []
behind_no_mark mark text free =
    ap (λ n. drop (n + 1) text) (no_mark mark text free)
    ∙ drop_all (length text + 1) text (omega arith)

-- ---- which texts are free of a mark

-- a byte that passes is not a mark that does not
other_byte : (test : ℕ → Bool) (mark b : ℕ) → test mark ≡ false → test b ≡ true
    → not (b == mark) ≡ true
other_byte test mark b fails passes = from (cases_Bool (b == mark))
  where
    from : ((b == mark) ≡ true) ⊎ ((b == mark) ≡ false) → not (b == mark) ≡ true
    from (inl same) =
        let one : b ≡ mark = grind (arith, nat_tests) in
        absurd (true≢false (sym passes ∙ ap test one ∙ fails))
    from (inr other) = rw other

-- a text of bytes of a class to which the mark does not belong
pub free_of : (test : ℕ → Bool) (mark : ℕ) → test mark ≡ false → (text : List ℕ)
    → list_all test text ≡ true → is_free mark text ≡ true
free_of test mark fails [] pass = refl
free_of test mark fails (b ∷ bs) pass =
    let parts = and_parts (test b) (list_all test bs) pass in
    and_from (not (b == mark)) (is_free mark bs) (other_byte test mark b fails parts.0)
    (free_of test mark fails bs parts.1)

-- two such texts
pub free_append : (mark : ℕ) (xs ys : List ℕ) → is_free mark xs ≡ true → is_free mark ys ≡ true
    → is_free mark (xs ++ ys) ≡ true
free_append mark xs ys first second =
    list_all-append (λ b. not (b == mark)) xs ys ∙ and_from (is_free mark xs) (is_free mark ys)
    first second

-- ---- what a filter keeps of a text of one class

-- all
pub filter_all : (test : ℕ → Bool) (text : List ℕ) → list_all test text ≡ true
    → filter test text ≡ text
filter_all test [] pass = refl
filter_all test (b ∷ bs) pass =
    let parts = and_parts (test b) (list_all test bs) pass in
    rw parts.0 (ap (λ l. b ∷ l) (filter_all test bs parts.1))

-- or nothing
pub filter_none : (test other : ℕ → Bool) → ((b : ℕ) → other b ≡ true → test b ≡ false)
    → (text : List ℕ) → list_all other text ≡ true → filter test text ≡ []
filter_none test other apart [] pass = refl
filter_none test other apart (b ∷ bs) pass =
    let parts = and_parts (other b) (list_all other bs) pass in
    rw (apart b parts.0) (filter_none test other apart bs parts.1)
