-- The end of a string is found by going from one apostrophe to the next.
use Rattle.std.proofs.Common.{◌≡◌, ◌≢◌, ℕ, suc, ◌+◌, ◌<◌, ◌≤◌, Bool, true, false, not, List, [], ◌∷◌, Option, Some, None, length, get_or, drop, sym, refl, ap, ◌∙◌, subst, ⊎_elim, arith, one-add, add-zero, drop-drop, length-drop, get_or-drop}
use Rattle.std.specs.List.{prefix_len}
use Rattle.std.proofs.lemmas.Bool.{cases_Bool, not_from_true, not_from_false, not-false, eq-eqb, ne_eqb}
use Rattle.std.proofs.lemmas.List.{drop_more, drop_all}
use Rattle.std.proofs.lemmas.List.Sums.{prefix_len_stops}
use Rattle.sb_lex.specs.Bytes as byte
use Rattle.sb_lex.specs.Bytes.{is_apostrophe}
use Rattle.sb_lex.specs.Scanning.{after, string_len}

-- a byte that stands for itself
abbrev pub is_plain : ℕ → Bool
is_plain b = not (is_apostrophe b)

-- no byte more
pub after-zero : (o : Option ℕ) → after 0 o ≡ o
after-zero None = refl
after-zero (Some n) = ap (λ k. Some k) (omega arith)

-- so many bytes more, and again
pub after-after : (m n : ℕ) (o : Option ℕ) → after m (after n o) ≡ after (m + n) o
after-after m n None = refl
after-after m n (Some k) = ap (λ i. Some i) (omega arith)

-- a plain byte is one byte of the string
pub string_len-plain : (b : ℕ) (bs : List ℕ) → is_apostrophe b ≡ false → string_len (b ∷ bs)
    ≡ after 1 (string_len bs)
string_len-plain b [] plain = rw plain
string_len-plain b (c ∷ bs) plain = rw plain

-- a run of plain bytes is passed over at once
pub string_len-run : (bs : List ℕ) → string_len bs ≡ after (prefix_len is_plain bs)
    (string_len (drop (prefix_len is_plain bs) bs))
string_len-run [] = refl
string_len-run (b ∷ bs) =
    let P : ℕ → Type 0 = λ n. string_len (b ∷ bs) ≡ after n (string_len (drop n (b ∷ bs))) in
    ⊎_elim
    (λ ends. rw (not_from_true (is_apostrophe b) ends) (sym (after-zero (string_len (b ∷ bs)))))
    (λ plain.
    rw (not_from_false (is_apostrophe b) plain)
    (let n = prefix_len is_plain bs in
    let at : P (suc n) =
    string_len-plain b bs plain ∙ ap (after 1) (string_len-run bs) ∙ after-after 1 n
    (string_len (drop n bs)) ∙ ap (λ k. after k (string_len (drop n bs))) (one-add n) in
    subst P (sym (one-add n)) at))
    (cases_Bool (is_apostrophe b))

-- an apostrophe with none behind it ends the string
string_len-end : (b : ℕ) (bs : List ℕ) → is_apostrophe b ≡ true → get_or bs 0 0 ≢ byte.apostrophe
    → string_len (b ∷ bs) ≡ Some 1
string_len-end b [] ends other = rw ends
string_len-end b (c ∷ bs) ends other = rw (ends, ne_eqb c byte.apostrophe other)

-- two apostrophes stand for one
string_len-pair : (b : ℕ) (bs : List ℕ) → is_apostrophe b ≡ true → get_or bs 0 0 ≡ byte.apostrophe
    → string_len (b ∷ bs) ≡ after 2 (string_len (drop 1 bs))
string_len-pair b [] ends twice = absurd (omega arith)
string_len-pair b (c ∷ bs) ends twice = rw (ends, eq-eqb c byte.apostrophe twice)

module _ (rest : List ℕ) (at n : ℕ)
    (so_far : string_len rest ≡ after at (string_len (drop at rest)))
    (run : n ≡ prefix_len is_plain (drop at rest)) where
  passed : string_len rest ≡ after (at + n) (string_len (drop (at + n) rest))
  passed =
      let step : string_len (drop at rest) ≡ after n (string_len (drop n (drop at rest))) =
      subst (λ k. string_len (drop at rest) ≡ after k (string_len (drop k (drop at rest))))
      (sym run) (string_len-run (drop at rest)) in
      so_far ∙ ap (after at) step ∙ after-after at n (string_len (drop n (drop at rest)))
      ∙ ap (λ l. after (at + n) (string_len l)) (drop-drop n at rest)

  -- no apostrophe is left
  pub string_is_open : length rest ≤ at + n → string_len rest ≡ None
  string_is_open none_left =
      passed ∙ ap (λ l. after (at + n) (string_len l)) (drop_all (at + n) rest none_left)

  module _ (some_left : at + n < length rest) where
    here : drop (at + n) rest ≡ get_or rest (at + n) 0 ∷ drop (at + n + 1) rest
    here = drop_more rest (at + n) 0 some_left

    apostrophe_here : is_apostrophe (get_or rest (at + n) 0) ≡ true
    apostrophe_here =
        let stops = prefix_len_stops is_plain (drop at rest) 0
        (rw (← run) (omega (arith, length-drop at rest))) in
        let read : is_apostrophe (get_or (drop at rest) n 0) ≡ true =
        not-false (is_apostrophe (get_or (drop at rest) n 0))
        (subst (λ k. is_plain (get_or (drop at rest) k 0) ≡ false) (sym run) stops) in
        ap is_apostrophe (sym (get_or-drop at rest n 0)) ∙ read

    behind : get_or (drop (at + n + 1) rest) 0 0 ≡ get_or rest (at + n + 1) 0
    behind =
        get_or-drop (at + n + 1) rest 0 0 ∙ ap (λ k. get_or rest k 0) (add-zero (at + n + 1))

    -- the string ends here
    pub string_ends : get_or rest (at + n + 1) 0 ≢ byte.apostrophe
        → string_len rest ≡ Some (at + n + 1)
    string_ends other =
        passed ∙ ap (λ l. after (at + n) (string_len l)) here ∙ ap (after (at + n))
        (string_len-end (get_or rest (at + n) 0) (drop (at + n + 1) rest) apostrophe_here
        (λ same. other (sym behind ∙ same)))

    -- two apostrophes, and on
    pub string_goes_on : get_or rest (at + n + 1) 0 ≡ byte.apostrophe
        → string_len rest ≡ after (at + n + 2)
        (string_len (drop (at + n + 2) rest))
    string_goes_on twice =
        let tail : drop 1 (drop (at + n + 1) rest) ≡ drop (at + n + 2) rest =
        drop-drop 1 (at + n + 1) rest ∙ ap (λ k. drop k rest) (omega arith) in
        passed ∙ ap (λ l. after (at + n) (string_len l)) here ∙ ap (after (at + n))
        (string_len-pair (get_or rest (at + n) 0) (drop (at + n + 1) rest) apostrophe_here
        (behind ∙ twice)) ∙ after-after (at + n) 2
        (string_len (drop 1 (drop (at + n + 1) rest)))
        ∙ ap (λ l. after (at + n + 2) (string_len l)) tail
