-- Exclusive or, and the parity of how often a test answers true in a list.
use Rattle.std.proofs.Common.{◌≡◌, refl, sym, ap, ap₂, ◌∙◌}
use Rattle.std.proofs.Common.{Bool, true, false, not, ◌&&◌, ◌||◌}
use Rattle.std.proofs.Common.{List, [], ◌∷◌, ◌++◌, map}
use Rattle.std.proofs.Common.{ℕ, zero, suc, ◌+◌, cond, count_by, IsPermutation, one-add, zero-add}
use Rattle.std.proofs.lemmas.Bool.{or_parts, false≢true, false_from_ne_true}
use Rattle.std.proofs.lemmas.List.Sums.{sum_by-cons}
use Rattle.std.proofs.lemmas.List.Sorted.{sum_by-IsPermutation}
use Rattle.std.specs.Bool.{MatchBool}
use Rattle.std.specs.List.{AllByRecursion, list_any}
use Rattle.theory_lists.specs.OneOf.{ExactlyOne, AtMostOne}
use Rattle.theory_lists.specs.Parity.{differ, is_odd_number}
use Rattle.theory_lists.proofs.Blocks.{none_where}
use Rattle.theory_lists.proofs.Members.{all_follow}

-- ---- exclusive or

-- a bit does not differ from itself
pub differ-self : (b : Bool) → differ b b ≡ false
differ-self true = refl
differ-self false = refl

-- to differ from false is to be true
pub differ-false : (b : Bool) → differ b false ≡ b
differ-false true = refl
differ-false false = refl

-- to differ from true is to be false
pub differ-true : (b : Bool) → differ b true ≡ not b
differ-true true = refl
differ-true false = refl

-- exclusive or does not see the order of its bits
pub differ_comm : (b c : Bool) → differ b c ≡ differ c b
differ_comm true true = refl
differ_comm true false = refl
differ_comm false true = refl
differ_comm false false = refl

-- nor how they are grouped
pub differ_assoc : (b c d : Bool) → differ (differ b c) d ≡ differ b (differ c d)
differ_assoc true true true = refl
differ_assoc true true false = refl
differ_assoc true false d = refl
differ_assoc false c d = refl

-- to turn one bit turns the answer
pub not-differ : (b c : Bool) → differ (not b) c ≡ not (differ b c)
not-differ true true = refl
not-differ true false = refl
not-differ false c = refl

-- two different bits are opposite
pub differ-opposite : (b c : Bool) → b ≡ not c → differ b c ≡ true
differ-opposite true false relation = refl
differ-opposite false true relation = refl
differ-opposite true true relation = cc
differ-opposite false false relation = cc

-- bits that do not differ are equal
pub same_from_differ : (b c : Bool) → differ b c ≡ false → b ≡ c
same_from_differ true true relation = refl
same_from_differ false false relation = refl
same_from_differ true false relation = cc
same_from_differ false true relation = cc

-- bits that differ are opposite
pub opposite_from_differ : (b c : Bool) → differ b c ≡ true → b ≡ not c
opposite_from_differ true true relation = cc
opposite_from_differ true false relation = refl
opposite_from_differ false true relation = refl
opposite_from_differ false false relation = cc

-- bits that differ alike from a third are equal
pub differ_cancel : (b c d : Bool) → differ b d ≡ differ c d → b ≡ c
differ_cancel true true d same = refl
differ_cancel false false d same = refl
differ_cancel true false true same = sym same
differ_cancel true false false same = same
differ_cancel false true true same = sym same
differ_cancel false true false same = same

-- one bit held against both of two
pub differ-and : (b c d : Bool) → differ (b && d) (c && d) ≡ (differ b c && d)
differ-and true true true = refl
differ-and true true false = refl
differ-and true false true = refl
differ-and true false false = refl
differ-and false c d = refl

-- the middle two of four change places
pub differ-differ : (a b c d : Bool)
    → differ (differ a b) (differ c d) ≡ differ (differ a c) (differ b d)
differ-differ true true true d = refl
differ-differ true true false true = refl
differ-differ true true false false = refl
differ-differ true false true true = refl
differ-differ true false true false = refl
differ-differ true false false d = refl
differ-differ false true true true = refl
differ-differ false true true false = refl
differ-differ false false true d = refl
differ-differ false b false d = refl

-- a middle bit drops out
pub differ_through : (a b c : Bool) → differ (differ a b) (differ b c) ≡ differ a c
differ_through true true true = refl
differ_through true true false = refl
differ_through true false true = refl
differ_through true false false = refl
differ_through false true true = refl
differ_through false true false = refl
differ_through false false c = refl

-- ---- the fold of exclusive or over a list

one_and_rest : {P Q : Type 0} (b rest : Bool) → (P → rest ≡ false) → (Q → rest ≡ true)
    → MatchBool b P Q → differ b rest ≡ true
one_and_rest true rest here there one = ap not (here one)
one_and_rest false rest here there one = there one

module _ {X : Type 0} where
  -- over two lists joined it is the exclusive or of the two
  pub is_odd_number-append : (test : X → Bool) (xs ys : List X)
      → is_odd_number test (xs ++ ys) ≡ differ (is_odd_number test xs) (is_odd_number test ys)
  is_odd_number-append test [] ys = refl
  is_odd_number-append test (x ∷ xs) ys =
      ap (differ (test x)) (is_odd_number-append test xs ys)
      ∙ sym (differ_assoc (test x) (is_odd_number test xs) (is_odd_number test ys))

  -- of a test that never answers true it is false
  pub is_odd_number-none : (test : X → Bool) (xs : List X) → list_any test xs ≡ false
      → is_odd_number test xs ≡ false
  is_odd_number-none test [] relation = refl
  is_odd_number-none test (x ∷ xs) relation =
      let parts = or_parts (test x) (list_any test xs) relation in
      rw (parts.0) (is_odd_number-none test xs parts.1)

  -- of a test held against one bit it is the fold, held against it
  pub is_odd_number-and : (test : X → Bool) (b : Bool) (xs : List X)
      → is_odd_number (λ x. test x && b) xs ≡ (is_odd_number test xs && b)
  is_odd_number-and test b [] = refl
  is_odd_number-and test b (x ∷ xs) =
      ap (differ (test x && b)) (is_odd_number-and test b xs)
      ∙ differ-and (test x) (is_odd_number test xs) b

  -- of two tests that answer alike it is the same
  pub is_odd_number-same : (f g : X → Bool) → ((x : X) → f x ≡ g x) → (xs : List X)
      → is_odd_number f xs ≡ is_odd_number g xs
  is_odd_number-same f g same [] = refl
  is_odd_number-same f g same (x ∷ xs) = ap₂ differ (same x) (is_odd_number-same f g same xs)

  -- of two tests that answer alike on the items of the list it is the same
  pub odd_where_same : (f g : X → Bool) (xs : List X) → AllByRecursion (λ x. f x ≡ g x) xs
      → is_odd_number f xs ≡ is_odd_number g xs
  odd_where_same f g [] same = refl
  odd_where_same f g (x ∷ xs) same = ap₂ differ same.0 (odd_where_same f g xs same.1)

  -- of the exclusive or of two tests it is the exclusive or of the two folds
  pub is_odd_number-differ : (f g : X → Bool) (xs : List X)
      → is_odd_number (λ x. differ (f x) (g x)) xs
      ≡ differ (is_odd_number f xs) (is_odd_number g xs)
  is_odd_number-differ f g [] = refl
  is_odd_number-differ f g (x ∷ xs) =
      ap (differ (differ (f x) (g x))) (is_odd_number-differ f g xs)
      ∙ differ-differ (f x) (g x) (is_odd_number f xs) (is_odd_number g xs)

  -- exactly one place is an odd number of places
  pub one_is_odd : (test : X → Bool) (xs : List X) → ExactlyOne test xs
      → is_odd_number test xs ≡ true
  one_is_odd test [] one = absurd one
  one_is_odd test (x ∷ xs) one =
      one_and_rest (test x) (is_odd_number test xs) (is_odd_number-none test xs)
      (one_is_odd test xs) one

  -- so is at most one, where some place passes
  pub odd_if_alone : (test : X → Bool) (xs : List X) → AtMostOne test xs
      → list_any test xs ≡ true → is_odd_number test xs ≡ true
  odd_if_alone test [] once some = absurd (false≢true some)
  odd_if_alone test (x ∷ xs) once some = by (test x) refl (odd_if_alone test xs once.1)
    where
      by : (b : Bool) → test x ≡ b → (list_any test xs ≡ true → is_odd_number test xs ≡ true)
          → is_odd_number test (x ∷ xs) ≡ true
      by true passes rest =
          ap (λ b. differ b (is_odd_number test xs)) passes
          ∙ ap not
          (is_odd_number-none test xs
          (none_where test xs
          (all_follow (λ y known. false_from_ne_true (test y) (known passes)) xs once.0)))
      by false fails rest =
          ap (λ b. differ b (is_odd_number test xs)) fails
          ∙ rest (sym (ap (λ b. b || list_any test xs) fails) ∙ some)

  -- of a test that at most one place passes it says whether some place does
  pub odd_is_any : (test : X → Bool) (xs : List X) → AtMostOne test xs
      → is_odd_number test xs ≡ list_any test xs
  odd_is_any test xs once = by (list_any test xs) refl
    where
      by : (b : Bool) → list_any test xs ≡ b → is_odd_number test xs ≡ list_any test xs
      by true some = odd_if_alone test xs once some ∙ sym some
      by false none = is_odd_number-none test xs none ∙ sym none

-- of a list that is mapped it is that of the composed test
pub is_odd_number-map : {X Y : Type 0} (test : Y → Bool) (f : X → Y) (xs : List X)
    → is_odd_number test (map f xs) ≡ is_odd_number (λ x. test (f x)) xs
is_odd_number-map test f [] = refl
is_odd_number-map test f (x ∷ xs) = ap (differ (test (f x))) (is_odd_number-map test f xs)

-- ---- the parity of a count

-- odd numbers: 1, 3, 5 and so on
abbrev pub is_odd : ℕ → Bool
is_odd zero = false
is_odd (suc n) = not (is_odd n)

-- the fold of exclusive or says whether the test answers true at an odd number of places
pub is_odd_number-count : {X : Type 0} (test : X → Bool) (xs : List X)
    → is_odd_number test xs ≡ is_odd (count_by test xs)
is_odd_number-count test [] = refl
is_odd_number-count test (x ∷ xs) =
    rw (sum_by-cons (λ y. cond (test y) 1 0) x xs, is_odd_number-count test xs)
    (one_more (test x) (count_by test xs))
  where
    one_more : (b : Bool) (n : ℕ) → differ b (is_odd n) ≡ is_odd (cond b 1 0 + n)
    one_more true n = rw one-add
    one_more false n = rw zero-add

-- and does not see a permutation
pub is_odd_number-permuted : {X : Type 0} (test : X → Bool) (xs ys : List X)
    → IsPermutation xs ys → is_odd_number test ys ≡ is_odd_number test xs
is_odd_number-permuted test xs ys permuted =
    is_odd_number-count test ys
    ∙ ap is_odd (sum_by-IsPermutation (λ y. cond (test y) 1 0) xs ys permuted)
    ∙ sym (is_odd_number-count test xs)
