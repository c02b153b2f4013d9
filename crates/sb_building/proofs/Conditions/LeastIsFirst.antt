-- The least of the conditions that were seen stays the least with one more, and is the first of all.
use Rattle.std.proofs.Common.{◌≡◌, ◌⊎◌, ℕ, ◌<◌, ◌≤◌, nat_lt, nat_eq, Bool, true, false, ◌&&◌, ◌||◌, List, [], ◌∷◌, ◌++◌, Option, Some, None, refl, sym, ap, ◌∙◌, subst, inl, inr, arith}
use Rattle.std.specs.Prelude.{if◌then◌else◌}
use Rattle.std.proofs.lemmas.Bool.{or_cases, or_parts, and_parts}
use Rattle.std.proofs.lemmas.Bool.Decides.{Decides-ltb, Decides-eqb}
use Rattle.theory_lists.specs.Members.{Stands, AllOfTwo}
use Rattle.theory_lists.proofs.Members.{all_stands}
use Rattle.theory_lists.proofs.Blocks.{stands_before, stands_behind}
use Rattle.sb_profile.specs.declared.defects.Code.{Code}
use Rattle.sb_profile.specs.declared.defects.Code.TheVariants as code
use Rattle.sb_profile.specs.declared.defects.Defect.{Defect}
use Rattle.sb_profile.specs.First.{defect_at, IsFirst}
use Rattle.sb_building.specs.Steps.Least.{rank, IsBefore, lesser, IsLeastOf}
use Rattle.sb_building.proofs.Conditions.OneMore.{either}

-- ---- a code is known by its rank

code_of : ℕ → Code
code_of n =
    if nat_eq n 0 then code.Schema else (
    if nat_eq n 1 then code.Units else (
    if nat_eq n 2 then code.Building else (
    if nat_eq n 3 then code.Class else (
    if nat_eq n 4 then code.Fields else (
    if nat_eq n 5 then code.Missing else (
    if nat_eq n 6 then code.Chain else (
    if nat_eq n 7 then code.Turned else (
    if nat_eq n 8 then code.Shape else (
    if nat_eq n 9 then code.Range else (
    if nat_eq n 10 then code.OffGrid else (
    if nat_eq n 11 then code.Loops else (
    code.Layers))))))))))))

known : (k : Code) → code_of (rank k) ≡ k
unfolding code_of
known code.Schema = refl
known code.Units = refl
known code.Building = refl
known code.Class = refl
known code.Fields = refl
known code.Missing = refl
known code.Chain = refl
known code.Turned = refl
known code.Shape = refl
known code.Range = refl
known code.OffGrid = refl
known code.Loops = refl
known code.Layers = refl

same_code : (j k : Code) → rank j ≡ rank k → j ≡ k
same_code j k same = sym (known j) ∙ ap code_of same ∙ known k

-- ---- one condition more

before_after : (m n o : ℕ) (i j k : Code) → IsBefore m i n j → IsBefore n j o k → IsBefore m i o k
before_after m n o i j k (inl one) (inl two) = inl (omega arith)
before_after m n o i j k (inl one) (inr (same, two)) = inl (subst (λ l. rank i < rank l) same one)
before_after m n o i j k (inr (same, one)) (inl two) = inl (subst (λ l. rank l < rank k) (sym same) two)
before_after m n o i j k (inr (same, one)) (inr (also, two)) = inr (same ∙ also, omega arith)

-- the lesser of two comes before both
lesser_first : (d e : Defect) → IsBefore (lesser d e).number (lesser d e).code d.number d.code
lesser_first d e =
    by_test (nat_lt (rank e.code) (rank d.code)
    || (nat_eq (rank e.code) (rank d.code) && nat_lt e.number d.number)) refl
  where
    from : (nat_lt (rank e.code) (rank d.code) ≡ true)
        ⊎ ((nat_eq (rank e.code) (rank d.code) && nat_lt e.number d.number) ≡ true)
        → IsBefore e.number e.code d.number d.code
    from (inl less) = inl ((Decides-ltb (rank e.code) (rank d.code)).0 less)
    from (inr both) =
        let parts = and_parts (nat_eq (rank e.code) (rank d.code)) (nat_lt e.number d.number) both in
        let lower : e.number < d.number = (Decides-ltb e.number d.number).0 parts.1 in
        inr (same_code e.code d.code ((Decides-eqb (rank e.code) (rank d.code)).0 parts.0), omega arith)

    by_test : (b : Bool)
        → (nat_lt (rank e.code) (rank d.code)
        || (nat_eq (rank e.code) (rank d.code) && nat_lt e.number d.number)) ≡ b
        → IsBefore (lesser d e).number (lesser d e).code d.number d.code
    by_test true is =
        subst (λ f. IsBefore f.number f.code d.number d.code) (sym (ap (λ b. if b then e else d) is))
        (from (or_cases (nat_lt (rank e.code) (rank d.code))
        (nat_eq (rank e.code) (rank d.code) && nat_lt e.number d.number) is))
    by_test false is =
        subst (λ f. IsBefore f.number f.code d.number d.code) (sym (ap (λ b. if b then e else d) is))
        (inr (refl, omega arith))

not_less : (m n : ℕ) → nat_lt m n ≡ false → n ≤ m
not_less m n fails = grind (arith)

ranks : (m n : ℕ) → nat_lt n m ≡ false → (m < n) ⊎ (m ≡ n)
ranks m n fails = by_less (nat_lt m n) refl
  where
    by_less : (b : Bool) → nat_lt m n ≡ b → (m < n) ⊎ (m ≡ n)
    by_less true less = inl ((Decides-ltb m n).0 less)
    by_less false also =
        let one = not_less n m fails in let two = not_less m n also in inr (omega arith)

lesser_second : (d e : Defect) → IsBefore (lesser d e).number (lesser d e).code e.number e.code
lesser_second d e =
    by_test (nat_lt (rank e.code) (rank d.code)
    || (nat_eq (rank e.code) (rank d.code) && nat_lt e.number d.number)) refl
  where
    on_equal : rank d.code ≡ rank e.code
        → (nat_eq (rank e.code) (rank d.code) && nat_lt e.number d.number) ≡ false
        → IsBefore d.number d.code e.number e.code
    on_equal same fails =
        let equal : nat_eq (rank e.code) (rank d.code) ≡ true =
        (Decides-eqb (rank e.code) (rank d.code)).1 (sym same) in
        let above = not_less e.number d.number
        (sym (ap (λ b. b && nat_lt e.number d.number) equal) ∙ fails) in
        inr (same_code d.code e.code same, above)

    from : (rank d.code < rank e.code) ⊎ (rank d.code ≡ rank e.code)
        → (nat_eq (rank e.code) (rank d.code) && nat_lt e.number d.number) ≡ false
        → IsBefore d.number d.code e.number e.code
    from (inl less) fails = inl less
    from (inr same) fails = on_equal same fails

    by_test : (b : Bool)
        → (nat_lt (rank e.code) (rank d.code)
        || (nat_eq (rank e.code) (rank d.code) && nat_lt e.number d.number)) ≡ b
        → IsBefore (lesser d e).number (lesser d e).code e.number e.code
    by_test true is =
        subst (λ f. IsBefore f.number f.code e.number e.code) (sym (ap (λ b. if b then e else d) is))
        (inr (refl, omega arith))
    by_test false is =
        let parts = or_parts (nat_lt (rank e.code) (rank d.code))
        (nat_eq (rank e.code) (rank d.code) && nat_lt e.number d.number) is in
        subst (λ f. IsBefore f.number f.code e.number e.code) (sym (ap (λ b. if b then e else d) is))
        (from (ranks (rank d.code) (rank e.code) parts.0) parts.1)

-- it is one of the two
lesser_of : (d e : Defect) → (lesser d e ≡ d) ⊎ (lesser d e ≡ e)
lesser_of d e =
    by_test (nat_lt (rank e.code) (rank d.code)
    || (nat_eq (rank e.code) (rank d.code) && nat_lt e.number d.number)) refl
  where
    by_test : (b : Bool)
        → (nat_lt (rank e.code) (rank d.code)
        || (nat_eq (rank e.code) (rank d.code) && nat_lt e.number d.number)) ≡ b
        → (lesser d e ≡ d) ⊎ (lesser d e ≡ e)
    by_test true is = inr (ap (λ b. if b then e else d) is)
    by_test false is = inl (ap (λ b. if b then e else d) is)

pub least_more : (seen : List (ℕ × Code)) (d e : Defect) → IsLeastOf seen (Some d)
    → IsLeastOf (seen ++ (e.number, e.code) ∷ []) (Some (lesser d e))
least_more seen d e (there, least) = (stands (lesser_of d e), all)
  where
    stands : (lesser d e ≡ d) ⊎ (lesser d e ≡ e)
        → Stands ((lesser d e).number, (lesser d e).code) (seen ++ (e.number, e.code) ∷ [])
    stands (inl is) =
        subst (λ f. Stands (f.number, f.code) (seen ++ (e.number, e.code) ∷ [])) (sym is)
        (stands_before (d.number, d.code) seen ((e.number, e.code) ∷ []) there)
    stands (inr is) =
        subst (λ f. Stands (f.number, f.code) (seen ++ (e.number, e.code) ∷ [])) (sym is)
        (stands_behind (e.number, e.code) seen ((e.number, e.code) ∷ []) (inl refl))

    of : (n : ℕ) (k : Code) → Stands (n, k) seen ⊎ (◌≡◌ {A = ℕ × Code} (n, k) (e.number, e.code))
        → IsBefore (lesser d e).number (lesser d e).code n k
    of n k (inl at) =
        before_after (lesser d e).number d.number n (lesser d e).code d.code k (lesser_first d e) (least n k at)
    of n k (inr same) =
        subst (λ p. IsBefore (lesser d e).number (lesser d e).code p.0 p.1) (sym same) (lesser_second d e)

    all : (n : ℕ) (k : Code) → Stands (n, k) (seen ++ (e.number, e.code) ∷ [])
        → IsBefore (lesser d e).number (lesser d e).code n k
    all n k at = of n k (either (n, k) (e.number, e.code) seen at)

pub least_one : (seen : List (ℕ × Code)) (e : Defect) → IsLeastOf seen None
    → IsLeastOf (seen ++ (e.number, e.code) ∷ []) (Some e)
least_one seen e none =
    subst (λ xs. IsLeastOf (xs ++ (e.number, e.code) ∷ []) (Some e)) (sym none) (inl refl, alone)
  where
    alone : (n : ℕ) (k : Code) → Stands {X = ℕ × Code} (n, k) ((e.number, e.code) ∷ []) → IsBefore e.number e.code n k
    alone n k (inl same) =
        subst (λ p. IsBefore e.number e.code p.0 p.1) (sym same) (inr (refl, omega arith))
    alone n k (inr none) = absurd none

-- ---- the least is the first

-- where none was seen none is the first
first_of_none : (codes : List Code) → IsFirst (λ k n. Stands {X = ℕ × Code} (n, k) []) codes None
first_of_none [] = refl
first_of_none (k ∷ codes) = inr ((λ n none. none), first_of_none codes)

first_of_some : (seen : List (ℕ × Code)) (codes : List Code) (d : Defect)
    → AllOfTwo (λ j k. rank j < rank k) codes
    → ((n : ℕ) (k : Code) → Stands (n, k) seen → IsBefore d.number d.code n k)
    → Stands (d.number, d.code) seen → Stands d.code codes
    → IsFirst (λ k n. Stands (n, k) seen) codes (Some d)
first_of_some seen [] d sorted least there stands = absurd stands
first_of_some seen (k ∷ codes) d sorted least there (inl same) =
    inl (
      d.number,
      (
        record {
          holds = subst (λ j. Stands (d.number, j) seen) same there;
          lowest = λ m at. lowest m (least m k at);
        },
        ap (λ j. Some (defect_at d.number j)) same,
      ),
    )
  where
    lowest : (m : ℕ) → IsBefore d.number d.code m k → d.number ≤ m
    lowest m (inl less) =
        let equal : rank d.code ≡ rank k = ap rank same in
        let below : rank d.code < rank k = less in
        absurd (never (rank d.code) (rank k) equal below)
      where
        never : (a b : ℕ) → a ≡ b → a < b → ⊥
        never a b is below = omega arith
    lowest m (inr (is, at)) = at
first_of_some seen (k ∷ codes) d sorted least there (inr later) =
    inr ((λ n at. earlier n (least n k at)), first_of_some seen codes d sorted.1 least there later)
  where
    below : rank k < rank d.code
    below = all_stands (λ j. rank k < rank j) d.code codes sorted.0 later

    never : (a b : ℕ) → a < b → b < a → ⊥
    never a b one two = omega arith

    earlier : (n : ℕ) → IsBefore d.number d.code n k → ⊥
    earlier n (inl less) = never (rank k) (rank d.code) below less
    earlier n (inr (same, at)) = never (rank k) (rank k) (subst (λ j. rank k < rank j) same below)
        (subst (λ j. rank k < rank j) same below)

-- the least of the conditions that were seen is the first of all, by codes that rise
pub first_of_least : (seen : List (ℕ × Code)) (codes : List Code) (found : Option Defect)
    → AllOfTwo (λ j k. rank j < rank k) codes
    → ((n : ℕ) (k : Code) → Stands (n, k) seen → Stands k codes) → IsLeastOf seen found
    → IsFirst (λ k n. Stands (n, k) seen) codes found
first_of_least seen codes None sorted among none =
    subst (λ xs. IsFirst (λ k n. Stands (n, k) xs) codes None) (sym none) (first_of_none codes)
first_of_least seen codes (Some d) sorted among (there, least) =
    first_of_some seen codes d sorted least there (among d.number d.code there)
