-- Numbers in order of first use tell things apart, and what is numbered may be seen otherwise.
use Rattle.std.proofs.Common.{◌≡◌, suc, ◌≤◌, Bool, true, false, ◌||◌, ◌&&◌, List, [], ◌∷◌, map, nat_eq, refl, sym, ap, ◌∙◌, arith}
use Rattle.std.specs.Prelude.{if◌then◌else◌}
use Rattle.std.specs.Cmp.{IsEquivalence}
use Rattle.std.specs.List.{list_all}
use Rattle.std.proofs.Math.Dec.{eqb-suc-suc}
use Rattle.std.proofs.lemmas.Bool.{false≢true}
use Rattle.std.proofs.lemmas.Bool.Decides.{nat_tests}
use Rattle.sb_idf_out.specs.FirstUse.{has, number_in}

module _ {X : Type 0} (same : X → X → Bool) where
  -- numbers begin at 1
  pub from_1 : (xs : List X) (x : X) → 1 ≤ number_in same xs x
  from_1 [] x = omega arith
  from_1 (y ∷ xs) x = by (same x y)
    where
      by : (b : Bool) → 1 ≤ (if b then 1 else suc (number_in same xs x))
      by true = omega arith
      by false = omega arith

  -- one that the list has and any other have the same number just where they are the same
  pub numbers_tell : IsEquivalence same → (ns : List X) (x y : X) → has same ns y ≡ true
      → nat_eq (number_in same ns x) (number_in same ns y) ≡ same x y
  numbers_tell law [] x y is = absurd (false≢true is)
  numbers_tell law (z ∷ ns) x y is = by (same x z) (same y z) refl refl is (numbers_tell law ns x y)
    where
      by : (a b : Bool) → same x z ≡ a → same y z ≡ b → (b || has same ns y) ≡ true
          → (has same ns y ≡ true
          → nat_eq (number_in same ns x) (number_in same ns y) ≡ same x y)
          → nat_eq (if a then 1 else suc (number_in same ns x)) (if b then 1 else suc (number_in same ns y))
          ≡ same x y
      by true true is_x is_y either rest =
          sym (law.congr x z y is_x ∙ (law.symm z y ∙ is_y))
      by true false is_x is_y either rest =
          let least = from_1 ns y in
          let apart : nat_eq 1 (suc (number_in same ns y)) ≡ false = grind (arith, nat_tests) in
          apart ∙ sym (law.congr x z y is_x ∙ (law.symm z y ∙ is_y))
      by false true is_x is_y either rest =
          let least = from_1 ns x in
          let apart : nat_eq (suc (number_in same ns x)) 1 ≡ false = grind (arith, nat_tests) in
          apart ∙ sym (law.symm x y ∙ (law.congr y z x is_y ∙ (law.symm z x ∙ is_x)))
      by false false is_x is_y either rest =
          eqb-suc-suc (number_in same ns x) (number_in same ns y) ∙ rest either

-- things as they are seen
module _ {K X : Type 0} (same : X → X → Bool) (view : K → X) where
  pub has_viewed : (ks : List K) (k : K)
      → has (λ a b. same (view a) (view b)) ks k ≡ has same (map view ks) (view k)
  has_viewed [] k = refl
  has_viewed (q ∷ ks) k = ap (λ b. same (view k) (view q) || b) (has_viewed ks k)

  pub number_viewed : (ks : List K) (k : K)
      → number_in (λ a b. same (view a) (view b)) ks k ≡ number_in same (map view ks) (view k)
  number_viewed [] k = refl
  number_viewed (q ∷ ks) k =
      ap (λ n. if same (view k) (view q) then 1 else suc n) (number_viewed ks k)

-- things under other keys, which tell those of a list apart as they are
module _ {X Y : Type 0} (same : X → X → Bool) (is_eq : Y → Y → Bool) (f : X → Y) (key : Y) (x : X)
    (among : X → Bool) (alike : (y : X) → among y ≡ true → is_eq key (f y) ≡ same x y) where
  pub has_mapped : (ys : List X) → list_all among ys ≡ true → has is_eq (map f ys) key ≡ has same ys x
  has_mapped [] all = refl
  has_mapped (y ∷ ys) all = by (among y) refl all (has_mapped ys)
    where
      by : (b : Bool) → among y ≡ b → (b && list_all among ys) ≡ true
          → (list_all among ys ≡ true → has is_eq (map f ys) key ≡ has same ys x)
          → (is_eq key (f y) || has is_eq (map f ys) key) ≡ (same x y || has same ys x)
      by true is both rest = λ i. alike y is i || rest both i
      by false is both rest = absurd (false≢true both)

  pub number_mapped : (ys : List X) → list_all among ys ≡ true
      → number_in is_eq (map f ys) key ≡ number_in same ys x
  number_mapped [] all = refl
  number_mapped (y ∷ ys) all = by (among y) refl all (number_mapped ys)
    where
      by : (b : Bool) → among y ≡ b → (b && list_all among ys) ≡ true
          → (list_all among ys ≡ true → number_in is_eq (map f ys) key ≡ number_in same ys x)
          → (if is_eq key (f y) then 1 else suc (number_in is_eq (map f ys) key))
          ≡ (if same x y then 1 else suc (number_in same ys x))
      by true is both rest = λ i. if alike y is i then 1 else suc (rest both i)
      by false is both rest = absurd (false≢true both)
