-- Of each two items of a sorted list the later is not less.

use Rattle.std.proofs.Common.{◌≡◌, arith, ℕ, suc, ◌<◌, Bool, false, List, [], ◌∷◌, length, get_or}
use Rattle.std.specs.Cmp.{IsStrictWeakOrder}
use Rattle.std.specs.List.{AllByRecursion}
use Rattle.std.specs.List.Sorted.{IsSortedBy}
use Rattle.std.proofs.lemmas.List.Sorted.{sorted_far}
use Rattle.theory_lists.specs.Members.{AllOfTwo}

two_from : {X : Type 0} (R : X → X → Type 0) (xs : List X)
    → ((i j : ℕ) (d : X) → i < j → j < length xs → R (get_or xs i d) (get_or xs j d))
    → AllOfTwo R xs
two_from R [] at = tt
two_from R (x ∷ xs) at = (
  all_from (R x) xs (λ j d there. at 0 (suc j) d (omega arith) (omega arith)),
  two_from R xs (λ i j d before there. at (suc i) (suc j) d (omega arith) (omega arith)),
)
  where
    all_from : {X : Type 0} (P : X → Type 0) (ys : List X)
        → ((j : ℕ) (d : X) → j < length ys → P (get_or ys j d)) → AllByRecursion P ys
    all_from P [] each = tt
    all_from P (y ∷ ys) each =
        (each 0 y (omega arith), all_from P ys (λ j d there. each (suc j) d (omega arith)))

pub sorted_two : {X : Type 0} (lt : X → X → Bool) → IsStrictWeakOrder lt → (xs : List X)
    → IsSortedBy lt xs → AllOfTwo (λ x y. lt y x ≡ false) xs
sorted_two lt weak xs sorted =
    two_from (λ x y. lt y x ≡ false) xs
    (λ i j d before there. sorted_far lt weak xs sorted i j d (omega arith) there)
