-- The frame of each space of a model has a shift in its range.

use Rattle.std.proofs.Common.{◌≡◌, ℕ, Bool, true, false, ◌==◌, List, [], ◌∷◌, Option, Some}
use Rattle.std.proofs.Common.{IsTrue, if◌then◌else◌, subst}
use Rattle.std.proofs.lemmas.Bool.{and_parts}
use Rattle.std.proofs.lemmas.Option.{same_Some, none-some}
use Rattle.std.specs.List.{find, list_all}
use Rattle.sb_model.specs.declared.products.Space.{Space}
use Rattle.sb_model.specs.Building.{Building, is_building, is_in_range, is_shift}
use Rattle.sb_model.specs.Surfaces.Faces.{space_numbered}

-- one of two passes each test that both pass
one_passes : {X : Type 0} (b : Bool) (q : X → Bool) (y x : X) (rest : Option X) → q y ≡ true
    → (rest ≡ Some x → q x ≡ true) → (if b then Some y else rest) ≡ Some x → q x ≡ true
one_passes true q y x rest here later found = subst (λ z. q z ≡ true) (same_Some y x found) here
one_passes false q y x rest here later found = later found

-- what is found passes each test that all pass
found_passes : {X : Type 0} (p q : X → Bool) (xs : List X) (x : X) → list_all q xs ≡ true
    → find p xs ≡ Some x → q x ≡ true
found_passes p q [] x all found = absurd (none-some _ found)
found_passes p q (y ∷ ys) x all found =
    let parts = and_parts (q y) (list_all q ys) all in
    one_passes (p y) q y x (find p ys) parts.0 (found_passes p q ys x parts.1) found

pub shift_of_space : (m : Building) (n : ℕ) (s : Space) → IsTrue (is_building m)
    → space_numbered m n ≡ Some s → IsTrue (is_shift s.frame.shift)
shift_of_space m n s is found =
    let ranges = and_parts (is_in_range m) _ is in
    let elements = and_parts _ _ ranges.0 in
    let spaces = and_parts _ (list_all (λ (t : Space). is_shift t.frame.shift) m.spaces) elements.0 in
    found_passes (λ (t : Space). t.number == n) (λ (t : Space). is_shift t.frame.shift) m.spaces s spaces.1 found
