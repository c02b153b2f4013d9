-- A frame whose shift is a length in range can be applied.
use Rattle.std.proofs.Common.{ℤ, pos, ◌≤◌, List, [], ◌∷◌, IsTrue, arith, refl}
use Rattle.std.specs.Prelude.{unsigned_abs, nat_le}
use Rattle.std.proofs.lemmas.Bool.{and_parts, and_from, leb-true, le-leb}
use Rattle.sb_fixed.specs.Lengths.{greatest_nanometres}
use Rattle.sb_model.specs.Frames.{are_framed, greatest_framed}
use Rattle.sb_place.specs.Sizes.{are_lengths}

pub shift_framed : (shift : List ℤ) → IsTrue (are_lengths shift) → IsTrue (are_framed shift)
shift_framed [] near = refl
shift_framed (x ∷ shift) near =
    let parts = and_parts (nat_le (unsigned_abs x) greatest_nanometres) (are_lengths shift) near in
    let least = leb-true (unsigned_abs x) greatest_nanometres parts.0 in
    and_from (nat_le (unsigned_abs x) greatest_framed) (are_framed shift)
    (le-leb (unsigned_abs x) greatest_framed (omega (arith, least))) (shift_framed shift parts.1)

pub corner_framed : (x y : ℤ) → unsigned_abs x ≤ greatest_nanometres → unsigned_abs y ≤ greatest_nanometres
    → IsTrue (are_framed (x ∷ y ∷ pos 0 ∷ []))
corner_framed x y x_in y_in =
    and_from (nat_le (unsigned_abs x) greatest_framed) (are_framed (y ∷ pos 0 ∷ []))
    (le-leb (unsigned_abs x) greatest_framed (omega (arith, x_in)))
    (and_from (nat_le (unsigned_abs y) greatest_framed) (are_framed (pos 0 ∷ []))
    (le-leb (unsigned_abs y) greatest_framed (omega (arith, y_in))) refl)
