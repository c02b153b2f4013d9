-- What the calls of turns and frames rest on: sizes of the numbers of turns, and products by 1.

use Rattle.std.proofs.Common.{ℕ, zero, suc, ℤ, true, ◌≡◌, ◌≤◌, ◌*ℤ◌, ◌*◌, IsTrue, ap, ◌∙◌, arith}
use Rattle.std.proofs.Common.{unsigned_abs, FitsSigned, lit<}
use Rattle.std.specs.Int.{w128}
use Rattle.std.proofs.lemmas.Int.{to_z-of_z, fits_signed_mul, unsigned_abs-mul, ints}
use Rattle.sb_fraction.specs.Spots.{Vector, vector}
use Rattle.theory_turns.specs.Turns.{Quarter, is_signed_axis, is_quarter, cross_of, y_of}
use Rattle.theory_turns.specs.Turns.{back_of}
use Rattle.theory_turns.proofs.SignedAxes.{units_of_axis, axis_of_length, upright_of_quarter}
use Rattle.theory_turns.proofs.SignedAxes.{quarter_of_upright}
use Rattle.theory_turns.proofs.UprightTriples.{IsUpright, yy}
use Rattle.sb_model.specs.Frames.{greatest_framed, IsWithin}

-- ---- products by 1, -1 and 0

pub unit_times_fits : (a b : ℤ) → unsigned_abs a ≤ 1 → unsigned_abs b ≤ greatest_framed
    → FitsSigned w128 (a *ℤ b)
unit_times_fits a b a_in b_in = fits_signed_mul w128 a b 1 greatest_framed a_in b_in (lit< tt)

at_most_itself : (n m : ℕ) → n ≤ 1 → n * m ≤ m
at_most_itself zero m small = omega arith
at_most_itself (suc zero) m small = omega arith
at_most_itself (suc (suc n)) m small = absurd (omega (arith, small))

pub unit_times_size : (a b : ℤ) → unsigned_abs a ≤ 1 → unsigned_abs (a *ℤ b) ≤ unsigned_abs b
unit_times_size a b a_in =
    rw unsigned_abs-mul (at_most_itself (unsigned_abs a) (unsigned_abs b) a_in)

-- ---- the axes of a turn

within_of_axis : (v : Vector) → is_signed_axis v ≡ true → IsWithin 1 v
within_of_axis v axis =
    let units = units_of_axis v axis in
    record { of_x = units.of_x; of_y = units.of_y; of_z = units.of_z }

-- the local x is a signed axis
pub x_axis : (q : Quarter) → IsTrue (is_quarter q.x q.z) → is_signed_axis q.x ≡ true
x_axis q quarter = axis_of_length q.x (upright_of_quarter q quarter).xx

-- so is the local z
pub z_axis : (q : Quarter) → IsTrue (is_quarter q.x q.z) → is_signed_axis q.z ≡ true
z_axis q quarter = axis_of_length q.z (upright_of_quarter q quarter).zz

-- and the local y
pub y_axis : (q : Quarter) → IsTrue (is_quarter q.x q.z) → is_signed_axis (y_of q) ≡ true
y_axis q quarter = axis_of_length (y_of q) (yy q (upright_of_quarter q quarter))

-- what is a signed axis has short coordinates
pub within-equal : (v w : Vector) → v ≡ w → is_signed_axis w ≡ true → IsWithin 1 v
within-equal v w e axis = rw e (within_of_axis w axis)

-- what is equal to a signed axis is one
pub signed-equal : (v w : Vector) → v ≡ w → is_signed_axis w ≡ true → IsTrue (is_signed_axis v)
signed-equal v w e axis = rw e axis

-- two directions make a turn
pub quarter_is : (q : Quarter) (x z : Vector) → q.x ≡ x → q.z ≡ z → q ≡ record { x = x; z = z }
quarter_is q x z first second =
    ap (λ t. record { x = t; z = q.z }) first ∙ ap (λ t. record { x = x; z = t }) second

-- two directions equal to those of a turn are a turn
pub quarter-equal : (q : Quarter) (x z : Vector) → x ≡ q.x → z ≡ q.z → IsUpright q
    → IsTrue (is_quarter x z)
quarter-equal q x z first second up = rw (first, second) (quarter_of_upright q up)

-- cross products of equal vectors
pub cross-equal : {a b c d : Vector} → a ≡ c → b ≡ d → cross_of a b ≡ cross_of c d
cross-equal {a} {b} {c} {d} first second = ap (λ t. cross_of t b) first ∙ ap (cross_of c) second

-- how far the axes go along x
pub first_is : (q : Quarter) (x y z : Vector) → x ≡ q.x → z ≡ q.z → y ≡ cross_of z x → (v : Vector)
    → v ≡ vector x.x y.x z.x → v ≡ (back_of q).x
first_is q x y z x_is z_is y_is v e =
    e ∙ ap (λ t. vector t.x y.x z.x) x_is
    ∙ ap (λ t. vector q.x.x t.x z.x) (y_is ∙ cross-equal z_is x_is)
    ∙ ap (λ t. vector q.x.x (y_of q).x t.x) z_is

-- and along z
pub last_is : (q : Quarter) (x y z : Vector) → x ≡ q.x → z ≡ q.z → y ≡ cross_of z x → (v : Vector)
    → v ≡ vector x.z y.z z.z → v ≡ (back_of q).z
last_is q x y z x_is z_is y_is v e =
    e ∙ ap (λ t. vector t.z y.z z.z) x_is
    ∙ ap (λ t. vector q.x.z t.z z.z) (y_is ∙ cross-equal z_is x_is)
    ∙ ap (λ t. vector q.x.z (y_of q).z t.z) z_is

-- for the bodies of turns and frames
pub ruleset turns = (to_z-of_z, unit_times_fits, unit_times_size)
