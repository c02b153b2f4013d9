-- Edges along x and y: their steps, directions and normals, and which way they run.
use Rattle.std.proofs.Common.{◌≡◌, refl, ap, ◌∙◌, arith, zero, suc, ℤ, pos, negsuc, neg_ℤ, ◌-ℤ◌}
use Rattle.std.proofs.Common.{◌<ℤ◌, Bool, true, false, unsigned_abs, int_lt, if◌then◌else◌}
use Rattle.std.proofs.lemmas.Int.{ints}
use Rattle.std.proofs.lemmas.Bool.{lt-ltb}
use Rattle.std.proofs.Math.Nat.{div_self, zero-div}
use Rattle.theory_numbers.specs.Divisors.{greatest_divisor}
use Rattle.theory_numbers.specs.Fractions.{divided}
use Rattle.theory_numbers.proofs.Fractions.GreatestDivisor.{greatest_divisor-zero, zero-greatest_divisor}
use Rattle.theory_numbers.proofs.Signs.{same_less, test_less, test_not_less}
use Rattle.sb_fraction.specs.Plane.{is_forward}
use Rattle.sb_fraction.specs.Spots.{Vector, vector, opposite}
use Rattle.sb_fraction.specs.Edges.{Edge, edge}
use Rattle.sb_fraction.specs.Directions.{step, runs_along, direction_of, normal_over, axis_x}
use Rattle.sb_fraction.specs.Directions.{axis_y}
use Rattle.theory_plans.specs.Rectangles.{corner}

-- ---- steps

-- 1 where the test says so, -1 where not
abbrev sign : Bool → ℤ
sign up = if up then pos 1 else negsuc 0

-- a number divided by its size is its sign
divided_by_size : (z : ℤ) → (z ≡ pos 0 → ⊥) → divided z (unsigned_abs z) ≡ sign (int_lt (pos 0) z)
divided_by_size (pos zero) other = absurd (other refl)
divided_by_size (pos (suc n)) other =
    rw (div_self {n = suc n} (omega arith), lt-ltb 0 (suc n) (omega arith)) refl
divided_by_size (negsuc n) other = rw (div_self {n = suc n} (omega arith)) refl

from_difference : (a b : ℤ) → b -ℤ a ≡ pos 0 → a ≡ b
from_difference a b none = omega (arith, ints)

no_difference : (a b : ℤ) → a ≡ b → b -ℤ a ≡ pos 0
no_difference a b same = omega (arith, ints)

less_is_difference : (a b : ℤ) → int_lt (pos 0) (b -ℤ a) ≡ int_lt a b
less_is_difference a b =
    same_less (pos 0) (b -ℤ a) a b (λ less. omega (arith, ints)) (λ less. omega (arith, ints))

-- a number that is not 0, divided by the greatest common divisor with 0
divided_beside_zero : (x y : ℤ) → (x ≡ pos 0 → ⊥) → y ≡ pos 0
    → (divided x (greatest_divisor (unsigned_abs x) (unsigned_abs y)) ≡ sign (int_lt (pos 0) x))
    × (divided y (greatest_divisor (unsigned_abs x) (unsigned_abs y)) ≡ pos 0)
divided_beside_zero x y other none =
    rw (none, greatest_divisor-zero (unsigned_abs x))
    (divided_by_size x other, ap pos (zero-div (unsigned_abs x)))

divided_after_zero : (x y : ℤ) → x ≡ pos 0 → (y ≡ pos 0 → ⊥)
    → (divided x (greatest_divisor (unsigned_abs x) (unsigned_abs y)) ≡ pos 0)
    × (divided y (greatest_divisor (unsigned_abs x) (unsigned_abs y)) ≡ sign (int_lt (pos 0) y))
divided_after_zero x y none other =
    rw (none, zero-greatest_divisor (unsigned_abs y))
    (ap pos (zero-div (unsigned_abs y)), divided_by_size y other)

same_vector : {x y x' y' : ℤ} → x ≡ x' → y ≡ y' → vector x y (pos 0) ≡ vector x' y' (pos 0)
same_vector {x} {y} {x'} {y'} ex ey = ap (λ t. vector t y (pos 0)) ex
    ∙ ap (λ t. vector x' t (pos 0)) ey

step_along_x : (e : Edge) → e.a.y ≡ e.b.y → (e.a.x ≡ e.b.x → ⊥)
    → step e ≡ vector (sign (int_lt e.a.x e.b.x)) (pos 0) (pos 0)
unfolding step
step_along_x e level other =
    let parts = divided_beside_zero (e.b.x -ℤ e.a.x) (e.b.y -ℤ e.a.y)
    (λ none. other (from_difference _ _ none)) (no_difference _ _ level) in
    same_vector (parts.0 ∙ ap sign (less_is_difference e.a.x e.b.x)) parts.1

step_along_y : (e : Edge) → e.a.x ≡ e.b.x → (e.a.y ≡ e.b.y → ⊥)
    → step e ≡ vector (pos 0) (sign (int_lt e.a.y e.b.y)) (pos 0)
unfolding step
step_along_y e upright other =
    let parts = divided_after_zero (e.b.x -ℤ e.a.x) (e.b.y -ℤ e.a.y)
    (no_difference _ _ upright) (λ none. other (from_difference _ _ none)) in
    same_vector parts.0 (parts.1 ∙ ap sign (less_is_difference e.a.y e.b.y))

-- ---- directions and normals

-- which way an edge runs, and what a side over it looks like
pub record IsHeaded (e : Edge) (forward : Bool) (direction normal : Vector) : Type 0 where
  pub runs_is : runs_along e ≡ forward
  pub direction_is : direction_of e ≡ direction
  pub normal_is : normal_over e ≡ normal

headed : (e : Edge) (v : Vector) → step e ≡ v
    → IsHeaded e (is_forward v.x v.y) (if is_forward v.x v.y then v else opposite v)
    (vector v.y (neg_ℤ v.x) (pos 0))
unfolding runs_along direction_of normal_over
headed e v is = record { runs_is = rw is refl; direction_is = rw is refl; normal_is = rw is refl }

headed_by_x : (e : Edge) (forward : Bool) → step e ≡ vector (sign forward) (pos 0) (pos 0)
    → IsHeaded e forward axis_x (vector (pos 0) (if forward then negsuc 0 else pos 1) (pos 0))
headed_by_x e true is = headed e (vector (pos 1) (pos 0) (pos 0)) is
headed_by_x e false is = headed e (vector (negsuc 0) (pos 0) (pos 0)) is

headed_by_y : (e : Edge) (forward : Bool) → step e ≡ vector (pos 0) (sign forward) (pos 0)
    → IsHeaded e forward axis_y (vector (sign forward) (pos 0) (pos 0))
headed_by_y e true is = headed e (vector (pos 0) (pos 1) (pos 0)) is
headed_by_y e false is = headed e (vector (pos 0) (negsuc 0) (pos 0)) is

-- an edge along x has the direction (1, 0); it runs along it where x grows
pub headed_along_x : (e : Edge) → e.a.y ≡ e.b.y → (e.a.x ≡ e.b.x → ⊥)
    → IsHeaded e (int_lt e.a.x e.b.x) axis_x
    (vector (pos 0) (if int_lt e.a.x e.b.x then negsuc 0 else pos 1) (pos 0))
headed_along_x e level other =
    headed_by_x e (int_lt e.a.x e.b.x) (step_along_x e level other)

-- an edge along y has the direction (0, 1); it runs along it where y grows
pub headed_along_y : (e : Edge) → e.a.x ≡ e.b.x → (e.a.y ≡ e.b.y → ⊥)
    → IsHeaded e (int_lt e.a.y e.b.y) axis_y
    (vector (sign (int_lt e.a.y e.b.y)) (pos 0) (pos 0))
headed_along_y e upright other =
    headed_by_y e (int_lt e.a.y e.b.y) (step_along_y e upright other)

differ_rising : (a b : ℤ) → a <ℤ b → a ≡ b → ⊥
differ_rising a b less same = omega (arith, ints)

differ_falling : (a b : ℤ) → b <ℤ a → a ≡ b → ⊥
differ_falling a b less same = omega (arith, ints)

falls : (a b : ℤ) → b <ℤ a → int_lt a b ≡ false
falls a b less = test_not_less a b (omega (arith, ints))

-- to greater x: the normal points to smaller y
pub headed_east : (xa xb y : ℤ) → xa <ℤ xb
    → IsHeaded (edge (corner xa y) (corner xb y)) true axis_x (vector (pos 0) (negsuc 0) (pos 0))
headed_east xa xb y less =
    headed_by_x _ true (step_along_x (edge (corner xa y) (corner xb y)) refl
    (differ_rising xa xb less)
    ∙ ap (λ b. vector (sign b) (pos 0) (pos 0)) (test_less xa xb less))

-- to smaller x: to greater y
pub headed_west : (xa xb y : ℤ) → xb <ℤ xa
    → IsHeaded (edge (corner xa y) (corner xb y)) false axis_x (vector (pos 0) (pos 1) (pos 0))
headed_west xa xb y less =
    headed_by_x _ false (step_along_x (edge (corner xa y) (corner xb y)) refl
    (differ_falling xa xb less)
    ∙ ap (λ b. vector (sign b) (pos 0) (pos 0)) (falls xa xb less))

-- to greater y: to greater x
pub headed_north : (x ya yb : ℤ) → ya <ℤ yb
    → IsHeaded (edge (corner x ya) (corner x yb)) true axis_y (vector (pos 1) (pos 0) (pos 0))
headed_north x ya yb less =
    headed_by_y _ true (step_along_y (edge (corner x ya) (corner x yb)) refl
    (differ_rising ya yb less)
    ∙ ap (λ b. vector (pos 0) (sign b) (pos 0)) (test_less ya yb less))

-- to smaller y: to smaller x
pub headed_south : (x ya yb : ℤ) → yb <ℤ ya
    → IsHeaded (edge (corner x ya) (corner x yb)) false axis_y (vector (negsuc 0) (pos 0) (pos 0))
headed_south x ya yb less =
    headed_by_y _ false (step_along_y (edge (corner x ya) (corner x yb)) refl
    (differ_falling ya yb less)
    ∙ ap (λ b. vector (pos 0) (sign b) (pos 0)) (falls ya yb less))
