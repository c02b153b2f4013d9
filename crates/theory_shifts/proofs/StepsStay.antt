-- Steps between points, and their order, stay as they are when both are moved.
use Rattle.std.proofs.Common.{◌≡◌, ℤ, pos, ◌+ℤ◌, ◌-ℤ◌, ◌*ℤ◌, Bool, not, ◌&&◌, ◌||◌, ap, ap₂, ◌∙◌, arith}
use Rattle.std.specs.Prelude.{int_lt}
use Rattle.std.specs.Ordering.{int_eq}
use Rattle.std.proofs.lemmas.Int.{ints}
use Rattle.theory_numbers.specs.Arrows.{Arrow}
use Rattle.theory_numbers.proofs.Signs.{same_less, same_equal}
use Rattle.sb_fraction.specs.declared.point.Point.{Point}
use Rattle.theory_plans.specs.Loops.{bend, is_bent, comes_before}
use Rattle.theory_plans.specs.Plans.{is_same_point}
use Rattle.theory_shifts.specs.Shifts.{moved}

-- a difference
pub step-moved : (a b d : ℤ) → (b +ℤ d) -ℤ (a +ℤ d) ≡ b -ℤ a
step-moved a b d = omega (arith, ints)

-- the tests of order and of equality
pub less-moved : (a b d : ℤ) → int_lt (a +ℤ d) (b +ℤ d) ≡ int_lt a b
less-moved a b d =
    same_less (a +ℤ d) (b +ℤ d) a b (λ less. omega (arith, ints, less)) (λ less. omega (arith, ints, less))

pub equal-moved : (a b d : ℤ) → int_eq (a +ℤ d) (b +ℤ d) ≡ int_eq a b
equal-moved a b d =
    same_equal (a +ℤ d) (b +ℤ d) a b (λ same. omega (arith, ints, same)) (λ same. omega (arith, ints, same))

-- the bend of a way
pub bend-moved : (d : Arrow) (a b c : Point) → bend (moved d a) (moved d b) (moved d c) ≡ bend a b c
bend-moved d a b c =
    ap₂ (λ s t. s -ℤ t)
    (ap₂ (λ s t. s *ℤ t) (step-moved a.x b.x d.x) (step-moved b.y c.y d.y))
    (ap₂ (λ s t. s *ℤ t) (step-moved a.y b.y d.y) (step-moved b.x c.x d.x))

pub is_bent-moved : (d : Arrow) (a b c : Point) → is_bent (moved d a) (moved d b) (moved d c) ≡ is_bent a b c
is_bent-moved d a b c = ap (λ n. not (int_eq n (pos 0))) (bend-moved d a b c)

-- which of two points comes first
pub comes_before-moved : (d : Arrow) (a b : Point) → comes_before (moved d a) (moved d b) ≡ comes_before a b
comes_before-moved d a b =
    ap₂ (λ s t. s || t) (less-moved a.x b.x d.x)
    (ap₂ (λ s t. s && t) (equal-moved a.x b.x d.x) (less-moved a.y b.y d.y))

-- and whether they are one
pub same-moved : (d : Arrow) (a b : Point) → is_same_point (moved d a) (moved d b) ≡ is_same_point a b
same-moved d a b = ap₂ (λ s t. s && t) (equal-moved a.x b.x d.x) (equal-moved a.y b.y d.y)
