-- The box over a rectangle beside an axis is made between its sides.
use Rattle.std.proofs.Common.{◌≡◌, ℤ, Bool, true, false, [], ◌∷◌, Some, None, IsTrue, refl, sym, ap, arith}
use Rattle.std.specs.Prelude.{int_lt, if◌then◌else◌}
use Rattle.std.specs.Ordering.{int_eq}
use Rattle.std.proofs.lemmas.Int.{ints}
use Rattle.std.proofs.lemmas.Bool.{and_parts, false_from_ne_true}
use Rattle.std.proofs.lemmas.Bool.Decides.{Decides-int_eq}
use Rattle.theory_numbers.proofs.Signs.{test_less, not_less_from}
use Rattle.sb_fraction.specs.Plane.{is_coordinate}
use Rattle.theory_plans.specs.Rectangles.{rectangle}
use Rattle.sb_model.specs.Solids.{upright}
use Rattle.sb_solid.specs.declared.boxes.Corners.{Corners}
use Rattle.sb_solid.specs.Solids.{lower_of, upper_of}
use Rattle.sb_solid.specs.Boxes.{AreCorners, IsInterval, box_of}
use Rattle.sb_solid.proofs.PrismsInRange.{lower_in, upper_in}

-- ---- intervals

-- two ends that are not one, in order
pub ordered_apart : (a b : ℤ) → (a ≡ b → ⊥) → int_lt (lower_of a b) (upper_of a b) ≡ true
ordered_apart a b apart = by (int_lt b a) refl
  where
    by : (t : Bool) → int_lt b a ≡ t → int_lt (if t then b else a) (if t then a else b) ≡ true
    by true less = less
    by false least = let other = not_less_from b a least in test_less a b (omega (arith, ints, other, apart))

pub ordered_is : (a b : ℤ) → IsTrue (is_coordinate a) → IsTrue (is_coordinate b) → (a ≡ b → ⊥)
    → IsInterval (lower_of a b) (upper_of a b)
ordered_is a b a_in b_in apart = record {
  apart = ordered_apart a b apart;
  low_in = lower_in a b a_in b_in;
  high_in = upper_in a b a_in b_in;
}

-- the sides of a rectangle
pub side_x : (c : Corners) → AreCorners c → IsInterval c.low.x c.high.x
side_x c are = record {
  apart = are.along_x;
  low_in = (and_parts (is_coordinate c.low.x) (is_coordinate c.low.y) are.low_in).0;
  high_in = (and_parts (is_coordinate c.high.x) (is_coordinate c.high.y) are.high_in).0;
}

pub side_y : (c : Corners) → AreCorners c → IsInterval c.low.y c.high.y
side_y c are = record {
  apart = are.along_y;
  low_in = (and_parts (is_coordinate c.low.x) (is_coordinate c.low.y) are.low_in).1;
  high_in = (and_parts (is_coordinate c.high.x) (is_coordinate c.high.y) are.high_in).1;
}

-- ---- boxes

not_one : (a b : ℤ) → (a ≡ b → ⊥) → int_eq a b ≡ false
not_one a b apart = false_from_ne_true (int_eq a b) (λ same. apart ((Decides-int_eq a b).0 same))

-- what is made along x
pub box_x : (c : Corners) (a b : ℤ) → (a ≡ b → ⊥)
    → Some (upright (rectangle (lower_of a b) (upper_of a b) c.low.x c.high.x ∷ []) c.low.y c.high.y) ≡ box_of true c a b
box_x c a b apart =
    sym (ap (λ t. if t then None else Some (upright (rectangle (lower_of a b) (upper_of a b) c.low.x c.high.x ∷ []) c.low.y c.high.y))
    (not_one a b apart))

-- and along y
pub box_y : (c : Corners) (a b : ℤ) → (a ≡ b → ⊥)
    → Some (upright (rectangle c.low.x c.high.x (lower_of a b) (upper_of a b) ∷ []) c.low.y c.high.y) ≡ box_of false c a b
box_y c a b apart =
    sym (ap (λ t. if t then None else Some (upright (rectangle c.low.x c.high.x (lower_of a b) (upper_of a b) ∷ []) c.low.y c.high.y))
    (not_one a b apart))
