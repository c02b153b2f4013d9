-- Two homogeneous points are one point where their coordinates are the same numbers; so of points that ascend
-- no two are one.

use Rattle.std.proofs.Common.{◌≡◌, sym, arith, ℤ, pos, ◌*ℤ◌, List}
use Rattle.std.proofs.Common.{refl}
use Rattle.std.specs.Cmp.{IsTotalOrder}
use Rattle.std.specs.declared.cmp.Ordering.{Ordering}
use Rattle.std.specs.declared.cmp.Ordering.TheVariants.{Less, Equal, Greater}
use Rattle.std.specs.Ordering.{ordering_then}
use Rattle.std.proofs.lemmas.Cmp.{then_total}
use Rattle.std.proofs.lemmas.Int.{ints}
use Rattle.theory_lists.specs.Members.{AllOfTwo}
use Rattle.theory_lists.proofs.Members.{two_follow}
use Rattle.theory_numbers.specs.Arrows.{Arrow, cross}
use Rattle.theory_numbers.specs.Rationals.{rational, IsSame}
use Rattle.theory_numbers.proofs.Fractions.Rationals.{same_trans}
use Rattle.theory_numbers.proofs.Ring.{mul_comm}
use Rattle.theory_numbers.proofs.Signs.{less_from}
use Rattle.sb_fraction.specs.Spots.{Spot, IsSpot, spot_of}
use Rattle.sb_fraction.specs.Numbers.{order_of}
use Rattle.sb_fraction.specs.Meetings.{IsSamePoint}
use Rattle.sb_frame.specs.declared.crossing.Crossing.{Crossing}
use Rattle.sb_frame.specs.Found.{order_of_points, Ascend}
use Rattle.sb_frame.proofs.Orders.NumbersInOrder.{numbers_total, same_order, same_from}

-- ---- points as two numbers

across_from_same : (a m b n : ℤ) → IsSame (rational a m) (rational b n) → a *ℤ n ≡ b *ℤ m
unfolding cross
across_from_same a m b n same = let turn = mul_comm m b in omega (arith, ints, same)

same_from_across : (a m b n : ℤ) → a *ℤ n ≡ b *ℤ m → IsSame (rational a m) (rational b n)
unfolding cross
same_from_across a m b n across = let turn = mul_comm m b in omega (arith, ints)

-- one point has one x and one y
record HasSameNumbers (p q : Spot) : Type 0 where
  x : IsSame (rational p.x p.w) (rational q.x q.w)
  y : IsSame (rational p.y p.w) (rational q.y q.w)

numbers_of_same : (p q : Spot) → IsSamePoint p q → HasSameNumbers p q
numbers_of_same p q same =
    record {
      x = same_from_across p.x p.w q.x q.w same.0;
      y = same_from_across p.y p.w q.y q.w same.1;
    }

same_of_numbers : (p q : Spot) → HasSameNumbers p q → IsSamePoint p q
same_of_numbers p q same =
    (across_from_same p.x p.w q.x q.w same.x, across_from_same p.y p.w q.y q.w same.y)

pub same_point_sym : (p q : Spot) → IsSamePoint p q → IsSamePoint q p
same_point_sym p q same = (sym same.0, sym same.1)

pub same_point_trans : (p q r : Spot) → IsSpot q → IsSamePoint p q → IsSamePoint q r
    → IsSamePoint p r
same_point_trans p q r q_is first second =
    let one = numbers_of_same p q first in
    let other = numbers_of_same q r second in
    same_of_numbers p r
    (record {
      x = same_trans (rational p.x p.w) (rational q.x q.w) (rational r.x r.w) q_is one.x other.x;
      y = same_trans (rational p.y p.w) (rational q.y q.w) (rational r.y r.w) q_is one.y other.y;
    })

-- ---- crossings in order

pub point_is : (c : Crossing) → IsSpot (spot_of c.point)
point_is c = less_from (pos 0) c.point.w c.point.positive

-- by x and then by y crossings are in an order
pub points_total : IsTotalOrder order_of_points
points_total =
    then_total (numbers_total (λ c. rational c.point.x c.point.w) point_is)
    (numbers_total (λ c. rational c.point.y c.point.w) point_is)

both_equal : (o p : Ordering) → ordering_then o p ≡ Equal → (o ≡ Equal) × (p ≡ Equal)
both_equal Less p is = absurd cc
both_equal Equal p is = (refl, is)
both_equal Greater p is = absurd cc

-- crossings that are equal by it are one point
pub same_if_equal : (c d : Crossing) → order_of_points c d ≡ Equal
    → IsSamePoint (spot_of c.point) (spot_of d.point)
same_if_equal c d equal =
    let x_of : Crossing → Arrow = λ e. rational e.point.x e.point.w in
    let y_of : Crossing → Arrow = λ e. rational e.point.y e.point.w in
    let parts = both_equal (order_of (x_of c) (x_of d)) (order_of (y_of c) (y_of d)) equal in
    same_of_numbers (spot_of c.point) (spot_of d.point)
    (record {
      x = same_from (x_of c) (x_of d) parts.0;
      y = same_from (y_of c) (y_of d) parts.1;
    })

equal_if_same : (c d : Crossing) → IsSamePoint (spot_of c.point) (spot_of d.point)
    → order_of_points c d ≡ Equal
equal_if_same c d same =
    let x_of : Crossing → Arrow = λ e. rational e.point.x e.point.w in
    let y_of : Crossing → Arrow = λ e. rational e.point.y e.point.w in
    let numbers = numbers_of_same (spot_of c.point) (spot_of d.point) same in
    both (order_of (x_of c) (x_of d)) (order_of (y_of c) (y_of d))
    (same_order (x_of c) (x_of d) numbers.x) (same_order (y_of c) (y_of d) numbers.y)
  where
    both : (o p : Ordering) → o ≡ Equal → p ≡ Equal → ordering_then o p ≡ Equal
    both o p first second = rw (first, second) refl

-- of crossings that ascend no two are one point
pub ascending_are_once : (list : List Crossing) → Ascend list
    → AllOfTwo (λ c d. IsSamePoint (spot_of c.point) (spot_of d.point) → ⊥) list
ascending_are_once list ascend =
    two_follow (λ c d. order_of_points c d ≡ Less)
    (λ c d. IsSamePoint (spot_of c.point) (spot_of d.point) → ⊥) list
    (λ c d c_in d_in less same. clash (order_of_points c d) less (equal_if_same c d same)) ascend
  where
    clash : (o : Ordering) → o ≡ Less → o ≡ Equal → ⊥
    clash o less equal = absurd cc
