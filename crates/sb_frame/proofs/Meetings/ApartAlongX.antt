-- Edges that are apart along x do not cross.

use Rattle.std.proofs.Common.{◌≡◌, ap, ◌∙◌, arith, pos, ◌<ℤ◌, ◌≤ℤ◌, ◌*ℤ◌, true, int_lt}
use Rattle.std.specs.Ordering.{int_eq}
use Rattle.std.proofs.lemmas.Int.{ints, by_lt_z}
use Rattle.std.proofs.lemmas.Bool.{and_parts}
use Rattle.std.proofs.lemmas.Bool.Decides.{Decides-int_eq}
use Rattle.theory_numbers.specs.Arrows.{Arrow, arrow, cross, dot}
use Rattle.theory_numbers.proofs.Products.{negative_product, weak_square, scale_less}
use Rattle.theory_numbers.proofs.Ring.{mul_comm}
use Rattle.theory_numbers.proofs.Shapes.{var, times, equal, dot_eq, cross_eq}
use Rattle.theory_numbers.proofs.Signs.{less_from}
use Rattle.sb_fraction.specs.Spots.{Spot, IsSpot}
use Rattle.sb_fraction.specs.Edges.{Edge, seen_from, turn_at, reach_at, is_within}
use Rattle.sb_fraction.specs.Crossings.{cross_at}
use Rattle.sb_frame.specs.Found.{left_of, right_of}
use Rattle.sb_frame.proofs.Meetings.BetweenEnds.{from_least, to_greatest}
use Rattle.sb_frame.proofs.Meetings.EdgesCross.{crosses_is}

-- two ways that are opposite do not point to one side along x
opposite_x : (a b : Arrow) → cross a b ≡ pos 0 → dot a b <ℤ pos 0 → (a.x *ℤ b.x) ≤ℤ pos 0
opposite_x a b line across =
    by_lt_z (pos 0) (a.x *ℤ b.x)
    (λ above.
    let whole = dot_eq a b in
    let other = cross_eq a b in
    let below : (a.y *ℤ b.y) <ℤ pos 0 = omega (arith, ints) in
    let product = negative_product (a.x *ℤ b.x) (a.y *ℤ b.y) above below in
    let same : a.y *ℤ b.x ≡ a.x *ℤ b.y = omega (arith, ints) in
    let square = weak_square (a.x *ℤ b.y) in
    let regroup : (a.x *ℤ b.x) *ℤ (a.y *ℤ b.y) ≡ (a.x *ℤ b.y) *ℤ (a.y *ℤ b.x) =
    equal (times (times (var a.x) (var b.x)) (times (var a.y) (var b.y)))
    (times (times (var a.x) (var b.y)) (times (var a.y) (var b.x))) (omega arith) in
    let squared = regroup ∙ ap (λ n. (a.x *ℤ b.y) *ℤ n) same in
    absurd (omega (arith, ints)))
    (λ low. low)

-- nor along y
opposite_y : (a b : Arrow) → cross a b ≡ pos 0 → dot a b <ℤ pos 0 → (a.y *ℤ b.y) ≤ℤ pos 0
opposite_y a b line across =
    let whole = dot_eq a b in
    let other = cross_eq a b in
    let turned_whole = dot_eq (arrow a.y a.x) (arrow b.y b.x) in
    let turned_other = cross_eq (arrow a.y a.x) (arrow b.y b.x) in
    opposite_x (arrow a.y a.x) (arrow b.y b.x) (omega (arith, ints)) (omega (arith, ints))

-- ---- a point strictly inside an edge

module _ (p : Spot) (e : Edge) (within : is_within p e ≡ true) where
  parts : (turn_at e p ≡ pos 0) × (reach_at e p <ℤ pos 0)
  parts =
      let both = and_parts (int_eq (turn_at e p) (pos 0)) (int_lt (reach_at e p) (pos 0)) within in
      ((Decides-int_eq (turn_at e p) (pos 0)).0 both.0, less_from (reach_at e p) (pos 0) both.1)

  -- has its ends on two sides along x
  pub facing_x : ((seen_from p e.a).x *ℤ (seen_from p e.b).x) ≤ℤ pos 0
  facing_x = opposite_x (seen_from p e.a) (seen_from p e.b) parts.0 parts.1

  -- and along y
  pub facing_y : ((seen_from p e.a).y *ℤ (seen_from p e.b).y) ≤ℤ pos 0
  facing_y = opposite_y (seen_from p e.a) (seen_from p e.b) parts.0 parts.1

-- where one edge ends before the other begins the two do not cross
pub apart_along_x : (e f : Edge) → right_of e <ℤ left_of f → (p : Spot) → IsSpot p
    → cross_at p e f ≡ true → ⊥
apart_along_x e f apart p p_is crosses =
    let c = crosses_is p e f crosses in
    let before = to_greatest e.a.x e.b.x p.x p.w p_is (facing_x p e c.first) in
    let after = from_least f.a.x f.b.x p.x p.w p_is (facing_x p f c.second) in
    let grown = scale_less p.w (right_of e) (left_of f) p_is apart in
    let turned_e = mul_comm (right_of e) p.w in
    let turned_f = mul_comm (left_of f) p.w in
    omega (arith, ints)
