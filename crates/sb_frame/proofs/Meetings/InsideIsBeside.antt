-- An edge that has a point strictly inside has its square millimetre between its ends.

use Rattle.std.proofs.Common.{◌≡◌, refl, ◌∙◌, sym, ap, ℤ, pos, ◌<ℤ◌, ◌≤ℤ◌, ◌-ℤ◌, ◌*ℤ◌}
use Rattle.std.proofs.Common.{Bool, true, false, ◌&&◌}
use Rattle.std.specs.Int.{int_min, int_max}
use Rattle.std.proofs.lemmas.Bool.{false_from_ne_true, false≢true}
use Rattle.theory_numbers.proofs.Signs.{test_at_most, less_from}
use Rattle.sb_fraction.specs.declared.point.HPoint.{HPoint}
use Rattle.sb_fraction.specs.Spots.{Spot, IsSpot, spot_of}
use Rattle.sb_fraction.specs.Edges.{Edge, is_within}
use Rattle.sb_frame.specs.Through.{whole_below, IsCellOf, is_between, is_beside}
use Rattle.sb_frame.proofs.Meetings.ApartAlongX.{facing_x, facing_y}
use Rattle.sb_frame.proofs.Meetings.BetweenEnds.{from_least, to_greatest}
use Rattle.sb_frame.proofs.Meetings.WholeNumberBelow.{at_least_whole, at_most_whole}

-- two tests that hold
both_hold : (s t : Bool) → s ≡ true → t ≡ true → s && t ≡ true
both_hold true true first second = refl
both_hold true false first second = second
both_hold false t first second = first

between : (a b x w : ℤ) → pos 0 <ℤ w
    → (((a *ℤ w) -ℤ x) *ℤ ((b *ℤ w) -ℤ x)) ≤ℤ pos 0
    → is_between a b (whole_below x w) ≡ true
between a b x w w_is facing =
    both_hold _ _
    (test_at_most (int_min a b) (whole_below x w)
    (at_least_whole x w (int_min a b) w_is (from_least a b x w w_is facing)))
    (test_at_most (whole_below x w) (int_max a b)
    (at_most_whole x w (int_max a b) w_is (to_greatest a b x w w_is facing)))

pub inside_is_beside : (p : Spot) (e : Edge) (x y : ℤ) → IsSpot p → IsCellOf p x y
    → is_within p e ≡ true → is_beside x y e ≡ true
inside_is_beside p e x y p_is cell within =
    both_hold _ _
    (ap (is_between e.a.x e.b.x) cell.0 ∙ between e.a.x e.b.x p.x p.w p_is (facing_x p e within))
    (ap (is_between e.a.y e.b.y) cell.1 ∙ between e.a.y e.b.y p.y p.w p_is (facing_y p e within))

-- so an edge that has it not there does not have the point inside
pub not_inside : (p : HPoint) (e : Edge) (x y : ℤ) → IsCellOf (spot_of p) x y
    → (b : Bool) → b ≡ is_beside x y e → b ≡ false → b ≡ is_within (spot_of p) e
not_inside p e x y cell b is fails =
    fails
    ∙ sym
    (false_from_ne_true (is_within (spot_of p) e)
    (λ within.
    false≢true
    (sym fails ∙ is
    ∙ inside_is_beside (spot_of p) e x y (less_from (pos 0) p.w p.positive) cell within)))
