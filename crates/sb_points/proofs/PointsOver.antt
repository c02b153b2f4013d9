-- A point over a point of the plan lies inside a plan where that does, and between heights where its
-- height does.

use Rattle.std.proofs.Common.{ℤ, pos, ◌≡◌, ◌<ℤ◌, ◌*ℤ◌, Bool, true, false, ◌&&◌, int_lt, List, ap, ap₂, sym, ◌∙◌, arith}
use Rattle.std.proofs.Math.Bool.{and-true, and-false}
use Rattle.theory_numbers.specs.Fractions.{Ratio}
use Rattle.theory_numbers.proofs.Signs.{less_from}
use Rattle.theory_numbers.proofs.Multiples.{order_of_multiples}
use Rattle.theory_numbers.proofs.Shapes.{var, times, equal}
use Rattle.sb_fraction.specs.declared.point.Point.{Point}
use Rattle.sb_fraction.specs.declared.point.HPoint.{HPoint}
use Rattle.sb_fraction.specs.Spots.{spot_of}
use Rattle.theory_plans.specs.Inside.{is_in_plan}
use Rattle.theory_plans.proofs.PointsAlike.{inside_sees_no_factor}
use Rattle.sb_points.specs.Places.{spot_over, lies_between}

-- inside a plan
inside-over : (loops : List (List Point)) (p : HPoint) (z : Ratio) → pos 0 <ℤ z.den
    → is_in_plan loops (spot_of p) ≡ is_in_plan loops (spot_over p z)
inside-over loops p z positive = sym (inside_sees_no_factor loops z.den (spot_of p) positive)

positive_w : (p : HPoint) → pos 0 <ℤ p.w
positive_w p = less_from (pos 0) p.w p.positive

-- between heights
between-over : (z0 z1 : ℤ) (p : HPoint) (z : Ratio)
    → (int_lt (z0 *ℤ z.den) z.num && int_lt z.num (z1 *ℤ z.den)) ≡ lies_between z0 z1 (spot_over p z)
between-over z0 z1 p z =
    ap₂ (λ a b. a && b)
    (sym (order_of_multiples p.w (z0 *ℤ z.den) z.num (positive_w p))
    ∙ ap (λ t. int_lt t (p.w *ℤ z.num)) (moved z0 z.den p.w))
    (sym (order_of_multiples p.w z.num (z1 *ℤ z.den) (positive_w p))
    ∙ ap (int_lt (p.w *ℤ z.num)) (moved z1 z.den p.w))
  where
    moved : (a d w : ℤ) → w *ℤ (a *ℤ d) ≡ a *ℤ (d *ℤ w)
    moved a d w =
        equal (times (var w) (times (var a) (var d))) (times (var a) (times (var d) (var w)))
        (omega arith)

between : ℤ → ℤ → Ratio → Bool
between z0 z1 z = int_lt (z0 *ℤ z.den) z.num && int_lt z.num (z1 *ℤ z.den)

-- where its height lies between, a point over p lies in a prism where p lies inside the plan
pub contained : (loops : List (List Point)) (z0 z1 : ℤ) (p : HPoint) (z : Ratio) → pos 0 <ℤ z.den
    → (low high : ℤ) → low ≡ z0 → high ≡ z1 → (is_between : Bool)
    → is_between ≡ (int_lt (low *ℤ z.den) z.num && int_lt z.num (high *ℤ z.den))
    → is_between ≡ true → (inside : Bool) → inside ≡ is_in_plan loops (spot_of p)
    → inside ≡ (is_in_plan loops (spot_over p z) && lies_between z0 z1 (spot_over p z))
unfolding between
contained loops z0 z1 p z positive low high same_low same_high is_between is holds inside inside_is =
    let over = sym (between-over z0 z1 p z) ∙ sym (is ∙ ap₂ (λ a b. between a b z) same_low same_high) ∙ holds in
    inside_is ∙ inside-over loops p z positive
    ∙ rw over (sym (and-true (is_in_plan loops (spot_over p z))))

-- and nowhere else
pub not_contained : (loops : List (List Point)) (z0 z1 : ℤ) (p : HPoint) (z : Ratio) → pos 0 <ℤ z.den
    → (low high : ℤ) → low ≡ z0 → high ≡ z1 → (is_between : Bool)
    → is_between ≡ (int_lt (low *ℤ z.den) z.num && int_lt z.num (high *ℤ z.den))
    → is_between ≡ false
    → is_between ≡ (is_in_plan loops (spot_over p z) && lies_between z0 z1 (spot_over p z))
unfolding between
not_contained loops z0 z1 p z positive low high same_low same_high is_between is fails =
    let over = sym (between-over z0 z1 p z) ∙ sym (is ∙ ap₂ (λ a b. between a b z) same_low same_high) ∙ fails in
    fails ∙ rw over (sym (and-false (is_in_plan loops (spot_over p z))))
