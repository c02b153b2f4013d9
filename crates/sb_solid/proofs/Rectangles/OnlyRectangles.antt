-- Loops that are one rectangle, and the box over a rectangle.
use Rattle.std.proofs.Common.{◌≡◌, ℤ, Bool, true, false, ◌||◌, List, [], ◌∷◌, length, Option, Some, None, refl, sym, ap, ◌∙◌, arith}
use Rattle.std.specs.Prelude.{int_lt, if◌then◌else◌}
use Rattle.std.specs.List.{list_all}
use Rattle.std.proofs.lemmas.Bool.{and_parts, or_from}
use Rattle.theory_numbers.proofs.Signs.{less_from, test_less}
use Rattle.sb_fraction.specs.declared.point.Point.{Point}
use Rattle.sb_fraction.specs.Plane.{is_plan_point}
use Rattle.theory_plans.specs.Rectangles.{rectangle}
use Rattle.theory_loops.specs.Normal.{normal_loop}
use Rattle.theory_loops.specs.Answers.{are_flat, are_knotted, plan_of}
use Rattle.theory_loops.proofs.PlansStay.{plan_stays}
use Rattle.sb_model.specs.Solids.{upright}
use Rattle.sb_solid.specs.declared.boxes.Corners.{Corners}
use Rattle.sb_solid.specs.Solids.{only_rectangle, rectangle_in}
use Rattle.sb_solid.specs.Boxes.{plan_where, between, pair_of, AreCornersWhere, IsOnly, first_rectangle, IsInterval}
use Rattle.sb_solid.proofs.Rectangles.RectanglesArePlans.{none_without_plan, same_as_plan, sides_apart}
use Rattle.sb_solid.proofs.PrismsInRange.{corners_in_range, rectangle_points_in}

-- ---- one rectangle

plan_by : (t : Bool) (p : List (List Point)) (plan : List (List Point)) → (if t then None else Some p) ≡ Some plan
    → plan ≡ p
plan_by true p plan is = absurd (cc)
plan_by false p plan is = cc

none_by : (t : Bool) (p : List (List Point)) → (if t then None else Some p) ≡ None → t ≡ true
none_by true p is = refl
none_by false p is = absurd (cc)

are_corners : (points : List Point) (r : Option Corners) → list_all is_plan_point points ≡ true
    → pair_of r ≡ rectangle_in (normal_loop points) → AreCornersWhere r
are_corners points None all is = tt
are_corners points (Some c) all is =
    let box = corners_in_range points (c.low, c.high) all (sym is) in
    record {
      low_in = box.low_in;
      high_in = box.high_in;
      along_x = test_less c.low.x c.high.x box.wide.along_x;
      along_y = test_less c.low.y c.high.y box.wide.along_y;
    }

pub only_is : (points plan : List (List Point)) (r : Option Corners) → length points ≡ 1
    → list_all (list_all is_plan_point) points ≡ true → plan_where points ≡ Some plan
    → pair_of r ≡ first_rectangle plan → IsOnly points r
only_is [] plan r one all is first = absurd (omega (arith, one))
only_is (a ∷ b ∷ points) plan r one all is first = absurd (omega (arith, one))
only_is (loop ∷ []) plan r one all is first =
    let same : pair_of r ≡ rectangle_in (normal_loop loop) =
    first
    ∙ ap first_rectangle (plan_by (are_flat (loop ∷ []) || are_knotted (loop ∷ [])) (plan_of (loop ∷ [])) plan is)
    ∙ same_as_plan loop in
    (same, are_corners loop r (and_parts (list_all is_plan_point loop) true all).0 same)

pub only_none : (points : List (List Point)) → length points ≡ 1
    → list_all (list_all is_plan_point) points ≡ true → plan_where points ≡ None → None ≡ only_rectangle points
only_none [] one all is = absurd (omega (arith, one))
only_none (a ∷ b ∷ points) one all is = absurd (omega (arith, one))
only_none (loop ∷ []) one all is =
    sym
    (none_without_plan loop (and_parts (list_all is_plan_point loop) true all).0
    (none_by (are_flat (loop ∷ []) || are_knotted (loop ∷ [])) (plan_of (loop ∷ [])) is))

-- ---- a box

module _ (x0 x1 y0 y1 : ℤ) (x : IsInterval x0 x1) (y : IsInterval y0 y1)
  where
    pub sides_in : list_all (list_all is_plan_point) (rectangle x0 x1 y0 y1 ∷ []) ≡ true
    sides_in = rectangle_points_in x0 x1 y0 y1 x.low_in x.high_in y.low_in y.high_in

    pub sides_stay : plan_where (rectangle x0 x1 y0 y1 ∷ []) ≡ Some (rectangle x0 x1 y0 y1 ∷ [])
    sides_stay =
        let stays = plan_stays (rectangle x0 x1 y0 y1 ∷ [])
        (sides_apart x0 x1 y0 y1 (less_from x0 x1 x.apart) (less_from y0 y1 y.apart) x.low_in x.high_in y.low_in y.high_in) in
        ap (λ t. if t then None else Some (plan_of (rectangle x0 x1 y0 y1 ∷ [])))
        (or_from (are_flat (rectangle x0 x1 y0 y1 ∷ [])) (are_knotted (rectangle x0 x1 y0 y1 ∷ [])) stays.0 stays.1.0)
        ∙ ap Some stays.1.1

pub between_is : (loops : List (List Point)) (a b : ℤ) → int_lt a b ≡ true → between loops a b ≡ Some (upright loops a b)
between_is loops a b less =
    ap (λ t. if t then Some (upright loops a b) else (if int_lt b a then Some (upright loops b a) else None)) less
