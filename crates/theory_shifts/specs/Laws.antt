-- The laws of loops that are moved as a whole.
use Rattle.std.specs.Prelude.{◌≡◌, true, List}
use Rattle.std.specs.List.{list_all}
use Rattle.theory_numbers.specs.Arrows.{Arrow}
use Rattle.sb_fraction.specs.declared.point.Point.{Point}
use Rattle.sb_fraction.specs.Plane.{is_plan_point}
use Rattle.theory_plans.specs.Plans.{is_plan}
use Rattle.theory_loops.specs.Normal.{normal_loop}
use Rattle.theory_loops.specs.Answers.{are_flat, are_knotted, plan_of}
use Rattle.theory_shifts.specs.Shifts.{moved_loop, moved_loops}

-- the normal form of a loop moves with it
abbrev pub HasNormalMoved : Type 0
HasNormalMoved =
    (d : Arrow) (points : List Point) → normal_loop (moved_loop d points) ≡ moved_loop d (normal_loop points)

-- moved loops are flat where the loops are
abbrev pub HasFlatMoved : Type 0
HasFlatMoved = (d : Arrow) (loops : List (List Point)) → are_flat (moved_loops d loops) ≡ are_flat loops

-- and knotted where they are
abbrev pub HasKnottedMoved : Type 0
HasKnottedMoved =
    (d : Arrow) (loops : List (List Point)) → are_knotted (moved_loops d loops) ≡ are_knotted loops

-- their plan is that of the loops, moved
abbrev pub HasPlanMoved : Type 0
HasPlanMoved =
    (d : Arrow) (loops : List (List Point)) → plan_of (moved_loops d loops) ≡ moved_loops d (plan_of loops)

-- a plan that is moved and is still in range is a plan
abbrev pub HasStillPlan : Type 0
HasStillPlan =
    (d : Arrow) (loops : List (List Point)) → is_plan loops ≡ true
    → list_all (list_all is_plan_point) (moved_loops d loops) ≡ true → is_plan (moved_loops d loops) ≡ true
