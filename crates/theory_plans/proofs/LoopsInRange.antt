-- The points of a plan are in range.

use Rattle.std.proofs.Common.{◌≡◌, true, Bool, ◌&&◌, List, [], ◌∷◌, length, nat_le, IsTrue, refl}
use Rattle.std.specs.List.{list_all}
use Rattle.std.proofs.lemmas.Bool.{and_parts, and_from}
use Rattle.sb_fraction.specs.declared.point.Point.{Point}
use Rattle.sb_fraction.specs.Plane.{is_plan_point}
use Rattle.theory_plans.specs.Loops.{is_loop, are_loops, is_bent_loop, is_least_first}
use Rattle.theory_plans.specs.Plans.{is_plan, are_apart, keep_left}

loop_in_range : (points : List Point) → is_loop points ≡ true → list_all is_plan_point points ≡ true
loop_in_range points is =
    let bent = is_bent_loop points && is_least_first points in
    let rest = and_parts (nat_le 3 (length points)) (list_all is_plan_point points && bent) is in
    (and_parts (list_all is_plan_point points) bent rest.1).0

all_in_range : (loops : List (List Point)) → list_all is_loop loops ≡ true
    → list_all (list_all is_plan_point) loops ≡ true
all_in_range [] are = refl
all_in_range (points ∷ loops) are =
    let parts = and_parts (is_loop points) (list_all is_loop loops) are in
    and_from (list_all is_plan_point points) (list_all (list_all is_plan_point) loops)
    (loop_in_range points parts.0) (all_in_range loops parts.1)

-- each point of each loop of a plan
pub points_in_range : (loops : List (List Point)) → IsTrue (is_plan loops)
    → IsTrue (list_all (list_all is_plan_point) loops)
points_in_range loops plan =
    let parts = and_parts (are_loops loops) (are_apart loops && keep_left loops) plan in
    all_in_range loops (and_parts (nat_le 1 (length loops)) (list_all is_loop loops) parts.0).1
