-- Which of three answers loops that are handed in get: their plan, or one of two refusals.

use Rattle.std.specs.Prelude.{Bool, not, ◌&&◌, ◌||◌, List, length, map, nat_lt}
use Rattle.std.specs.List.{list_any}
use Rattle.sb_fraction.specs.declared.point.Point.{Point}
use Rattle.theory_plans.specs.LoopEdges.{edges_of}
use Rattle.theory_plans.specs.Plans.{are_apart}
use Rattle.theory_parity.specs.Sides.{put_left}
use Rattle.theory_loops.specs.Normal.{normal_loop}

-- the loops, each normalised, in their order
abbrev pub normal_loops : List (List Point) → List (List Point)
normal_loops loops = map normal_loop loops

-- a loop keeps fewer than three points
abbrev pub keeps_few : List Point → Bool
keeps_few points = nat_lt (length (normal_loop points)) 3

-- the loops are flat: there is none, or one keeps fewer than three points
abbrev pub are_flat : List (List Point) → Bool
are_flat loops = nat_lt (length loops) 1 || list_any keeps_few loops

-- they are knotted: none is flat, and two edges meet otherwise than as consecutive ends
abbrev pub are_knotted : List (List Point) → Bool
are_knotted loops = not (are_flat loops) && not (are_apart (normal_loops loops))

-- the plan of loops that are neither: each loop normalised, and turned round where the solid does
-- not lie on its left, by parity over all of them
abbrev pub plan_of : List (List Point) → List (List Point)
plan_of loops = map (put_left (edges_of (normal_loops loops))) (normal_loops loops)
