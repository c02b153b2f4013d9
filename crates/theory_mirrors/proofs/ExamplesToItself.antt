-- A walk from a room through a wall to the room itself, and its way back.
use Rattle.std.proofs.Common.{◌≡◌, refl, inl, pos, true, IsTrue, [], ◌∷◌}
use Rattle.theory_numbers.specs.Arrows.{cross, dot}
use Rattle.theory_numbers.specs.Divisors.{greatest_divisor, divisor_within}
use Rattle.theory_numbers.specs.Fractions.{reduced, whole}
use Rattle.theory_plane.specs.Sides.{clearance}
use Rattle.sb_fraction.specs.Directions.{step, runs_along, direction_of, normal_over}
use Rattle.sb_fraction.specs.Edges.{edge}
use Rattle.sb_fraction.specs.Lines.{span_along}
use Rattle.sb_fraction.specs.Spots.{spot}
use Rattle.sb_model.specs.declared.layers.Layering.TheVariants.{Plain}
use Rattle.sb_model.specs.declared.walk.End.TheVariants as end
use Rattle.sb_model.specs.declared.walk.Walk.{Walk}
use Rattle.sb_model.specs.Surfaces.Faces.{side_over}
use Rattle.sb_model.specs.PlanEdges.{plan_edges}
use Rattle.sb_model.specs.Solids.{Upright, is_upright}
use Rattle.sb_model.specs.Walks.{item, IsWalk}
use Rattle.theory_models.proofs.ExampleModels.{plan_point, slab, room, box_element, model}
use Rattle.theory_lines.specs.Slabs.{spanning_places}
use Rattle.theory_gaps.specs.Laws.{way_along}
use Rattle.theory_gaps.proofs.OneWalkEach.{walk_of}
use Rattle.theory_gaps.proofs.OrdersByTests.{rising_numbers}
use Rattle.theory_gaps.proofs.Examples.{at, SideCase, is_side_case, reads, walk_of_case}
use Rattle.theory_mirrors.specs.Laws.{HasWayBack, far_point}
use Rattle.theory_mirrors.proofs.ModelsApart.{one_alone}
use Rattle.theory_mirrors.proofs.Examples.{side_case_turns}

-- a room on three sides of a wall
abbrev around_a_wall : Upright
around_a_wall =
    slab
    (plan_point 0 0 ∷ plan_point 8100 0 ∷ plan_point 8100 3000 ∷ plan_point 4100 3000
    ∷ plan_point 4100 1000 ∷ plan_point 4000 1000 ∷ plan_point 4000 3000 ∷ plan_point 0 3000 ∷ []) 0
    2500

around_is_solid : IsTrue (is_upright around_a_wall)
unfolding cross dot
around_is_solid = refl

abbrev to_itself : SideCase
to_itself =
    record {
      model =
          model (room 20 around_a_wall around_is_solid ∷ [])
          (box_element 30 4000 4100 1000 3000 2500 refl Plain ∷ []);
      room = room 20 around_a_wall around_is_solid;
      side = 5;
      over = edge (plan_point 4000 1000) (plan_point 4000 3000);
      low = at 1000;
      high = at 3000;
      order = 1 ∷ 3 ∷ 9 ∷ 5 ∷ 11 ∷ 7 ∷ [];
      point = spot (pos 4000) (pos 2000) (pos 1000) (pos 1);
    }

itself_is_case : is_side_case to_itself ≡ true
unfolding cross dot clearance span_along step runs_along direction_of greatest_divisor divisor_within
itself_is_case = refl

itself_places : rising_numbers to_itself.order
    ≡ spanning_places (plan_edges to_itself.model) (way_along to_itself.over) (at 1000) (at 3000)
unfolding cross step runs_along direction_of greatest_divisor divisor_within
itself_places = refl

abbrev wall_and_itself : Walk
wall_and_itself = walk_of (item 30 0 (whole (pos 100000)) ∷ []) (pos 100) (end.Space 20)

itself_reads : reads to_itself wall_and_itself
unfolding cross dot step runs_along direction_of normal_over reduced greatest_divisor divisor_within
itself_reads = refl

itself_walk : IsWalk to_itself.model (side_over to_itself.over) to_itself.point wall_and_itself
itself_walk =
    (walk_of_case to_itself (inl refl) refl itself_places itself_is_case wall_and_itself).1 itself_reads

-- the way back is one from the room to itself
itself_turns : HasWayBack to_itself.model (side_over to_itself.over) wall_and_itself 20 20
    (far_point to_itself.point (side_over to_itself.over) wall_and_itself)
itself_turns =
    side_case_turns to_itself (inl refl) refl itself_is_case
    (one_alone to_itself.model (room 20 around_a_wall around_is_solid) refl) wall_and_itself itself_walk 20
    refl
