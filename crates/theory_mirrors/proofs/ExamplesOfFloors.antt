-- A walk up through a floor between two rooms, and its way back.
use Rattle.std.proofs.Common.{◌≡◌, refl, arith, inl, inr, pos, ◌<ℤ◌, true, IsTrue, [], ◌∷◌}
use Rattle.std.proofs.lemmas.Int.{ints}
use Rattle.std.proofs.lemmas.Bool.{and_parts}
use Rattle.theory_numbers.specs.Arrows.{cross, dot}
use Rattle.theory_numbers.specs.Divisors.{greatest_divisor, divisor_within}
use Rattle.theory_numbers.specs.Fractions.{reduced, whole}
use Rattle.theory_numbers.specs.Tests.{is_positive}
use Rattle.theory_numbers.proofs.Signs.{less_from, at_most_from}
use Rattle.theory_plane.specs.Sides.{clearance, value_on}
use Rattle.theory_plans.specs.Rectangles.{rectangle}
use Rattle.sb_fraction.specs.Directions.{axis_z}
use Rattle.sb_fraction.specs.Lines.{span_along}
use Rattle.sb_fraction.specs.Spots.{spot, inner}
use Rattle.sb_model.specs.declared.faces.face.FaceKind.TheVariants as kind
use Rattle.sb_model.specs.declared.layers.Layering.TheVariants.{Plain}
use Rattle.sb_model.specs.declared.products.Space.{Space}
use Rattle.sb_model.specs.declared.walk.End.TheVariants as end
use Rattle.sb_model.specs.declared.walk.Walk.{Walk}
use Rattle.sb_model.specs.Building.{is_building}
use Rattle.sb_model.specs.Surfaces.Faces.{top_of}
use Rattle.sb_model.specs.Labels.{low_along, high_along}
use Rattle.sb_model.specs.Surfaces.PlainPoints.{is_plain}
use Rattle.sb_model.specs.PlanEdges.{plan_edges}
use Rattle.sb_model.specs.Solids.{Upright, is_upright}
use Rattle.sb_model.specs.Walks.{item, IsWalk}
use Rattle.theory_models.proofs.ExampleModels.{slab, room, box_room, element, model}
use Rattle.theory_lines.specs.Slabs.{spanning_places}
use Rattle.theory_gaps.proofs.OneWalkEach.{walk_of}
use Rattle.theory_gaps.proofs.OrdersByTests.{rising_numbers}
use Rattle.theory_gaps.proofs.Examples.{at}
use Rattle.theory_gaps.proofs.ExamplesUpAndDown as upright
use Rattle.theory_mirrors.specs.Laws.{HasWayBack, far_point}
use Rattle.theory_mirrors.proofs.ModelsApart.{two_beside}
use Rattle.theory_mirrors.proofs.ReversedWalks.{has_reversed_walks}

upright_some : pos 0 <ℤ inner axis_z axis_z
upright_some = omega (arith, ints)

abbrev upper_box : Upright
upper_box = slab (rectangle (pos 0) (pos 4000) (pos 0) (pos 3000)) 2700 5200

abbrev floor_box : Upright
floor_box = slab (rectangle (pos 0) (pos 4000) (pos 0) (pos 3000)) 2500 2700

upper_is_solid : IsTrue (is_upright upper_box)
unfolding cross dot
upper_is_solid = refl

floor_is_solid : IsTrue (is_upright floor_box)
unfolding cross dot
floor_is_solid = refl

abbrev room_below : Space
room_below = box_room 20 0 4000 0 3000 2500 refl

abbrev room_above : Space
room_above = room 21 upper_box upper_is_solid

abbrev through_the_floor : upright.LevelCase
through_the_floor =
    record {
      model = model (room_below ∷ room_above ∷ []) (element 30 floor_box floor_is_solid Plain ∷ []);
      room = room_below;
      face = kind.Top;
      surface = top_of room_below.prism;
      low = at 0;
      high = at 4000;
      order = 0 ∷ 4 ∷ 8 ∷ 2 ∷ 6 ∷ 10 ∷ [];
      point = spot (pos 1000) (pos 1000) (pos 2500) (pos 1);
      gap = 3;
    }

floor_is_case : upright.is_level_case through_the_floor ≡ true
unfolding cross dot clearance span_along value_on
floor_is_case = refl

floor_places : rising_numbers through_the_floor.order
    ≡ spanning_places (plan_edges through_the_floor.model) upright.along_x (at 0) (at 4000)
unfolding cross
floor_places = refl

abbrev floor_and_room : Walk
floor_and_room = walk_of (item 30 0 (whole (pos 200000)) ∷ []) (pos 200) (end.Space 21)

floor_reads : upright.reads through_the_floor floor_and_room
unfolding cross dot reduced greatest_divisor divisor_within
floor_reads = refl

floor_walk : IsWalk through_the_floor.model (top_of room_below.prism) through_the_floor.point
    floor_and_room
floor_walk =
    (upright.walk_of_case through_the_floor (inr refl) refl floor_places floor_is_case floor_and_room).1
    floor_reads

floor_turns : HasWayBack through_the_floor.model (top_of room_below.prism) floor_and_room 20 21
    (far_point through_the_floor.point (top_of room_below.prism) floor_and_room)
floor_turns =
    let first = and_parts (is_building through_the_floor.model) _ floor_is_case in
    let second = and_parts _ _ first.1 in
    let third = and_parts _ _ second.1 in
    let fourth = and_parts (is_positive through_the_floor.point.w) _ third.1 in
    let fifth =
    and_parts (is_plain through_the_floor.model room_below.prism kind.Top through_the_floor.point) _
    fourth.1
    in
    has_reversed_walks through_the_floor.model first.0
    (two_beside through_the_floor.model room_below room_above axis_z refl upright_some
    (at_most_from (high_along room_below.prism axis_z) (low_along room_above.prism axis_z) refl))
    room_below (inl refl) kind.Top (top_of room_below.prism) refl through_the_floor.point
    (less_from (pos 0) through_the_floor.point.w fourth.0) fifth.0 floor_and_room floor_walk 21 refl
