-- Worked walks and their ways back: through layers from both sides, between touching rooms.
use Rattle.std.proofs.Common.{◌≡◌, refl, arith, inl, inr, ℕ, pos, ◌<ℤ◌, true, [], ◌∷◌, Some}
use Rattle.std.proofs.Common.{ap, sym, ◌∙◌}
use Rattle.std.proofs.lemmas.Int.{ints}
use Rattle.std.proofs.lemmas.Bool.{and_parts}
use Rattle.theory_lists.specs.Members.{Stands}
use Rattle.theory_numbers.specs.Arrows.{cross, dot}
use Rattle.theory_numbers.specs.Divisors.{greatest_divisor, divisor_within}
use Rattle.theory_numbers.specs.Fractions.{reduced}
use Rattle.theory_numbers.specs.Tests.{is_positive}
use Rattle.theory_numbers.proofs.Signs.{less_from, at_most_from}
use Rattle.theory_plane.specs.Sides.{clearance}
use Rattle.sb_fraction.specs.Directions.{axis_x, step, runs_along, direction_of, normal_over}
use Rattle.sb_fraction.specs.Edges.{edge}
use Rattle.sb_fraction.specs.Lines.{span_along}
use Rattle.sb_fraction.specs.Spots.{inner}
use Rattle.sb_model.specs.declared.faces.face.FaceKind.TheVariants as kind
use Rattle.sb_model.specs.declared.walk.End.TheVariants as end
use Rattle.sb_model.specs.declared.walk.Walk.{Walk}
use Rattle.sb_model.specs.Building.{is_building}
use Rattle.sb_model.specs.Surfaces.Faces.{edge_numbered, side_over, side_of}
use Rattle.sb_model.specs.Labels.{low_along, high_along}
use Rattle.sb_model.specs.Surfaces.PlainPoints.{is_plain}
use Rattle.sb_model.specs.PlanEdges.{plan_edges}
use Rattle.sb_model.specs.Walks.{IsWalk}
use Rattle.theory_models.proofs.ExampleModels.{plan_point, box_room}
use Rattle.theory_models.proofs.ExampleModels.{layered_wall_between_rooms}
use Rattle.theory_lines.specs.Slabs.{spanning_places}
use Rattle.theory_gaps.specs.Laws.{way_along}
use Rattle.theory_gaps.proofs.OneWalkEach.{walk_of}
use Rattle.theory_gaps.proofs.OrdersByTests.{rising_numbers}
use Rattle.theory_gaps.proofs.Examples.{at, SideCase, is_side_case, reads, walk_of_case, on_east_side}
use Rattle.theory_gaps.proofs.Examples.{through_the_wall, wall_is_case, layers_and_room, wall_walk}
use Rattle.theory_gaps.proofs.Examples.{touching, touching_is_case, touching_walk}
use Rattle.theory_mirrors.specs.Laws.{HaveNoOverlap, HasWayBack, walk_back, far_point}
use Rattle.theory_mirrors.proofs.ModelsApart.{two_beside}
use Rattle.theory_mirrors.proofs.ReversedWalks.{has_reversed_walks}

-- a walk of a side case has its way back
pub side_case_turns : (c : SideCase) → Stands c.room c.model.spaces
    → edge_numbered c.room.prism c.side ≡ Some c.over → is_side_case c ≡ true → HaveNoOverlap c.model
    → (w : Walk) → IsWalk c.model (side_over c.over) c.point w → (to : ℕ) → w.end ≡ end.Space to
    → HasWayBack c.model (side_over c.over) w c.room.number to
    (far_point c.point (side_over c.over) w)
side_case_turns c room_in found answer alone w walks to ends =
    let first = and_parts (is_building c.model) _ answer in
    let second = and_parts (is_positive (dot (way_along c.over) (way_along c.over))) _ first.1 in
    let third = and_parts _ _ second.1 in
    let fourth = and_parts _ _ third.1 in
    let fifth = and_parts (is_positive c.point.w) _ fourth.1 in
    let sixth = and_parts (is_plain c.model c.room.prism (kind.Side c.side) c.point) _ fifth.1 in
    has_reversed_walks c.model first.0 alone c.room room_in (kind.Side c.side) (side_over c.over)
    (ap side_of found) c.point (less_from (pos 0) c.point.w fifth.0) sixth.0 w walks to ends

level_some : pos 0 <ℤ inner axis_x axis_x
level_some = omega (arith, ints)

-- ---- three layers, from both sides

rooms_apart : HaveNoOverlap layered_wall_between_rooms
rooms_apart =
    two_beside layered_wall_between_rooms (box_room 20 0 4000 0 3000 2500 refl)
    (box_room 21 4100 8100 0 3000 2500 refl) axis_x refl level_some
    (at_most_from (high_along (box_room 20 0 4000 0 3000 2500 refl).prism axis_x)
    (low_along (box_room 21 4100 8100 0 3000 2500 refl).prism axis_x) refl)

-- from room #20 there is a way back
wall_turns : HasWayBack layered_wall_between_rooms (side_over through_the_wall.over) layers_and_room 20 21
    (far_point (on_east_side 4000 1000) (side_over through_the_wall.over) layers_and_room)
wall_turns =
    side_case_turns through_the_wall (inl refl) refl wall_is_case rooms_apart layers_and_room wall_walk 21
    refl

-- it is the walk of Side(3) of room #21
abbrev from_the_other_room : SideCase
from_the_other_room =
    record {
      model = layered_wall_between_rooms;
      room = box_room 21 4100 8100 0 3000 2500 refl;
      side = 3;
      over = edge (plan_point 4100 3000) (plan_point 4100 0);
      low = at 0;
      high = at 3000;
      order = 5 ∷ 7 ∷ 9 ∷ 1 ∷ 11 ∷ 3 ∷ [];
      point = on_east_side 4100 1000;
    }

other_is_case : is_side_case from_the_other_room ≡ true
unfolding cross dot clearance span_along step runs_along direction_of greatest_divisor divisor_within
other_is_case = refl

other_places : rising_numbers from_the_other_room.order
    ≡ spanning_places (plan_edges layered_wall_between_rooms) (way_along from_the_other_room.over) (at 0)
    (at 3000)
unfolding cross step runs_along direction_of greatest_divisor divisor_within
other_places = refl

-- gypsum, brick and plaster, and the first room
other_reads : reads from_the_other_room (walk_back layers_and_room 20)
unfolding cross dot step runs_along direction_of normal_over reduced greatest_divisor divisor_within
other_reads = refl

other_walk : IsWalk layered_wall_between_rooms (side_over from_the_other_room.over)
    (on_east_side 4100 1000) (walk_back layers_and_room 20)
other_walk =
    (walk_of_case from_the_other_room (inr (inl refl)) refl other_places other_is_case
    (walk_back layers_and_room 20)).1
    other_reads

-- and has its own way back
other_turns : HasWayBack layered_wall_between_rooms (side_over from_the_other_room.over)
    (walk_back layers_and_room 20) 21 20
    (far_point (on_east_side 4100 1000) (side_over from_the_other_room.over)
    (walk_back layers_and_room 20))
other_turns =
    side_case_turns from_the_other_room (inr (inl refl)) refl other_is_case rooms_apart
    (walk_back layers_and_room 20) other_walk 20 refl

-- ---- touching rooms

-- at depth 0 the way back begins at the same point
touching_turns : HasWayBack touching.model (side_over touching.over) (walk_of [] (pos 0) (end.Space 21)) 20
    21 (far_point touching.point (side_over touching.over) (walk_of [] (pos 0) (end.Space 21)))
touching_turns =
    side_case_turns touching (inl refl) refl touching_is_case
    (two_beside touching.model (box_room 20 0 4000 0 3000 2500 refl)
    (box_room 21 4000 8000 0 3000 2500 refl) axis_x refl level_some
    (at_most_from (high_along (box_room 20 0 4000 0 3000 2500 refl).prism axis_x)
    (low_along (box_room 21 4000 8000 0 3000 2500 refl).prism axis_x) refl))
    (walk_of [] (pos 0) (end.Space 21)) touching_walk 21 refl

-- ---- where there is no law

-- a walk that ends at an element, as at one that ends on a slant, has no way back
ends_at_no_space : (w : Walk) (k n : ℕ) → w.end ≡ end.Solid k → w.end ≡ end.Space n → ⊥
ends_at_no_space w k n one other = let same : end.Solid k ≡ end.Space n = sym one ∙ other in cc
