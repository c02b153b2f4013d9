-- Worked walks of plain points, by the order of a slab and a computation.
use Rattle.std.proofs.Common.{◌≡◌, refl, ℕ, pos, Bool, true, ◌&&◌}
use Rattle.std.proofs.Common.{List, [], ◌∷◌, Some, inl}
use Rattle.std.proofs.Common.{◌↔◌}
use Rattle.std.proofs.Common.{◌==◌}
use Rattle.std.proofs.Common.{IsTrue}
use Rattle.std.proofs.Common.{ap}
use Rattle.std.proofs.Common.{false}
use Rattle.std.proofs.Common.{◌∙◌}
use Rattle.std.proofs.Common.{sym}
use Rattle.std.proofs.lemmas.Bool.{and_parts}
use Rattle.std.proofs.lemmas.Bool.{false≢true}
use Rattle.theory_lists.specs.Members.{Stands}
use Rattle.theory_numbers.specs.Arrows.{Arrow, cross, dot}
use Rattle.theory_numbers.specs.Divisors.{greatest_divisor, divisor_within}
use Rattle.theory_numbers.specs.Fractions.{reduced, whole}
use Rattle.theory_numbers.specs.Rationals.{rational, is_below}
use Rattle.theory_numbers.specs.Tests.{is_positive}
use Rattle.theory_numbers.proofs.Signs.{less_from}
use Rattle.theory_plane.specs.Sides.{clearance}
use Rattle.sb_fraction.specs.Directions.{step, runs_along, direction_of, normal_over}
use Rattle.sb_fraction.specs.Edges.{Edge, edge}
use Rattle.sb_fraction.specs.Lines.{span_along}
use Rattle.sb_fraction.specs.Spots.{Spot, spot, reading}
use Rattle.sb_model.specs.declared.faces.face.FaceKind.TheVariants as kind
use Rattle.sb_model.specs.declared.products.Space.{Space}
use Rattle.sb_model.specs.declared.walk.End.TheVariants as end
use Rattle.sb_fraction.specs.declared.unit.Unit.TheVariants as unit
use Rattle.sb_model.specs.declared.walk.Walk.{Walk}
use Rattle.sb_model.specs.Building.{Building, is_building}
use Rattle.sb_model.specs.Building.{building}
use Rattle.sb_model.specs.Surfaces.Faces.{edge_numbered, side_over}
use Rattle.sb_model.specs.Surfaces.PlainPoints.{is_plain}
use Rattle.sb_model.specs.PlanEdges.{plan_edges}
use Rattle.sb_model.specs.Walks.{course_of, item, IsWalk}
use Rattle.theory_models.proofs.ExampleModels.{plan_point, box_room, layered_wall_between_rooms}
use Rattle.theory_models.proofs.ExampleModels.{model}
use Rattle.theory_models.proofs.ExampleModels.{block}
use Rattle.theory_models.proofs.ExampleModels.{box_element}
use Rattle.theory_models.proofs.ExampleModels.{element}
use Rattle.theory_models.proofs.ExampleModels.{slab}
use Rattle.theory_parity.specs.Below.{IsWay}
use Rattle.theory_lines.specs.Slabs.{spanning_places}
use Rattle.theory_sight.specs.Reading.{read}
use Rattle.theory_gaps.specs.Borders.{stretches_outward}
use Rattle.theory_gaps.specs.Borders.{stretches_over}
use Rattle.theory_gaps.specs.Laws.{way_along}
use Rattle.theory_gaps.proofs.OneWalkEach.{walk_of}
use Rattle.theory_gaps.proofs.OrdersByTests.{is_slab_of, slab_by_test, rising_numbers, is_in_order}
use Rattle.theory_gaps.proofs.OrdersByTests.{order_by_test}
use Rattle.theory_gaps.proofs.OutwardFromSides.{has_walk_along_normal}
use Rattle.sb_model.specs.declared.layers.Layering.TheVariants.{Plain}
use Rattle.sb_model.specs.declared.products.Element.{Element}
use Rattle.sb_model.specs.declared.walk.End.{End}
use Rattle.sb_model.specs.Solids.{Upright}
use Rattle.sb_model.specs.Solids.{is_upright}
use Rattle.theory_models.proofs.BoxesAreSolid.{is_box}
use Rattle.theory_gaps.specs.Gaps.{edges_at}

-- the whole number n
abbrev pub at : ℕ → Arrow
at n = rational (pos n) (pos 1)

-- a side of a room of a model, a slab of its direction with its order, and a point of the side
pub record SideCase : Type 0 where
  pub model : Building
  pub room : Space
  pub side : ℕ
  pub over : Edge
  pub low : Arrow
  pub high : Arrow
  pub order : List ℕ
  pub point : Spot

-- the slab is one and the order sorted, and the point is a plain point of the side over it
abbrev pub is_side_case : SideCase → Bool
is_side_case c =
    is_building c.model
    && (is_positive (dot (way_along c.over) (way_along c.over))
    && (is_slab_of c.model (way_along c.over) c.low c.high
    && (is_in_order (plan_edges c.model) (way_along c.over) c.low c.order
    && (is_positive c.point.w
    && (is_plain c.model c.room.prism (kind.Side c.side) c.point
    && (is_below c.low (reading c.point (direction_of c.over))
    && is_below (reading c.point (direction_of c.over)) c.high))))))

-- what the side case reads outward
abbrev pub reads : SideCase → Walk → Type 0
reads c w =
    course_of w
    ≡ read c.model (normal_over c.over) ((side_over c.over).position) ((side_over c.over).position)
    (stretches_outward c.model c.over c.point c.order)

-- is the walk of its point, and no other is
pub walk_of_case : (c : SideCase) → Stands c.room c.model.spaces
    → edge_numbered c.room.prism c.side ≡ Some c.over
    → rising_numbers c.order ≡ spanning_places (plan_edges c.model) (way_along c.over) c.low c.high
    → is_side_case c ≡ true → (w : Walk)
    → IsWalk c.model (side_over c.over) c.point w ↔ reads c w
walk_of_case c room_in found places answer w =
    let d = way_along c.over in
    let first = and_parts (is_building c.model) _ answer in
    let second = and_parts (is_positive (dot (way_along c.over) (way_along c.over))) _ first.1 in
    let third = and_parts (is_slab_of c.model (way_along c.over) c.low c.high) _ second.1 in
    let fourth =
    and_parts (is_in_order (plan_edges c.model) (way_along c.over) c.low c.order) _ third.1
    in
    let fifth = and_parts (is_positive c.point.w) _ fourth.1 in
    let sixth = and_parts (is_plain c.model c.room.prism (kind.Side c.side) c.point) _ fifth.1 in
    let last =
    and_parts (is_below c.low (reading c.point (direction_of c.over)))
    (is_below (reading c.point (direction_of c.over)) c.high) sixth.1
    in
    let way : IsWay d = less_from (pos 0) (dot d d) second.0 in
    let slab = slab_by_test c.model d c.low c.high third.0 in
    has_walk_along_normal c.model first.0 c.room room_in c.side c.over found c.low c.high slab c.order
    (order_by_test c.model d c.low c.high way slab c.order places fourth.0) c.point
    (less_from (pos 0) c.point.w fifth.0) sixth.0
    (less_from (pos 0) (cross c.low (reading c.point (direction_of c.over))) last.0)
    (less_from (pos 0) (cross (reading c.point (direction_of c.over)) c.high) last.1) w

-- a point at x = 1500 along y and at height z
abbrev pub on_east_side : ℕ → ℕ → Spot
on_east_side x z = spot (pos x) (pos 1500) (pos z) (pos 1)

-- Side(1) of a room from x = 0 to x = 4000, over the slab along y from 0 to 3000, and a point at height
-- 1000. The order from below goes against x
abbrev pub east_of : Building → List ℕ → SideCase
east_of m order =
    record {
      model = m;
      room = box_room 20 0 4000 0 3000 2500 refl;
      side = 1;
      over = edge (plan_point 4000 0) (plan_point 4000 3000);
      low = at 0;
      high = at 3000;
      order = order;
      point = on_east_side 4000 1000;
    }

-- the models are those of a room and of others to its east
abbrev pub with_room : List Space → List Element → Building
with_room spaces elements = model (box_room 20 0 4000 0 3000 2500 refl ∷ spaces) elements

-- a box to the east, from one x to another
abbrev pub space_from : ℕ → (x0 x1 : ℕ) → IsTrue (is_box (block x0 x1 0 3000 2500)) → Space
space_from number x0 x1 box = box_room number x0 x1 0 3000 2500 box

abbrev pub element_from : ℕ → (x0 x1 : ℕ) → IsTrue (is_box (block x0 x1 0 3000 2500)) → Element
element_from number x0 x1 box = box_element number x0 x1 0 3000 2500 box Plain

-- ---- a wall of three layers between two rooms

abbrev pub through_the_wall : SideCase
through_the_wall = east_of layered_wall_between_rooms (5 ∷ 7 ∷ 9 ∷ 1 ∷ 11 ∷ 3 ∷ [])

pub wall_is_case : is_side_case through_the_wall ≡ true
unfolding cross dot clearance span_along step runs_along direction_of greatest_divisor divisor_within
wall_is_case = refl

pub wall_places : rising_numbers through_the_wall.order
    ≡ spanning_places (plan_edges layered_wall_between_rooms) (way_along through_the_wall.over) (at 0)
    (at 3000)
unfolding cross step runs_along direction_of greatest_divisor divisor_within
wall_places = refl

-- plaster, brick and gypsum, and the other room 100 mm behind
abbrev pub layers_and_room : Walk
layers_and_room =
    walk_of
    (item 30 1 (whole (pos 12500)) ∷ item 30 2 (whole (pos 75000)) ∷ item 30 3 (whole (pos 12500)) ∷ [])
    (pos 100) (end.Space 21)

wall_reads : reads through_the_wall layers_and_room
unfolding cross dot step runs_along direction_of normal_over reduced greatest_divisor divisor_within
wall_reads = refl

pub wall_walk : IsWalk layered_wall_between_rooms (side_over through_the_wall.over)
    (on_east_side 4000 1000) layers_and_room
wall_walk =
    (walk_of_case through_the_wall (inl refl) refl wall_places wall_is_case layers_and_room).1
    wall_reads

-- ---- touching rooms

abbrev pub touching : SideCase
touching = east_of (with_room (space_from 21 4000 8000 refl ∷ []) []) (5 ∷ 1 ∷ 7 ∷ 3 ∷ [])

pub touching_is_case : is_side_case touching ≡ true
unfolding cross dot clearance span_along step runs_along direction_of greatest_divisor divisor_within
touching_is_case = refl

pub touching_places : rising_numbers touching.order
    ≡ spanning_places (plan_edges touching.model) (way_along touching.over) (at 0) (at 3000)
unfolding cross step runs_along direction_of greatest_divisor divisor_within
touching_places = refl

-- the group on the side's own line is left whole: behind it is the other room
touching_reads : reads touching (walk_of [] (pos 0) (end.Space 21))
unfolding cross dot step runs_along direction_of normal_over reduced greatest_divisor divisor_within
touching_reads = refl

pub touching_walk : IsWalk touching.model (side_over touching.over) touching.point
    (walk_of [] (pos 0) (end.Space 21))
touching_walk =
    (walk_of_case touching (inl refl) refl touching_places touching_is_case
    (walk_of [] (pos 0) (end.Space 21))).1
    touching_reads

-- what would be read behind these places of the edges, over those further on
abbrev reads_behind : SideCase → List ℕ → List ℕ → Walk → Type 0
reads_behind c passed further w =
    course_of w
    ≡ read c.model (normal_over c.over) ((side_over c.over).position) ((side_over c.over).position)
    (stretches_over c.model (normal_over c.over) c.point (edges_at (plan_edges c.model) passed)
    (edges_at (plan_edges c.model) further))

-- with the other room's edge on the same line not passed there is nothing behind the side
group_not_whole_reads : reads_behind touching (1 ∷ 3 ∷ []) (7 ∷ 5 ∷ [])
    (walk_of [] (pos 0) end.Outside)
unfolding cross dot step runs_along direction_of normal_over reduced greatest_divisor divisor_within
group_not_whole_reads = refl

-- and with none on that line passed the room itself is there
own_line_left_out_reads : reads_behind touching (3 ∷ []) (7 ∷ 1 ∷ 5 ∷ [])
    (walk_of [] (pos 0) (end.Space 20))
unfolding cross dot step runs_along direction_of normal_over reduced greatest_divisor divisor_within
own_line_left_out_reads = refl

-- whether a walk ends at space #21
ends_at_21 : End → Bool
ends_at_21 (end.Space n) = n == 21
ends_at_21 end.Outside = false
ends_at_21 end.Earth = false
ends_at_21 (end.Solid n) = false

-- both are refused: no walk of the point ends elsewhere
other_ends_are_refused : (w : Walk) → IsWalk touching.model (side_over touching.over) touching.point w
    → ends_at_21 w.end ≡ true
unfolding ends_at_21
other_ends_are_refused w walks =
    ap (λ c. ends_at_21 c.end)
    ((walk_of_case touching (inl refl) refl touching_places touching_is_case w).0 walks
    ∙ sym touching_reads)

group_not_whole_is_refused
    : IsWalk touching.model (side_over touching.over) touching.point (walk_of [] (pos 0) end.Outside)
    → ⊥
unfolding ends_at_21
group_not_whole_is_refused walks =
    false≢true (other_ends_are_refused (walk_of [] (pos 0) end.Outside) walks)

own_line_left_out_is_refused
    : IsWalk touching.model (side_over touching.over) touching.point
    (walk_of [] (pos 0) (end.Space 20)) → ⊥
unfolding ends_at_21
own_line_left_out_is_refused walks =
    false≢true (other_ends_are_refused (walk_of [] (pos 0) (end.Space 20)) walks)

-- ---- a slanted far end

-- an element whose far side is not parallel to the room's
abbrev pub wedge : Upright
wedge =
    slab (plan_point 4000 0 ∷ plan_point 4100 0 ∷ plan_point 4400 3000 ∷ plan_point 4000 3000 ∷ []) 0 2500

pub wedge_is_solid : IsTrue (is_upright wedge)
unfolding cross dot
wedge_is_solid = refl

abbrev pub to_a_slanted_end : SideCase
to_a_slanted_end =
    east_of (with_room [] (element 30 wedge wedge_is_solid Plain ∷ [])) (5 ∷ 1 ∷ 7 ∷ 3 ∷ [])

slanted_is_case : is_side_case to_a_slanted_end ≡ true
unfolding cross dot clearance span_along step runs_along direction_of greatest_divisor divisor_within
slanted_is_case = refl

slanted_places : rising_numbers to_a_slanted_end.order
    ≡ spanning_places (plan_edges to_a_slanted_end.model) (way_along to_a_slanted_end.over) (at 0)
    (at 3000)
unfolding cross step runs_along direction_of greatest_divisor divisor_within
slanted_places = refl

slanted_reads : reads to_a_slanted_end (walk_of [] (pos 0) (end.Solid 30))
unfolding cross dot step runs_along direction_of normal_over reduced greatest_divisor divisor_within
slanted_reads = refl

-- the element is not passed
pub slanted_walk : IsWalk to_a_slanted_end.model (side_over to_a_slanted_end.over) to_a_slanted_end.point
    (walk_of [] (pos 0) (end.Solid 30))
slanted_walk =
    (walk_of_case to_a_slanted_end (inl refl) refl slanted_places slanted_is_case
    (walk_of [] (pos 0) (end.Solid 30))).1
    slanted_reads

-- ---- two elements overlapping, and the open air

abbrev through_two : SideCase
through_two =
    east_of (with_room [] (element_from 30 4000 4100 refl ∷ element_from 31 4050 4200 refl ∷ []))
    (9 ∷ 5 ∷ 11 ∷ 1 ∷ 7 ∷ 3 ∷ [])

two_is_case : is_side_case through_two ≡ true
unfolding cross dot clearance span_along step runs_along direction_of greatest_divisor divisor_within
two_is_case = refl

two_places : rising_numbers through_two.order
    ≡ spanning_places (plan_edges through_two.model) (way_along through_two.over) (at 0) (at 3000)
unfolding cross step runs_along direction_of greatest_divisor divisor_within
two_places = refl

-- the lower number counts where both are: 100 mm of #30, and 100 mm of #31 behind it
abbrev two_items : Walk
two_items =
    walk_of (item 30 0 (whole (pos 100000)) ∷ item 31 0 (whole (pos 100000)) ∷ []) (pos 200) end.Outside

two_reads : reads through_two two_items
unfolding cross dot step runs_along direction_of normal_over reduced greatest_divisor divisor_within
two_reads = refl

two_walk : IsWalk through_two.model (side_over through_two.over) through_two.point two_items
two_walk = (walk_of_case through_two (inl refl) refl two_places two_is_case two_items).1 two_reads

-- ---- an element inside a space, and three products that meet at one depth

-- behind wall #30 begin room #21 and element #31 inside it
abbrev to_three : SideCase
to_three =
    east_of
    (with_room (space_from 21 4100 8100 refl ∷ [])
    (element_from 30 4000 4100 refl ∷ element_from 31 4100 4200 refl ∷ []))
    (5 ∷ 13 ∷ 7 ∷ 9 ∷ 15 ∷ 1 ∷ 11 ∷ 3 ∷ [])

three_is_case : is_side_case to_three ≡ true
unfolding cross dot clearance span_along step runs_along direction_of greatest_divisor divisor_within
three_is_case = refl

three_places : rising_numbers to_three.order
    ≡ spanning_places (plan_edges to_three.model) (way_along to_three.over) (at 0) (at 3000)
unfolding cross step runs_along direction_of greatest_divisor divisor_within
three_places = refl

-- the three edges on one line are one border, and the element inside the room is not seen
abbrev wall_and_room : Walk
wall_and_room = walk_of (item 30 0 (whole (pos 100000)) ∷ []) (pos 100) (end.Space 21)

three_reads : reads to_three wall_and_room
unfolding cross dot step runs_along direction_of normal_over reduced greatest_divisor divisor_within
three_reads = refl

three_walk : IsWalk to_three.model (side_over to_three.over) to_three.point wall_and_room
three_walk =
    (walk_of_case to_three (inl refl) refl three_places three_is_case wall_and_room).1 three_reads

-- ---- earth and air

-- a room alone, in ground up to 1200
abbrev in_the_ground : ℕ → SideCase
in_the_ground z =
    record {
      model =
          building unit.Millimetre (pos 1200) 1000 (box_room 20 0 4000 0 3000 2500 refl ∷ []) [] [] [];
      room = box_room 20 0 4000 0 3000 2500 refl;
      side = 1;
      over = edge (plan_point 4000 0) (plan_point 4000 3000);
      low = at 0;
      high = at 3000;
      order = 1 ∷ 3 ∷ [];
      point = on_east_side 4000 z;
    }

-- at 1000 it looks at the earth, at 2000 at the air
earth_reads : reads (in_the_ground 1000) (walk_of [] (pos 0) end.Earth)
unfolding cross dot step runs_along direction_of normal_over reduced greatest_divisor divisor_within
earth_reads = refl

air_reads : reads (in_the_ground 2000) (walk_of [] (pos 0) end.Outside)
unfolding cross dot step runs_along direction_of normal_over reduced greatest_divisor divisor_within
air_reads = refl

earth_is_case : is_side_case (in_the_ground 1000) ≡ true
unfolding cross dot clearance span_along step runs_along direction_of greatest_divisor divisor_within
earth_is_case = refl

earth_places : rising_numbers (1 ∷ 3 ∷ [])
    ≡ spanning_places (plan_edges (in_the_ground 1000).model) (way_along (in_the_ground 1000).over)
    (at 0) (at 3000)
unfolding cross step runs_along direction_of greatest_divisor divisor_within
earth_places = refl

earth_walk : IsWalk (in_the_ground 1000).model (side_over (in_the_ground 1000).over)
    (on_east_side 4000 1000) (walk_of [] (pos 0) end.Earth)
earth_walk =
    (walk_of_case (in_the_ground 1000) (inl refl) refl earth_places earth_is_case
    (walk_of [] (pos 0) end.Earth)).1
    earth_reads

-- at the height of the ground there is no plain point
no_plain_point_at_the_ground :
    is_plain (in_the_ground 1000).model (in_the_ground 1000).room.prism (kind.Side 1)
    (on_east_side 4000 1200)
    ≡ false
unfolding cross dot step runs_along direction_of greatest_divisor divisor_within
no_plain_point_at_the_ground = refl
