-- Worked walks of plain points of Top and Bottom, by the gap of the point.
use Rattle.std.proofs.Common.{◌≡◌, refl, ◌⊎◌, inl, inr, ◌↔◌, ℕ, ℤ, pos, Bool, true, false, not, ◌&&◌}
use Rattle.std.proofs.Common.{List, [], ◌∷◌, Some, take, drop}
use Rattle.std.specs.List.{AllByRecursion, list_all}
use Rattle.std.proofs.lemmas.Bool.{and_parts, false≢true}
use Rattle.theory_numbers.specs.Arrows.{Arrow, arrow, cross, dot}
use Rattle.theory_numbers.specs.Divisors.{greatest_divisor, divisor_within}
use Rattle.theory_numbers.specs.Fractions.{reduced, whole}
use Rattle.theory_numbers.specs.Rationals.{rational, is_below, is_at_most}
use Rattle.theory_numbers.specs.Tests.{is_positive}
use Rattle.theory_numbers.proofs.Signs.{less_from, at_most_from}
use Rattle.theory_plane.specs.Points.{ordinate_of}
use Rattle.theory_plane.specs.Sides.{clearance, value_on}
use Rattle.sb_fraction.specs.Lines.{in_frame, span_along}
use Rattle.sb_fraction.specs.Spots.{Spot, spot}
use Rattle.sb_model.specs.declared.faces.face.FaceKind.{FaceKind}
use Rattle.sb_model.specs.declared.faces.face.FaceKind.TheVariants as kind
use Rattle.sb_model.specs.declared.products.Space.{Space}
use Rattle.sb_model.specs.declared.walk.End.TheVariants as end
use Rattle.sb_model.specs.declared.walk.Walk.{Walk}
use Rattle.sb_model.specs.Building.{Building, is_building}
use Rattle.sb_model.specs.Surfaces.Faces.{Surface, surface_of, top_of, bottom_of}
use Rattle.sb_model.specs.Surfaces.PlainPoints.{is_plain}
use Rattle.sb_model.specs.PlanEdges.{plan_edges}
use Rattle.sb_model.specs.Walks.{course_of, item, IsWalk}
use Rattle.theory_models.proofs.ExampleModels.{box_room, crossing_slabs}
use Rattle.theory_parity.specs.Below.{IsWay, abscissa_in}
use Rattle.theory_lines.specs.Slabs.{spanning_places, is_lower_place}
use Rattle.theory_sight.specs.Reading.{read}
use Rattle.theory_gaps.specs.Gaps.{edges_before}
use Rattle.theory_gaps.specs.Borders.{stretches_through}
use Rattle.theory_gaps.proofs.OneWalkEach.{walk_of}
use Rattle.theory_gaps.proofs.OrdersByTests.{is_slab_of, slab_by_test, rising_numbers, is_in_order}
use Rattle.theory_gaps.proofs.OrdersByTests.{order_by_test}
use Rattle.theory_gaps.proofs.RowsThatRise.{heights_above, all_ends, have_heights}
use Rattle.theory_gaps.proofs.Gaps.ThroughGaps.{has_walk_up_and_down}

-- along x
abbrev pub along_x : Arrow
along_x = arrow (pos 1) (pos 0)

-- Bottom or Top of a room of a model, a slab along x with its order, a point and its gap
pub record LevelCase : Type 0 where
  pub model : Building
  pub room : Space
  pub face : FaceKind
  pub surface : Surface
  pub low : Arrow
  pub high : Arrow
  pub order : List ℕ
  pub point : Spot
  pub gap : ℕ

-- the places whose edges lie below the point
abbrev pub lower : LevelCase → ℕ → Bool
lower c k =
    is_lower_place (plan_edges c.model) along_x (abscissa_in along_x c.point)
    (ordinate_of (in_frame along_x c.point)) k

-- the slab is one and the order sorted, and the point is plain and lies in the gap
abbrev pub is_level_case : LevelCase → Bool
is_level_case c =
    is_building c.model
    && (is_slab_of c.model along_x c.low c.high
    && (is_in_order (plan_edges c.model) along_x c.low c.order
    && (is_positive c.point.w
    && (is_plain c.model c.room.prism c.face c.point
    && (is_at_most c.low (abscissa_in along_x c.point)
    && (is_below (abscissa_in along_x c.point) c.high
    && (list_all (lower c) (take c.gap c.order)
    && list_all (λ k. not (lower c k)) (drop c.gap c.order))))))))

-- what is read in the gap
abbrev pub reads : LevelCase → Walk → Type 0
reads c w =
    course_of w
    ≡ read c.model c.surface.normal c.surface.position c.surface.position
    (stretches_through c.model c.surface.normal (edges_before (plan_edges c.model) c.order c.gap)
    c.surface.position
    (heights_above c.surface.position (all_ends c.model c.surface.normal)))

passes : (test : ℕ → Bool) (ks : List ℕ) → list_all test ks ≡ true
    → AllByRecursion (λ k. test k ≡ true) ks
passes test [] all = tt
passes test (k ∷ ks) all =
    let parts = and_parts (test k) (list_all test ks) all in (parts.0, passes test ks parts.1)

fails : (test : ℕ → Bool) (ks : List ℕ) → list_all (λ k. not (test k)) ks ≡ true
    → AllByRecursion (λ k. test k ≡ false) ks
fails test [] all = tt
fails test (k ∷ ks) all =
    let parts = and_parts (not (test k)) (list_all (λ j. not (test j)) ks) all in
    (by (test k) parts.0, fails test ks parts.1)
  where
    by : (b : Bool) → not b ≡ true → b ≡ false
    by true answer = absurd (false≢true answer)
    by false answer = refl

along_x_is_way : IsWay along_x
unfolding dot
along_x_is_way = less_from (pos 0) (dot along_x along_x) refl

-- is the walk of the point, and no other is
pub walk_of_case : (c : LevelCase) → (c.face ≡ kind.Bottom) ⊎ (c.face ≡ kind.Top)
    → surface_of c.room.prism c.face ≡ Some c.surface
    → rising_numbers c.order ≡ spanning_places (plan_edges c.model) along_x c.low c.high
    → is_level_case c ≡ true → (w : Walk) → IsWalk c.model c.surface c.point w ↔ reads c w
walk_of_case c level found places answer w =
    let first = and_parts (is_building c.model) _ answer in
    let second = and_parts (is_slab_of c.model along_x c.low c.high) _ first.1 in
    let third = and_parts (is_in_order (plan_edges c.model) along_x c.low c.order) _ second.1 in
    let fourth = and_parts (is_positive c.point.w) _ third.1 in
    let fifth = and_parts (is_plain c.model c.room.prism c.face c.point) _ fourth.1 in
    let sixth = and_parts (is_at_most c.low (abscissa_in along_x c.point)) _ fifth.1 in
    let seventh = and_parts (is_below (abscissa_in along_x c.point) c.high) _ sixth.1 in
    let last =
    and_parts (list_all (lower c) (take c.gap c.order))
    (list_all (λ k. not (lower c k)) (drop c.gap c.order)) seventh.1
    in
    let slab = slab_by_test c.model along_x c.low c.high second.0 in
    has_walk_up_and_down c.model first.0 c.room c.face c.surface level found along_x c.low c.high
    along_x_is_way slab c.order
    (order_by_test c.model along_x c.low c.high along_x_is_way slab c.order places third.0) c.point
    (less_from (pos 0) c.point.w fourth.0) fifth.0 c.gap
    (record {
      after = at_most_from (pos 0) (cross c.low (abscissa_in along_x c.point)) sixth.0;
      before = less_from (pos 0) (cross (abscissa_in along_x c.point) c.high) seventh.0;
      parts =
          record {
            first = passes (lower c) (take c.gap c.order) last.0;
            rest = fails (lower c) (drop c.gap c.order) last.1;
          };
    })
    (heights_above c.surface.position (all_ends c.model c.surface.normal))
    (have_heights c.model c.surface.normal (edges_before (plan_edges c.model) c.order c.gap)
    c.surface.position) w

-- ---- crossing slabs

abbrev room_below : Space
room_below = box_room 20 0 10 0 10 10 refl

-- Top of the room between the abscissae 10/3, where the slabs' edges cross, and 5
abbrev past_the_crossing : ℤ → ℕ → LevelCase
past_the_crossing y gap =
    record {
      model = crossing_slabs;
      room = room_below;
      face = kind.Top;
      surface = top_of room_below.prism;
      low = rational (pos 10) (pos 3);
      high = rational (pos 5) (pos 1);
      order = 0 ∷ 7 ∷ 4 ∷ 2 ∷ 5 ∷ 9 ∷ [];
      point = spot (pos 4) y (pos 10) (pos 1);
      gap = gap;
    }

crossing_places : rising_numbers (0 ∷ 7 ∷ 4 ∷ 2 ∷ 5 ∷ 9 ∷ [])
    ≡ spanning_places (plan_edges crossing_slabs) along_x (rational (pos 10) (pos 3))
    (rational (pos 5) (pos 1))
unfolding cross
crossing_places = refl

-- one millimetre of a slab, and the open air
abbrev one_slab : ℕ → Walk
one_slab number = walk_of (item number 0 (whole (pos 1000)) ∷ []) (pos 1) end.Outside

-- at (4, 7) only the upper slab is there
upper_is_case : is_level_case (past_the_crossing (pos 7) 2) ≡ true
unfolding cross dot clearance span_along value_on
upper_is_case = refl

upper_reads : reads (past_the_crossing (pos 7) 2) (one_slab 31)
unfolding cross dot reduced greatest_divisor divisor_within
upper_reads = refl

upper_walk : IsWalk crossing_slabs (top_of room_below.prism) (spot (pos 4) (pos 7) (pos 10) (pos 1))
    (one_slab 31)
upper_walk =
    (walk_of_case (past_the_crossing (pos 7) 2) (inr refl) refl crossing_places upper_is_case
    (one_slab 31)).1
    upper_reads

-- at (4, 9) both are, and the lower number counts
both_are_case : is_level_case (past_the_crossing (pos 9) 3) ≡ true
unfolding cross dot clearance span_along value_on
both_are_case = refl

both_read : reads (past_the_crossing (pos 9) 3) (one_slab 30)
unfolding cross dot reduced greatest_divisor divisor_within
both_read = refl

both_walk : IsWalk crossing_slabs (top_of room_below.prism) (spot (pos 4) (pos 9) (pos 10) (pos 1))
    (one_slab 30)
both_walk =
    (walk_of_case (past_the_crossing (pos 9) 3) (inr refl) refl crossing_places both_are_case
    (one_slab 30)).1
    both_read

-- at (4, 3) neither is
neither_reads : reads (past_the_crossing (pos 3) 1) (walk_of [] (pos 0) end.Outside)
unfolding cross dot reduced greatest_divisor divisor_within
neither_reads = refl

-- the gap of (4, 9) is not that of (4, 7)
other_gap_is_refused : is_level_case (past_the_crossing (pos 9) 2) ≡ false
unfolding cross dot clearance span_along value_on
other_gap_is_refused = refl

-- ---- down to the earth

abbrev below_the_room : LevelCase
below_the_room =
    record {
      model = crossing_slabs;
      room = room_below;
      face = kind.Bottom;
      surface = bottom_of room_below.prism;
      low = rational (pos 10) (pos 3);
      high = rational (pos 5) (pos 1);
      order = 0 ∷ 7 ∷ 4 ∷ 2 ∷ 5 ∷ 9 ∷ [];
      point = spot (pos 4) (pos 7) (pos 0) (pos 1);
      gap = 2;
    }

below_is_case : is_level_case below_the_room ≡ true
unfolding cross dot clearance span_along value_on
below_is_case = refl

below_reads : reads below_the_room (walk_of [] (pos 0) end.Earth)
unfolding cross dot reduced greatest_divisor divisor_within
below_reads = refl

below_walk : IsWalk crossing_slabs (bottom_of room_below.prism)
    (spot (pos 4) (pos 7) (pos 0) (pos 1)) (walk_of [] (pos 0) end.Earth)
below_walk =
    (walk_of_case below_the_room (inl refl) refl crossing_places below_is_case
    (walk_of [] (pos 0) end.Earth)).1
    below_reads
