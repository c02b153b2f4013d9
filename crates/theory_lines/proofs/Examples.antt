-- Worked slabs and orders, and wrong ones that are refused.

use Rattle.std.proofs.Common.{◌≡◌, ◌⊎◌, inl, inr, refl, sym, ap, ◌∙◌, subst, arith, ℕ, ℤ, pos, negsuc}
use Rattle.std.proofs.Common.{true, false, List, [], ◌∷◌, map, slice_get, IsPermutation}
use Rattle.std.proofs.Common.{◌<◌, ◌+◌}
use Rattle.std.proofs.lemmas.Int.{ints}
use Rattle.std.proofs.lemmas.List.Sorted.{IsPermutation-refl, IsPermutation-sym}
use Rattle.std.proofs.lemmas.List.Sorted.{IsPermutation-swap}
use Rattle.std.proofs.lemmas.Option.{same_Some}
use Rattle.theory_lists.specs.Members.{Stands}
use Rattle.std.specs.Ordering.{int_eq}
use Rattle.std.specs.List.{AllByRecursion}
use Rattle.std.proofs.lemmas.Bool.{false≢true}
use Rattle.std.proofs.lemmas.Bool.Decides.{Decides-int_eq}
use Rattle.theory_lists.proofs.Members.{all_stands, one_of_any}
use Rattle.theory_lines.proofs.NeighboursInAList.{neighbours_in_list}
use Rattle.theory_lists.proofs.InAnyOrder.{stands_permuted}
use Rattle.theory_numbers.specs.Arrows.{Arrow, arrow, cross, dot}
use Rattle.theory_numbers.specs.Rationals.{rational, IsRational, IsBelow, IsSame}
use Rattle.theory_numbers.proofs.Fractions.Clear.{positive_between}
use Rattle.theory_plane.specs.Sides.{clearance, clearance_at}
use Rattle.sb_fraction.specs.Edges.{edge}
use Rattle.sb_fraction.specs.Lines.{flat, line_over, span_along}
use Rattle.sb_model.specs.Building.{Building}
use Rattle.sb_model.specs.PlanEdges.{PlanEdge, plan_edges, is_abscissa}
use Rattle.theory_models.proofs.ExampleModels.{plan_point, model, box_room, crossing_slabs}
use Rattle.theory_models.specs.Abscissae.{abscissae_of}
use Rattle.theory_models.proofs.AbscissaeListed.{abscissa_is_among}
use Rattle.theory_lines.specs.Slabs.{AreAbscissae, AreNeighbours}
use Rattle.theory_lines.specs.Slabs.{spanning_places, IsSlabOrder, IsUnder, AreOnOneLine}
use Rattle.theory_lines.proofs.OneLiesBelow.{one_line_meets}
use Rattle.theory_lines.proofs.SlabOrderIsOne.{before_by_edges, slab_order_is_one}

-- the direction along x, and the one half way to y
abbrev along_x : Arrow
along_x = arrow (pos 1) (pos 0)

abbrev slanted : Arrow
slanted = arrow (pos 1) (pos 1)

-- the whole number n
abbrev at : ℕ → Arrow
at n = rational (pos n) (pos 1)

-- one whole number below another
below_by : (m n : ℕ) → m < n → IsBelow (at m) (at n)
unfolding cross
below_by m n less = omega (arith, ints)

-- the edge from one point to another, of product 20
abbrev from_to : ℕ → ℕ → ℕ → ℕ → PlanEdge
from_to x0 y0 x1 y1 = record { edge = edge (plan_point x0 y0) (plan_point x1 y1); product = 20 }

-- ---- which edges span

-- from 2 to 4 along x: an edge over all of it either way round, one with its ends at 2 and 4, one that
-- ends at 2, one that begins at 4, one over a part, and an upright edge at 2 and at 3
spanning_from_2_to_4 :
    spanning_places
    (from_to 0 0 9 5 ∷ from_to 9 9 1 0 ∷ from_to 2 0 4 1 ∷ from_to 0 0 2 0 ∷ from_to 4 0 9 0
    ∷ from_to 3 0 9 0 ∷ from_to 2 0 2 9 ∷ from_to 3 0 3 9 ∷ [])
    along_x (at 2) (at 4)
    ≡ 0 ∷ 1 ∷ 2 ∷ []
unfolding cross
spanning_from_2_to_4 = refl

-- along (1, 1) an upright edge spans, and one at right angles to the direction does not
spanning_on_the_slant :
    spanning_places (from_to 0 0 0 9 ∷ from_to 0 4 4 0 ∷ []) slanted (at 2) (at 4) ≡ 0 ∷ []
unfolding cross
spanning_on_the_slant = refl

-- two rooms apart
abbrev apart_rooms : Building
apart_rooms = model (box_room 20 0 10 0 10 10 refl ∷ box_room 21 20 30 0 10 10 refl ∷ []) []

-- between them lies a slab that no edge spans: 10 and 20 are abscissae, 15 is none
between_rooms :
    map (is_abscissa apart_rooms (flat along_x)) (at 10 ∷ at 20 ∷ at 15 ∷ [])
    ≡ true ∷ true ∷ false ∷ []
unfolding cross dot
between_rooms = refl

-- all abscissae of the two rooms
abbrev four_abscissae : List Arrow
four_abscissae = at 0 ∷ at 10 ∷ at 20 ∷ at 30 ∷ []

ends_are_four : AllByRecursion (λ a. Stands a four_abscissae)
    (abscissae_of apart_rooms (flat along_x))
unfolding cross dot
ends_are_four = (
  inl refl,
  (
    inr (inl refl),
    (
      inr (inl refl),
      (
        inr (inl refl),
        (
          inr (inl refl),
          (
            inl refl,
            (
              inl refl,
              (
                inl refl,
                (
                  inr (inr (inl refl)),
                  (
                    inr (inr (inr (inl refl))),
                    (
                      inr (inr (inr (inl refl))),
                      (
                        inr (inr (inr (inl refl))),
                        (
                          inr (inr (inr (inl refl))),
                          (inr (inr (inl refl)), (inr (inr (inl refl)), (inr (inr (inl refl)), tt))),
                        ),
                      ),
                    ),
                  ),
                ),
              ),
            ),
          ),
        ),
      ),
    ),
  ),
)

each_is_one : AllByRecursion (λ a. is_abscissa apart_rooms (flat along_x) a ≡ true) four_abscissae
unfolding cross dot
each_is_one = (refl, (refl, (refl, (refl, tt))))

four_are_all : AreAbscissae apart_rooms along_x four_abscissae
four_are_all =
    record {
      rational =
          (omega (arith, ints), (omega (arith, ints), (omega (arith, ints), (omega (arith, ints), tt))));
      rising = (
        (below_by 0 10 (omega arith), (below_by 0 20 (omega arith), (below_by 0 30 (omega arith), tt))),
        (
          (below_by 10 20 (omega arith), (below_by 10 30 (omega arith), tt)),
          ((below_by 20 30 (omega arith), tt), (tt, tt)),
        ),
      );
      each = each_is_one;
      all = λ u u_in is.
          from u
          (one_of_any (λ a. int_eq (cross u a) (pos 0)) (abscissae_of apart_rooms (flat along_x))
          (sym (abscissa_is_among apart_rooms (flat along_x) u) ∙ is));
    }
  where
    from : (u : Arrow)
        → (a : Arrow) × (Stands a (abscissae_of apart_rooms (flat along_x))
        × (int_eq (cross u a) (pos 0) ≡ true))
        → (a : Arrow) × (Stands a four_abscissae × IsSame u a)
    from u (a, known) = (
      a,
      (
        all_stands (λ b. Stands b four_abscissae) a (abscissae_of apart_rooms (flat along_x))
            ends_are_four known.0,
        (Decides-int_eq (cross u a) (pos 0)).0 known.1,
      ),
    )

-- so 10 and 20 are neighbours
ten_and_twenty : AreNeighbours apart_rooms along_x (at 10) (at 20)
ten_and_twenty =
    neighbours_in_list apart_rooms along_x (at 10) (at 20) (at 0 ∷ []) (at 30 ∷ []) four_are_all

-- and 0 and 20 are none: 10 lies between
ten_is_one : is_abscissa apart_rooms (flat along_x) (at 10) ≡ true
unfolding cross dot
ten_is_one = refl

zero_and_twenty_are_refused : AreNeighbours apart_rooms along_x (at 0) (at 20) → ⊥
zero_and_twenty_are_refused are =
    false≢true
    (sym (are.slab.none (at 10) (omega (arith, ints)) (below_by 0 10 (omega arith))
    (below_by 10 20 (omega arith)))
    ∙ ten_is_one)

none_between_rooms : spanning_places (plan_edges apart_rooms) along_x (at 10) (at 20) ≡ []
unfolding cross
none_between_rooms = refl

-- each room has its lower and its upper side in its own slab
two_in_a_room : spanning_places (plan_edges apart_rooms) along_x (at 20) (at 30) ≡ 4 ∷ 6 ∷ []
unfolding cross
two_in_a_room = refl

-- the slabs of crossing slabs before and after their crossing at 10/3
spanning_at_crossing :
    spanning_places (plan_edges crossing_slabs) along_x (at 0) (rational (pos 10) (pos 3))
    ≡ 0 ∷ 2 ∷ 4 ∷ 5 ∷ 7 ∷ 9 ∷ []
unfolding cross
spanning_at_crossing = refl

-- ---- orders

abbrev clearing : PlanEdge → PlanEdge → Arrow → ℤ
clearing e f u = clearance_at (line_over along_x e.edge) (line_over along_x f.edge) u

-- an edge lies below another by the clearances at the two ends of a slab, of which one is above 0
under_by : (e f : PlanEdge) (low high : Arrow) (k n : ℕ) → IsBelow low high
    → clearing e f low ≡ pos k → clearing e f high ≡ pos n → 0 < k + n
    → IsUnder along_x low high e.edge f.edge
under_by e f low high k n wide at_low at_high some =
    positive_between (clearance (line_over along_x e.edge) (line_over along_x f.edge)) low high wide
    (omega (arith, ints)) (omega (arith, ints)) (λ none none_high. absurd (omega (arith, ints)))

-- an edge that lies above another at u does not come before it
not_before : (e f : PlanEdge) (low high u : Arrow) (n i j : ℕ) → IsRational u → IsBelow low u
    → IsBelow u high → clearing e f u ≡ negsuc n
    → IsUnder along_x low high e.edge f.edge
    ⊎ (AreOnOneLine along_x e.edge f.edge × (i < j)) → ⊥
not_before e f low high u n i j u_in after before above (inl under) =
    let less = under u u_in after before in omega (arith, ints)
not_before e f low high u n i j u_in after before above (inr one) =
    let none = one_line_meets along_x e.edge f.edge one.0 u in omega (arith, ints)

-- no other number stands in a list of one
not_alone : (m n : ℕ) → (m ≡ n → ⊥) → Stands m (n ∷ []) → ⊥
not_alone m n other (inl same) = other same
not_alone m n other (inr none) = none

-- equal lists begin with equal numbers
same_first : (m n : ℕ) (ms ns : List ℕ) → m ∷ ms ≡ n ∷ ns → m ≡ n
same_first m n ms ns same = same_Some m n (ap (λ (zs : List ℕ). slice_get zs 0) same)

-- ---- two edges that share an end, (0, 0), in the slab from 0 to 10

abbrev flatter : PlanEdge
flatter = from_to 0 0 10 5

abbrev steeper : PlanEdge
steeper = from_to 0 0 10 10

abbrev two_edges : List PlanEdge
two_edges = steeper ∷ flatter ∷ []

both_span : spanning_places two_edges along_x (at 0) (at 10) ≡ 0 ∷ 1 ∷ []
unfolding cross
both_span = refl

flatter_is_under : IsUnder along_x (at 0) (at 10) flatter.edge steeper.edge
unfolding cross dot clearance span_along
flatter_is_under =
    under_by flatter steeper (at 0) (at 10) 0 500 (below_by 0 10 (omega arith)) refl refl
    (omega arith)

-- the flatter edge comes first, though the two have one value at 0
flatter_first : IsSlabOrder two_edges along_x (at 0) (at 10) (1 ∷ 0 ∷ [])
flatter_first =
    record {
      spanning =
          subst (IsPermutation (1 ∷ 0 ∷ [])) (sym both_span)
          (IsPermutation-swap (1 ∷ 0 ∷ []) (0 ∷ 1 ∷ []) 0 1 (omega arith) (omega arith) refl);
      ordered = (
        (
          before_by_edges two_edges along_x (at 0) (at 10) 1 0 flatter steeper refl refl
              (inl flatter_is_under),
          tt,
        ),
        (tt, tt),
      );
    }

-- and not the steeper one: at 5 it lies above
steeper_above : clearing steeper flatter (at 5) ≡ negsuc 249
unfolding cross dot clearance span_along
steeper_above = refl

steeper_first_is_refused : IsSlabOrder two_edges along_x (at 0) (at 10) (0 ∷ 1 ∷ []) → ⊥
steeper_first_is_refused is =
    not_before steeper flatter (at 0) (at 10) (at 5) 249 0 1 (omega (arith, ints))
    (below_by 0 5 (omega arith)) (below_by 5 10 (omega arith)) steeper_above
    (is.ordered.0.0 steeper flatter refl refl)

-- an order leaves no spanning edge out
one_left_out_is_refused : IsSlabOrder two_edges along_x (at 0) (at 10) (1 ∷ []) → ⊥
one_left_out_is_refused is =
    not_alone 0 1 (λ same. omega arith)
    (stands_permuted 0 (0 ∷ 1 ∷ []) (1 ∷ [])
    (IsPermutation-sym (1 ∷ []) (0 ∷ 1 ∷ []) (subst (IsPermutation (1 ∷ [])) both_span is.spanning))
    (inl refl))

one_spans : spanning_places (from_to 0 0 2 0 ∷ from_to 2 0 4 0 ∷ []) along_x (at 2) (at 4)
    ≡ 1 ∷ []
unfolding cross
one_spans = refl

-- and takes no other in: an edge that ends where the slab begins
another_is_refused
    : IsSlabOrder (from_to 0 0 2 0 ∷ from_to 2 0 4 0 ∷ []) along_x (at 2) (at 4) (0 ∷ 1 ∷ []) → ⊥
another_is_refused is =
    not_alone 0 1 (λ same. omega arith)
    (stands_permuted 0 (0 ∷ 1 ∷ []) (1 ∷ [])
    (subst (IsPermutation (0 ∷ 1 ∷ [])) one_spans is.spanning) (inl refl))

-- ---- two edges on one line: the lesser place comes first

abbrev one_line : List PlanEdge
one_line = from_to 0 3 10 3 ∷ from_to 10 3 0 3 ∷ []

both_span_one_line : spanning_places one_line along_x (at 0) (at 10) ≡ 0 ∷ 1 ∷ []
unfolding cross
both_span_one_line = refl

are_on_one_line : AreOnOneLine along_x (from_to 0 3 10 3).edge (from_to 10 3 0 3).edge
unfolding cross dot clearance span_along
are_on_one_line = (refl, refl)

lesser_place_first : IsSlabOrder one_line along_x (at 0) (at 10) (0 ∷ 1 ∷ [])
lesser_place_first =
    record {
      spanning =
          subst (IsPermutation (0 ∷ 1 ∷ [])) (sym both_span_one_line)
          (IsPermutation-refl (0 ∷ 1 ∷ []));
      ordered = (
        (
          before_by_edges one_line along_x (at 0) (at 10) 0 1 (from_to 0 3 10 3)
              (from_to 10 3 0 3) refl refl (inr (are_on_one_line, omega arith)),
          tt,
        ),
        (tt, tt),
      );
    }

-- so the greater place does not: a slab has one order
greater_place_first_is_refused : IsSlabOrder one_line along_x (at 0) (at 10) (1 ∷ 0 ∷ []) → ⊥
greater_place_first_is_refused is =
    let same = same_first 1 0 (0 ∷ []) (1 ∷ [])
    (slab_order_is_one one_line along_x (at 0) (at 10) (omega (arith, ints)) (omega (arith, ints))
    (below_by 0 10 (omega arith)) (1 ∷ 0 ∷ []) (0 ∷ 1 ∷ []) is lesser_place_first) in
    absurd (omega arith)

-- ---- three edges through one point, (2, 2)

abbrev rising : PlanEdge
rising = from_to 0 0 4 4

abbrev level : PlanEdge
level = from_to 0 2 4 2

abbrev falling : PlanEdge
falling = from_to 0 4 4 0

abbrev three_edges : List PlanEdge
three_edges = rising ∷ level ∷ falling ∷ []

before_the_point : spanning_places three_edges along_x (at 0) (at 2) ≡ 0 ∷ 1 ∷ 2 ∷ []
unfolding cross
before_the_point = refl

first_two : IsUnder along_x (at 0) (at 2) rising.edge level.edge
unfolding cross dot clearance span_along
first_two =
    under_by rising level (at 0) (at 2) 32 0 (below_by 0 2 (omega arith)) refl refl (omega arith)

last_two : IsUnder along_x (at 0) (at 2) level.edge falling.edge
unfolding cross dot clearance span_along
last_two =
    under_by level falling (at 0) (at 2) 32 0 (below_by 0 2 (omega arith)) refl refl (omega arith)

outer_two : IsUnder along_x (at 0) (at 2) rising.edge falling.edge
unfolding cross dot clearance span_along
outer_two =
    under_by rising falling (at 0) (at 2) 64 0 (below_by 0 2 (omega arith)) refl refl (omega arith)

-- before the point the rising one is the lowest
rising_first : IsSlabOrder three_edges along_x (at 0) (at 2) (0 ∷ 1 ∷ 2 ∷ [])
rising_first =
    record {
      spanning =
          subst (IsPermutation (0 ∷ 1 ∷ 2 ∷ [])) (sym before_the_point)
          (IsPermutation-refl (0 ∷ 1 ∷ 2 ∷ []));
      ordered = (
        (
          before_by_edges three_edges along_x (at 0) (at 2) 0 1 rising level refl refl
              (inl first_two),
          (
            before_by_edges three_edges along_x (at 0) (at 2) 0 2 rising falling refl refl
                (inl outer_two),
            tt,
          ),
        ),
        (
          (
            before_by_edges three_edges along_x (at 0) (at 2) 1 2 level falling refl refl
                (inl last_two),
            tt,
          ),
          (tt, tt),
        ),
      );
    }

-- and past it, up to 4, it is not
rising_above : clearing rising level (at 3) ≡ negsuc 15
unfolding cross dot clearance span_along
rising_above = refl

rising_first_is_refused_past
    : IsSlabOrder three_edges along_x (at 2) (at 4) (0 ∷ 1 ∷ 2 ∷ []) → ⊥
rising_first_is_refused_past is =
    not_before rising level (at 2) (at 4) (at 3) 15 0 1 (omega (arith, ints))
    (below_by 2 3 (omega arith)) (below_by 3 4 (omega arith)) rising_above
    (is.ordered.0.0 rising level refl refl)
