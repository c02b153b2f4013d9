-- Worked plan edges, crossings, directions and places, and wrong ones that are refused.

use Rattle.std.proofs.Common.{◌≡◌, inl, inr, refl, sym, ap, ◌∙◌, subst, arith, pos}
use Rattle.std.proofs.Common.{true, false, IsTrue, List, [], ◌∷◌, Some, None}
use Rattle.std.proofs.lemmas.Int.{ints}
use Rattle.std.proofs.lemmas.Bool.{false≢true}
use Rattle.std.specs.List.{AllByRecursion}
use Rattle.theory_lists.specs.Members.{Stands}
use Rattle.theory_lists.proofs.Members.{all_stands}
use Rattle.theory_numbers.specs.Arrows.{Arrow, arrow, cross, dot}
use Rattle.theory_numbers.specs.Divisors.{greatest_divisor, divisor_within}
use Rattle.sb_fraction.specs.declared.direction.Direction.{Direction}
use Rattle.sb_fraction.specs.Directions.{direction_of, step, runs_along}
use Rattle.sb_fraction.specs.Edges.{Edge}
use Rattle.sb_fraction.specs.Lines.{flat}
use Rattle.sb_fraction.specs.Meetings.{IsSamePoint}
use Rattle.sb_fraction.specs.Plane.{is_direction}
use Rattle.sb_fraction.specs.Spots.{Spot, spot}
use Rattle.theory_plans.specs.LoopEdges.{edges_of}
use Rattle.sb_model.specs.declared.products.Space.{Space}
use Rattle.sb_model.specs.PlanEdges.{plan_edges, is_crossing}
use Rattle.theory_models.proofs.ExampleModels.{model, block, crossing_slabs}
use Rattle.sb_frame.specs.Network.{product_beyond, AreSomeCrossings, AreCrossings, HasMoreCrossings}
use Rattle.sb_frame.specs.Directions.{along_x, IsDirectionOf, IsOfSide, ComesBefore, AreDirections}
use Rattle.sb_frame.specs.Directions.{heading}
use Rattle.sb_frame.specs.Through.{places_through}
use Rattle.sb_frame.proofs.Along.DirectionsAre.{x_is_direction, is_heading}

-- ---- the product that passes a limit

-- of the ten edges of crossing slabs the first four are the room's: with a limit of 3 the room passes
-- it, of 4 the first slab, of 9 the second one, and of 10 none does
passing_the_limit :
    product_beyond 3 (plan_edges crossing_slabs) ∷ product_beyond 4 (plan_edges crossing_slabs)
    ∷ product_beyond 9 (plan_edges crossing_slabs) ∷ product_beyond 10 (plan_edges crossing_slabs) ∷ []
    ≡ Some 20 ∷ Some 30 ∷ Some 31 ∷ None ∷ []
passing_the_limit = refl

-- ---- crossings

-- the slabs cross at (10/3, 20/3)
abbrev amid : Spot
amid = spot (pos 10) (pos 20) (pos 0) (pos 3)

amid_is_crossing : is_crossing crossing_slabs amid ≡ true
unfolding cross dot
amid_is_crossing = refl

-- at (5, 10) a corner of one slab lies on an edge of the other and of the room: no crossing
corner_is_none : is_crossing crossing_slabs (spot (pos 5) (pos 10) (pos 0) (pos 1)) ≡ false
unfolding cross dot
corner_is_none = refl

-- nor at (0, 0), a common end
common_end_is_none : is_crossing crossing_slabs (spot (pos 0) (pos 0) (pos 0) (pos 1)) ≡ false
unfolding cross dot
common_end_is_none = refl

amid_alone : AreSomeCrossings crossing_slabs (amid ∷ [])
amid_alone =
    record { spots = (omega (arith, ints), tt); each = (amid_is_crossing, tt); once = (tt, tt) }

-- so there is more than none
more_than_none : HasMoreCrossings crossing_slabs 0
more_than_none = (amid ∷ [], (amid_alone, omega arith))

corner_is_refused :
    AreSomeCrossings crossing_slabs (amid ∷ spot (pos 5) (pos 10) (pos 0) (pos 1) ∷ []) → ⊥
corner_is_refused are = false≢true (sym corner_is_none ∙ are.each.1.0)

common_end_is_refused :
    AreSomeCrossings crossing_slabs (spot (pos 0) (pos 0) (pos 0) (pos 1) ∷ []) → ⊥
common_end_is_refused are = false≢true (sym common_end_is_none ∙ are.each.0)

-- the same point twice, once written as (20/6, 40/6)
twice_is_refused :
    AreSomeCrossings crossing_slabs (amid ∷ spot (pos 20) (pos 40) (pos 0) (pos 6) ∷ []) → ⊥
twice_is_refused are = are.once.0.0 (refl, refl)

-- none is left out
left_out_is_refused : AreCrossings crossing_slabs [] → ⊥
left_out_is_refused are = none (are.all amid (omega (arith, ints)) amid_is_crossing)
  where
    none : (q : Spot) × (Stands q [] × IsSamePoint amid q) → ⊥
    none (q, known) = known.0

-- where there is no product there is no crossing
nothing : AreCrossings (model [] []) []
nothing =
    record {
      some = record { spots = tt; each = tt; once = tt };
      all = λ p p_is is. absurd (false≢true is);
    }

-- ---- the edges that have a point strictly inside

-- at the crossing those are the two that cross
through_the_crossing : places_through (plan_edges crossing_slabs) amid ≡ 4 ∷ 7 ∷ []
unfolding cross dot
through_the_crossing = refl

-- at (5, 10) the edge of the room and that of the other slab, and not the two that end there; at
-- (0, 0) none
through_corners :
    places_through (plan_edges crossing_slabs) (spot (pos 5) (pos 10) (pos 0) (pos 1))
    ∷ places_through (plan_edges crossing_slabs) (spot (pos 0) (pos 0) (pos 0) (pos 1)) ∷ []
    ≡ (2 ∷ 9 ∷ []) ∷ [] ∷ []
unfolding cross dot
through_corners = refl

-- ---- directions

abbrev along_y : Arrow
along_y = arrow (pos 0) (pos 1)

abbrev given_x : Direction
given_x = record { x = pos 1; y = pos 0; is_direction = x_is_direction }

y_is_direction : IsTrue (is_direction (pos 0) (pos 1))
unfolding greatest_divisor divisor_within
y_is_direction = refl

abbrev given_y : Direction
given_y = record { x = pos 0; y = pos 1; is_direction = y_is_direction }

slope_is_direction : IsTrue (is_direction (pos 1) (pos 2))
unfolding greatest_divisor divisor_within
slope_is_direction = refl

abbrev given_slope : Direction
given_slope = record { x = pos 1; y = pos 2; is_direction = slope_is_direction }

abbrev edges_of_room : List Edge
edges_of_room = edges_of (block 0 10 0 10 10).loops

-- the room's sides run along x and y
of_room : AllByRecursion (λ e. Stands (heading e) (along_y ∷ along_x ∷ [])) edges_of_room
unfolding greatest_divisor divisor_within direction_of step runs_along
of_room = (inr (inl refl), (inl refl, (inr (inl refl), (inl refl, tt))))

of_side : (d : Arrow) → IsOfSide crossing_slabs d → Stands d (along_y ∷ along_x ∷ [])
of_side d (s, e, (inl same, (e_in, along))) =
    subst (λ a. Stands a (along_y ∷ along_x ∷ [])) (sym (is_heading d e along))
    (all_stands (λ f. Stands (heading f) (along_y ∷ along_x ∷ [])) e edges_of_room of_room
    (subst (λ (r : Space). Stands e (edges_of r.prism.loops)) same e_in))
of_side d (s, e, (inr none, known)) = absurd none

of_model : (d : Arrow) → IsDirectionOf crossing_slabs d → Stands d (along_y ∷ along_x ∷ [])
of_model d (inl same) = inr (inl same)
of_model d (inr side) = of_side d side

upright_side : flat along_y
    ≡ direction_of (record { a = record { x = pos 10; y = pos 0 }; b = record { x = pos 10; y = pos 10 } })
unfolding greatest_divisor divisor_within direction_of step runs_along
upright_side = refl

y_is_of_side : IsDirectionOf crossing_slabs along_y
y_is_of_side = inr (_, _, (inl refl, (inr (inl refl), upright_side)))

-- those of crossing slabs are (0, 1) and (1, 0)
two_directions : AreDirections crossing_slabs (given_y ∷ given_x ∷ [])
two_directions =
    record {
      rising = ((inl (omega (arith, ints)), tt), (tt, tt));
      each = (y_is_of_side, (inl refl, tt));
      all = of_model;
    }

-- in this order
other_order_is_refused : AreDirections crossing_slabs (given_x ∷ given_y ∷ []) → ⊥
other_order_is_refused are = from are.rising.0.0
  where
    from : ComesBefore along_x along_y → ⊥
    from (inl less) = omega (arith, ints)
    from (inr same) = let x = same.0 in omega (arith, ints)

not_along_y : along_x ≡ along_y → ⊥
not_along_y same = let x = ap (λ (a : Arrow). a.x) same in omega (arith, ints)

-- with (1, 0), also where no side runs along it
axis_left_out_is_refused : AreDirections crossing_slabs (given_y ∷ []) → ⊥
axis_left_out_is_refused are = from (are.all along_x (inl refl))
  where
    from : Stands along_x (along_y ∷ []) → ⊥
    from (inl same) = not_along_y same
    from (inr none) = none

-- and without that of a slab's edge, from (0, 0) to (5, 10)
of_slab_is_refused : AreDirections crossing_slabs (given_y ∷ given_x ∷ given_slope ∷ []) → ⊥
of_slab_is_refused are = from (of_model (arrow (pos 1) (pos 2)) are.each.1.1.0)
  where
    from : Stands (arrow (pos 1) (pos 2)) (along_y ∷ along_x ∷ []) → ⊥
    from (inl same) = let x = ap (λ (a : Arrow). a.x) same in omega (arith, ints)
    from (inr (inl same)) = let y = ap (λ (a : Arrow). a.y) same in omega (arith, ints)
    from (inr (inr none)) = none
