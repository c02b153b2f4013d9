-- The two edges beside a gap between two lines, and the strip between their lines.

use Rattle.std.proofs.Common.{◌≡◌, ◌⊎◌, inl, inr, sym, ◌∙◌, subst, ℕ, zero, suc, pos, ◌<ℤ◌}
use Rattle.std.proofs.Common.{true, false, List, [], ◌∷◌, IsTrue}
use Rattle.std.proofs.lemmas.Bool.{false≢true}
use Rattle.std.proofs.lemmas.Option.{same_Some, none-some}
use Rattle.theory_lists.specs.Members.{Stands, AllOfTwo}
use Rattle.theory_lists.proofs.Members.{all_stands, stands_at}
use Rattle.theory_numbers.specs.Arrows.{Arrow}
use Rattle.theory_numbers.specs.Rationals.{IsRational, IsBelow, IsAtMost, IsSame, mediant}
use Rattle.theory_numbers.proofs.Fractions.Rationals.{number_cases, below_clash, at_most_from_below}
use Rattle.theory_numbers.proofs.Fractions.Rationals.{mediant_between, mediant-IsRational}
use Rattle.theory_plane.specs.Sides.{IsLineSide, clearance_at}
use Rattle.theory_plane.proofs.Clearance.{higher_is}
use Rattle.theory_plans.proofs.Edges.EdgesOfPlans.{is_proper_edge}
use Rattle.sb_fraction.specs.Edges.{are_collinear}
use Rattle.sb_fraction.specs.Lines.{line_over, reaches_past}
use Rattle.sb_model.specs.Building.{Building, is_building}
use Rattle.sb_model.specs.PlanEdges.{PlanEdge, plan_edges}
use Rattle.theory_models.proofs.EdgesOfProducts.{model_edges_are_proper}
use Rattle.theory_parity.specs.Below.{value_of}
use Rattle.theory_lines.specs.Slabs.{IsSlab, IsSlabOrder, IsUnder, is_spanning}
use Rattle.theory_lines.proofs.EdgesOverASlab.{reaching_spans}
use Rattle.theory_lines.proofs.OneLiesBelow.{spanning_is_line}
use Rattle.theory_gaps.specs.Gaps.{edges_at}
use Rattle.theory_gaps.proofs.EdgesAtANumber.{line_if_same}
use Rattle.theory_gaps.proofs.RowsOfSlabs.{order_is_row}
use Rattle.sb_frame.specs.Directions.{along_x}
use Rattle.sb_walk.specs.GapsBetween.{IsBetween}
use Rattle.sb_walk.proofs.SharedGaps.{x_is_way, lines_are_told}

-- both stand in the row
pub first_stands : (row : List PlanEdge) (j : ℕ) (e f : PlanEdge) → IsBetween row j e f → Stands e row
first_stands row zero e f between = absurd between
first_stands row (suc i) e f between = stands_at row i e between.0

pub second_stands : (row : List PlanEdge) (j : ℕ) (e f : PlanEdge) → IsBetween row j e f → Stands f row
second_stands row zero e f between = absurd between
second_stands row (suc i) e f between = stands_at row (suc i) f between.1

-- what holds of each two edges of a row holds of the two beside a gap
two_beside : (R : PlanEdge → PlanEdge → Type 0) (row : List PlanEdge) (j : ℕ) (e f : PlanEdge)
    → AllOfTwo R row → IsBetween row j e f → R e f
two_beside R row zero e f two between = absurd between
two_beside R [] (suc i) e f two between = absurd (none-some e between.0)
two_beside R (x ∷ row) (suc zero) e f two between =
    subst (λ g. R g f) (same_Some x e between.0)
    (all_stands (R x) f row two.0 (stands_at row zero f between.1))
two_beside R (x ∷ row) (suc (suc i)) e f two between =
    two_beside R row (suc i) e f two.1 between

-- a plan edge of the model that spans the slab
pub record IsSpanning (m : Building) (low high : Arrow) (e : PlanEdge) : Type 0 where
  pub stands : Stands e (plan_edges m)
  pub spans : is_spanning along_x low high e.edge ≡ true
  pub proper : is_proper_edge e.edge ≡ true
  pub over : IsLineSide (line_over along_x e.edge)

module _ (m : Building) (valid : IsTrue (is_building m)) (low high : Arrow)
    (slab : IsSlab m along_x low high) (order : List ℕ)
    (is : IsSlabOrder (plan_edges m) along_x low high order) where
  abbrev IsOver : Arrow → PlanEdge → Type 0
  IsOver u e = Stands e (plan_edges m) × (reaches_past along_x u e.edge ≡ true)

  over_at : (u : Arrow) → IsRational u → IsBelow low u → IsBelow u high → (e : PlanEdge)
      → Stands e (edges_at (plan_edges m) order) → IsOver u e
  over_at u u_in after before e e_in =
      all_stands (IsOver u) e (edges_at (plan_edges m) order)
      (order_is_row m along_x low high slab order is u u_in (at_most_from_below low u after) before).over
      e_in

  -- each edge of the order spans it
  pub of_order : (e : PlanEdge) → Stands e (edges_at (plan_edges m) order) → IsSpanning m low high e
  of_order e e_in = record {
    stands = there.0;
    spans = spans;
    proper =
        all_stands (λ g. is_proper_edge g.edge ≡ true) e (plan_edges m) (model_edges_are_proper m)
        there.0;
    over = spanning_is_line along_x low high slab.low_in slab.high_in slab.wide e.edge spans;
  }
    where
      amid_in : IsRational (mediant low high)
      amid_in = mediant-IsRational low high slab.low_in slab.high_in

      between : IsBelow low (mediant low high) × IsBelow (mediant low high) high
      between = mediant_between low high slab.wide

      there : IsOver (mediant low high) e
      there = over_at (mediant low high) amid_in between.0 between.1 e e_in

      spans : is_spanning along_x low high e.edge ≡ true
      spans =
          reaching_spans m along_x low high slab (mediant low high) amid_in
          (at_most_from_below low (mediant low high) between.0) between.1 e there.0 there.1

  -- the edge below a gap between two lines lies below the one above it
  pub beside_is_under : (j : ℕ) (e f : PlanEdge) → IsBetween (edges_at (plan_edges m) order) j e f
      → are_collinear e.edge f.edge ≡ false → IsUnder along_x low high e.edge f.edge
  beside_is_under j e f between apart u u_in after before =
      from (number_cases (value_of along_x u e.edge) (value_of along_x u f.edge))
    where
      e_in : Stands e (edges_at (plan_edges m) order)
      e_in = first_stands (edges_at (plan_edges m) order) j e f between

      f_in : Stands f (edges_at (plan_edges m) order)
      f_in = second_stands (edges_at (plan_edges m) order) j e f between

      rises : IsAtMost (value_of along_x u e.edge) (value_of along_x u f.edge)
      rises =
          two_beside (λ g h. IsAtMost (value_of along_x u g.edge) (value_of along_x u h.edge))
          (edges_at (plan_edges m) order) j e f
          (order_is_row m along_x low high slab order is u u_in (at_most_from_below low u after)
          before).rise between

      from : (IsBelow (value_of along_x u e.edge) (value_of along_x u f.edge)
          ⊎ IsSame (value_of along_x u e.edge) (value_of along_x u f.edge))
          ⊎ IsBelow (value_of along_x u f.edge) (value_of along_x u e.edge)
          → pos 0 <ℤ clearance_at (line_over along_x e.edge) (line_over along_x f.edge) u
      from (inl (inl less)) =
          (higher_is (line_over along_x e.edge) (line_over along_x f.edge) u u_in).0 less
      from (inl (inr same)) =
          let own_e = over_at u u_in after before e e_in in
          let own_f = over_at u u_in after before f f_in in
          absurd
          (false≢true
          (sym apart
          ∙ (lines_are_told m valid low high slab order is e f e_in f_in).1
          (line_if_same m along_x u x_is_way u_in (slab.none u u_in after before) e f own_e.0 own_f.0
          own_e.1 own_f.1 same)))
      from (inr more) =
          absurd (below_clash (value_of along_x u f.edge) (value_of along_x u e.edge) more rises)
