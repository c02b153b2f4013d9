-- The slabs that are told one after another are slabs of the model.

use Rattle.std.proofs.Common.{◌≡◌, sym, ap, ◌∙◌, subst, Bool, true, List, [], ◌∷◌, ◌++◌, Option, Some, IfSome}
use Rattle.std.specs.List.{AllByRecursion, list_all}
use Rattle.std.proofs.lemmas.Bool.{and_parts}
use Rattle.theory_numbers.specs.Arrows.{Arrow}
use Rattle.theory_lines.specs.Slabs.{AreNeighbours, IsSlabOrder}
use Rattle.sb_fraction.specs.Lines.{arrow_along}
use Rattle.sb_fraction.specs.Numbers.{number}
use Rattle.sb_model.specs.declared.products.Element.{Element}
use Rattle.sb_model.specs.Building.{Building}
use Rattle.sb_model.specs.PlanEdges.{plan_edges}
use Rattle.sb_frame.specs.Directions.{along_x}
use Rattle.sb_frame.specs.Network.{Network, IsNetwork}
use Rattle.sb_frame.specs.declared.slab.Slab.{Slab}
use Rattle.sb_slab.specs.Slabs.{SlabsLeft, HasLeft, IsNext}
use Rattle.sb_walk.specs.Behind.{has_no_axis, HaveNoLayers}
use Rattle.sb_walk.specs.Overlaps.{IsSlabOf}

-- at the beginning all are left
pub all_left : (m : Building) (edges : Network) → IsNetwork m edges → (slabs : SlabsLeft) (d : Arrow)
    → d ≡ along_x → ((n : Building) → IsNetwork n edges → HasLeft n d [] slabs)
    → (passed : List Arrow) × HasLeft m along_x passed slabs
all_left m edges network slabs d d_is all =
    ([], subst (λ a. HasLeft m a [] slabs) d_is (all m network))

module _ (m : Building) (old new : SlabsLeft) (left : (passed : List Arrow) × HasLeft m along_x passed old)
    (answer : Option Slab) (slab : Slab) (is : answer ≡ Some slab)
    (all : (n : Building) (d : Arrow) (passed : List Arrow) → HasLeft n d passed old
    → IfSome answer (IsNext n d passed old new)) where
  next_is : IsNext m along_x left.0 old new slab
  next_is = subst (λ o. IfSome o (IsNext m along_x left.0 old new)) is (all m along_x left.0 left.1)

  -- the next one runs along x
  pub runs_along_x : arrow_along slab.direction ≡ along_x
  runs_along_x = next_is.direction

  -- it is one of the model
  pub of_model : IsSlabOf m slab
  of_model = record {
    neighbours =
        subst (λ d. AreNeighbours m d (number slab.low) (number slab.high)) (sym next_is.direction)
        next_is.neighbours;
    order =
        subst (λ d. IsSlabOrder (plan_edges m) d (number slab.low) (number slab.high) slab.order)
        (sym next_is.direction) next_is.order;
  }

  -- and those behind are left
  pub rest_left : (passed : List Arrow) × HasLeft m along_x passed new
  rest_left = (left.0 ++ number slab.low ∷ [], next_is.rest)

-- ---- elements

-- no element has layers where the test says so
pub no_layers : (m : Building) (seen elements : List Element) → seen ≡ elements → elements ≡ m.elements
    → (b : Bool) → b ≡ list_all (λ e. has_no_axis e.layering) seen → b ≡ true → HaveNoLayers m
no_layers m seen elements seen_is elements_is b told is =
    each m.elements
    (ap (list_all (λ e. has_no_axis e.layering)) (sym (seen_is ∙ elements_is)) ∙ sym told ∙ is)
  where
    each : (es : List Element) → list_all (λ e. has_no_axis e.layering) es ≡ true
        → AllByRecursion (λ e. has_no_axis e.layering ≡ true) es
    each [] all = tt
    each (e ∷ es) all =
        let parts = and_parts (has_no_axis e.layering) (list_all (λ x. has_no_axis x.layering) es) all in
        (parts.0, each es parts.1)
