-- Plan edges, their crossings, and the abscissae of a direction.

use Rattle.std.specs.Prelude.{ℕ, Bool, ◌||◌, nat_le, List, [], ◌∷◌, ◌++◌, map, if◌then◌else◌}
use Rattle.std.specs.List.{list_any}
use Rattle.theory_numbers.specs.Arrows.{Arrow}
use Rattle.sb_fraction.specs.Spots.{Spot, Vector}
use Rattle.sb_fraction.specs.Edges.{Edge}
use Rattle.sb_fraction.specs.Crossings.{cross_at, cross_over, ends_over}
use Rattle.theory_plans.specs.LoopEdges.{edges_of}
use Rattle.sb_model.specs.Solids.{Upright}
use Rattle.sb_model.specs.Building.{Building}

-- a product with its prism
pub record Product : Type 0 where
  pub number : ℕ
  pub prism : Upright

abbrev pub product : ℕ → Upright → Product
product number prism = record { number = number; prism = prism }

-- the product at its place among products in order of number
abbrev pub placed : Product → List Product → List Product
placed p [] = p ∷ []
placed p (q ∷ qs) = if nat_le p.number q.number then p ∷ q ∷ qs else q ∷ placed p qs

abbrev pub in_order : List Product → List Product
in_order [] = []
in_order (p ∷ ps) = placed p (in_order ps)

-- the spaces, elements and openings in order of number
abbrev pub products_of : Building → List Product
products_of m = in_order (map (λ s. product s.number s.prism) m.spaces
    ++ map (λ e. product e.number e.prism) m.elements
    ++ map (λ o. product o.number o.prism) m.openings)

-- an edge of a product
pub record PlanEdge : Type 0 where
  pub edge : Edge
  pub product : ℕ

abbrev pub edges_in : List Product → List PlanEdge
edges_in [] = []
edges_in (p ∷ ps) = map (λ e. record { edge = e; product = p.number }) (edges_of p.prism.loops)
    ++ edges_in ps

-- the plan edges: those of the loops of all spaces, elements and openings, in order of product
-- number, then loop, then edge
abbrev pub plan_edges : Building → List PlanEdge
plan_edges m = edges_in (products_of m)

-- p is a crossing: two plan edges cross there
abbrev pub is_crossing : Building → Spot → Bool
is_crossing m p = list_any (λ e. list_any (λ f. cross_at p e.edge f.edge) (plan_edges m))
    (plan_edges m)

-- u is an abscissa of the direction d: an end of a plan edge or a crossing has it
abbrev pub is_abscissa : Building → Vector → Arrow → Bool
is_abscissa m d u =
    list_any (λ e. ends_over d u e.edge) (plan_edges m)
    || list_any (λ e. list_any (λ f. cross_over d u e.edge f.edge) (plan_edges m)) (plan_edges m)
