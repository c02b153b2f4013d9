-- The plan edges that reach past a number, and the order in which they are sorted.

use Rattle.std.specs.Prelude.{◌≡◌, true, List, map, slice_get, Some}
use Rattle.std.specs.List.{AllByRecursion}
use Rattle.std.specs.Option.{option_map}
use Rattle.theory_numbers.specs.Arrows.{Arrow}
use Rattle.sb_fraction.specs.Edges.{edge_of}
use Rattle.sb_fraction.specs.Lines.{reaches_past}
use Rattle.sb_model.specs.PlanEdges.{PlanEdge}
use Rattle.theory_lines.specs.Slabs.{places_from}
use Rattle.sb_slab.specs.declared.item.Reaching.{Reaching}

-- the edge at its place is the segment
abbrev pub IsAtPlace : List PlanEdge → Reaching → Type 0
IsAtPlace edges r =
    option_map (λ e. e.edge) (slice_get edges r.place) ≡ Some (edge_of r.segment)

-- the edges that reach past u, by their places
pub record AreReaching (d u : Arrow) (edges : List PlanEdge) (list : List Reaching) : Type 0 where
  pub places : map (λ r. r.place) list ≡ places_from (λ e. reaches_past d u e.edge) 0 edges
  pub segments : AllByRecursion (IsAtPlace edges) list
  pub reach : AllByRecursion (λ r. reaches_past d u (edge_of r.segment) ≡ true) list
