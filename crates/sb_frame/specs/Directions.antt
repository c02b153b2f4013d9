-- The directions in which a model is gone through.

use Rattle.std.specs.Prelude.{◌≡◌, ◌⊎◌, ◌<ℤ◌, pos, List, [], ◌∷◌, ◌++◌, map}
use Rattle.std.specs.List.{AllByRecursion}
use Rattle.std.specs.declared.cmp.Ordering.{Ordering}
use Rattle.std.specs.Ordering.{then_cmp, on, int_cmp}
use Rattle.theory_lists.specs.Members.{Stands, AllOfTwo}
use Rattle.theory_numbers.specs.Arrows.{Arrow, arrow}
use Rattle.sb_fraction.specs.declared.direction.Direction.{Direction}
use Rattle.sb_fraction.specs.Edges.{Edge}
use Rattle.sb_fraction.specs.Lines.{arrow_along, flat}
use Rattle.sb_fraction.specs.Directions.{direction_of}
use Rattle.theory_plans.specs.LoopEdges.{edges_of}
use Rattle.sb_model.specs.declared.products.Space.{Space}
use Rattle.sb_model.specs.Building.{Building}
use Rattle.sb_model.specs.PlanEdges.{PlanEdge}
use Rattle.sb_frame.specs.Owners.{edge_in}

-- the direction along x
abbrev pub along_x : Arrow
along_x = arrow (pos 1) (pos 0)

-- d is the direction of a side of a space
abbrev pub IsOfSide : Building → Arrow → Type 0
IsOfSide m d =
    (s : Space) × (e : Edge) × (Stands s m.spaces × (Stands e (edges_of s.prism.loops) × (flat d ≡ direction_of e)))

-- d is (1, 0), or the direction of a side of a space
abbrev pub IsDirectionOf : Building → Arrow → Type 0
IsDirectionOf m d = (d ≡ along_x) ⊎ IsOfSide m d

-- by x, then by y
abbrev pub ComesBefore : Arrow → Arrow → Type 0
ComesBefore d e = (d.x <ℤ e.x) ⊎ ((d.x ≡ e.x) × (d.y <ℤ e.y))

-- the directions of a model, rising by x and then by y, so each once
pub record AreDirections (m : Building) (list : List Direction) : Type 0 where
  pub rising : AllOfTwo ComesBefore (map arrow_along list)
  pub each : AllByRecursion (IsDirectionOf m) (map arrow_along list)
  pub all : (d : Arrow) → IsDirectionOf m d → Stands d (map arrow_along list)

-- ---- steps

abbrev pub order_of_directions : Direction → Direction → Ordering
order_of_directions = then_cmp (on (λ d. d.x) int_cmp) (on (λ d. d.y) int_cmp)

-- the edges of spaces, one space after another
abbrev pub space_edges : List Space → List PlanEdge
space_edges [] = []
space_edges (s ∷ ss) = map (edge_in s.number) (edges_of s.prism.loops) ++ space_edges ss

-- the direction of an edge
abbrev pub heading : Edge → Arrow
heading e = arrow (direction_of e).x (direction_of e).y

abbrev pub axis_and_headings : List PlanEdge → List Arrow
axis_and_headings edges = along_x ∷ map (λ e. heading e.edge) edges
