-- Gaps: the places in the order of a slab's edges, from 0 to its length. What stands in a gap, the edges
-- before it tell.
use Rattle.std.specs.Prelude.{ℕ, zero, suc, ◌==◌, Bool, ◌&&◌, List, [], ◌∷◌, Option, Some, None}
use Rattle.std.specs.Prelude.{slice_get, take, drop, ⊤}
use Rattle.std.specs.Prelude.{◌≡◌}
use Rattle.std.specs.Prelude.{true}
use Rattle.std.specs.Prelude.{◌<ℤ◌}
use Rattle.std.specs.List.{AllByRecursion}
use Rattle.theory_lists.specs.Parity.{is_odd_number}
use Rattle.sb_fraction.specs.Spots.{Spot}
use Rattle.sb_fraction.specs.Spots.{IsSpot}
use Rattle.sb_model.specs.declared.labels.label.Label.{Label}
use Rattle.sb_model.specs.Building.{Building}
use Rattle.sb_model.specs.Labels.{open_label}
use Rattle.sb_model.specs.PlanEdges.{PlanEdge, plan_edges}
use Rattle.sb_model.specs.PlanEdges.{Product}
use Rattle.sb_model.specs.Solids.{is_between_heights}
use Rattle.sb_model.specs.Solids.{Upright}
use Rattle.sb_model.specs.Solids.{is_in_solid}
use Rattle.theory_lists.specs.Parted.{IsPartedAt}
use Rattle.theory_numbers.specs.Arrows.{Arrow}
use Rattle.theory_numbers.specs.Rationals.{IsBelow, IsAtMost}
use Rattle.theory_plane.specs.Points.{ordinate_of}
use Rattle.sb_fraction.specs.Lines.{in_frame}
use Rattle.theory_parity.specs.Below.{abscissa_in, value_of}
use Rattle.theory_lines.specs.Slabs.{AreOnOneLine, is_lower_place}
use Rattle.theory_sight.specs.Coarse.{stacked}

-- one more item, if it is there
abbrev pub with_one : {X : Type 0} → Option X → List X → List X
with_one None xs = xs
with_one (Some x) xs = x ∷ xs

-- the edges at these places of a list, in the order of the places
abbrev pub edges_at : List PlanEdge → List ℕ → List PlanEdge
edges_at edges [] = []
edges_at edges (k ∷ places) = with_one (slice_get edges k) (edges_at edges places)

-- the edges before gap j of an order: the first j
abbrev pub edges_before : List PlanEdge → List ℕ → ℕ → List PlanEdge
edges_before edges order j = edges_at edges (take j order)

-- and behind it: the others
abbrev pub edges_behind : List PlanEdge → List ℕ → ℕ → List PlanEdge
edges_behind edges order j = edges_at edges (drop j order)

-- a row does not go on on the line of this edge
abbrev pub BeginsOffLine : Arrow → PlanEdge → List PlanEdge → Type 0
BeginsOffLine d e [] = ⊤
BeginsOffLine d e (f ∷ row) = AreOnOneLine d e.edge f.edge → ⊥

-- gap j of a row of edges lies between two lines: the edges on its two sides, where it has both, do not
-- lie on one line. A gap between edges on one line holds no point
abbrev pub IsRealGap : Arrow → List PlanEdge → ℕ → Type 0
IsRealGap d row zero = ⊤
IsRealGap d [] (suc j) = ⊤
IsRealGap d (e ∷ row) (suc zero) = BeginsOffLine d e row
IsRealGap d (e ∷ row) (suc (suc j)) = IsRealGap d row (suc j)

-- at u the value v lies strictly in gap j of a row: above the first j edges, and under the others
abbrev pub IsStrictlyIn : Arrow → List PlanEdge → ℕ → Arrow → Arrow → Type 0
IsStrictlyIn d row j u v =
    AllByRecursion (λ e. IsBelow (value_of d u e.edge) v) (take j row)
    × AllByRecursion (λ e. IsBelow v (value_of d u e.edge)) (drop j row)

-- the point lies in gap j of the order of a slab: over the slab, its beginning taken in, and above the
-- first j edges and no others
pub record IsGapOf (m : Building) (d low high : Arrow) (order : List ℕ) (p : Spot) (j : ℕ) : Type 0 where
  pub after : IsAtMost low (abscissa_in d p)
  pub before : IsBelow (abscissa_in d p) high
  pub parts :
      IsPartedAt
      (is_lower_place (plan_edges m) d (abscissa_in d p) (ordinate_of (in_frame d p))) j order

-- the product with this number is present behind these edges: an odd number of them are its own
abbrev pub is_present : List PlanEdge → ℕ → Bool
is_present passed n = is_odd_number (λ e. e.product == n) passed

-- a common inner point of two prisms strictly inside a slab
pub record IsCommonOver (d low high : Arrow) (s t : Upright) (p : Spot) : Type 0 where
  pub positive : IsSpot p
  pub after : IsBelow low (abscissa_in d p)
  pub before : IsBelow (abscissa_in d p) high
  pub first : is_in_solid s p ≡ true
  pub second : is_in_solid t p ≡ true

-- both products are present in gap j, which lies between two lines, and their heights overlap
pub record OverlapInGap (m : Building) (d : Arrow) (order : List ℕ) (q r : Product) (j : ℕ)
    : Type 0 where
  pub real : IsRealGap d (edges_at (plan_edges m) order) j
  pub first : is_present (edges_before (plan_edges m) order j) q.number ≡ true
  pub second : is_present (edges_before (plan_edges m) order j) r.number ≡ true
  pub under : q.prism.z0 <ℤ r.prism.z1
  pub over : r.prism.z0 <ℤ q.prism.z1

-- the coarse label behind these edges, at the height of p
abbrev pub label_in_gap : Building → Spot → List PlanEdge → Label
label_in_gap m p passed =
    stacked m
    (λ s. is_present passed s.number && is_between_heights s.prism.z0 s.prism.z1 p)
    (λ e. is_present passed e.number && is_between_heights e.prism.z0 e.prism.z1 p)
    (open_label m.ground_height p)
