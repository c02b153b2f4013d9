-- Products that are present together in a gap of an order, by going over its edges from below.

use Rattle.std.specs.Prelude.{ℕ, ◌==◌, Bool, false, not, ◌&&◌, ◌||◌, int_lt, List, [], ◌∷◌, Option, Some, None}
use Rattle.std.specs.List.{find}
use Rattle.theory_lists.specs.Parity.{differ}
use Rattle.sb_fraction.specs.Edges.{are_collinear}
use Rattle.sb_model.specs.declared.products.Space.{Space}
use Rattle.sb_model.specs.PlanEdges.{PlanEdge}
use Rattle.theory_gaps.specs.Gaps.{edges_at}

-- behind this edge, where one is present or not and the other is or not: some gap before a further line
-- has both
abbrev pub share_after : ℕ → ℕ → PlanEdge → Bool → Bool → List PlanEdge → Bool
share_after a b last has_a has_b [] = has_a && has_b
share_after a b last has_a has_b (e ∷ row) =
    ((has_a && has_b) && not (are_collinear last.edge e.edge))
    || share_after a b e (differ has_a (e.product == a)) (differ has_b (e.product == b)) row

-- two products are present together in a gap of the row
abbrev pub share_gap : ℕ → ℕ → List PlanEdge → Bool
share_gap a b [] = false
share_gap a b (e ∷ row) = share_after a b e (e.product == a) (e.product == b) row

-- their heights overlap, and they share a gap
abbrev pub share_over : List PlanEdge → List ℕ → Space → Space → Bool
share_over edges order s t =
    (int_lt s.prism.z0 t.prism.z1 && int_lt t.prism.z0 s.prism.z1)
    && share_gap s.number t.number (edges_at edges order)

-- ---- the least pair

-- the number of a space with that of its partner, if it has one, else another pair
abbrev pub with_partner : ℕ → Option Space → Option (ℕ × ℕ) → Option (ℕ × ℕ)
with_partner n (Some t) other = Some (n, t.number)
with_partner n None other = other

-- the first space that shares a gap with one behind it, with the first of these
abbrev pub least_pair : List PlanEdge → List ℕ → List Space → Option (ℕ × ℕ)
least_pair edges order [] = None
least_pair edges order (s ∷ ss) =
    with_partner s.number (find (share_over edges order s) ss) (least_pair edges order ss)
