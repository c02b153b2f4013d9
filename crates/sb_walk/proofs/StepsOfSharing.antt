-- Edge after edge, whether two products have shared a gap.

use Rattle.std.proofs.Common.{◌≡◌, sym, ap, ◌∙◌, ℕ, ◌==◌, Bool, true, false, not, ◌&&◌, ◌||◌}
use Rattle.std.proofs.Common.{List, ◌∷◌, Some, slice_get}
use Rattle.theory_lists.specs.Parity.{differ}
use Rattle.sb_fraction.specs.Edges.{are_collinear}
use Rattle.sb_model.specs.PlanEdges.{PlanEdge}
use Rattle.theory_gaps.specs.Gaps.{with_one, edges_at}
use Rattle.sb_walk.specs.Shared.{share_after, share_gap}

module _ (a b : ℕ) (edges : List PlanEdge) (k : ℕ) (places : List ℕ) (e : PlanEdge)
    (at : slice_get edges k ≡ Some e) where
  -- at the first edge
  pub shared_at_first :
      share_after a b e (e.product == a) (e.product == b) (edges_at edges places)
      ≡ share_gap a b (edges_at edges (k ∷ places))
  shared_at_first = sym (ap (λ o. share_gap a b (with_one o (edges_at edges places))) at)

  module _ (last : PlanEdge) (has_a has_b whole : Bool)
      (before : share_after a b last has_a has_b (edges_at edges (k ∷ places)) ≡ whole) where
    opened : (((has_a && has_b) && not (are_collinear last.edge e.edge))
        || share_after a b e (differ has_a (e.product == a)) (differ has_b (e.product == b))
        (edges_at edges places))
        ≡ whole
    opened =
        sym (ap (λ o. share_after a b last has_a has_b (with_one o (edges_at edges places))) at)
        ∙ before

    -- no gap before this edge: the rest tells
    pub not_shared_here : ((has_a && has_b) && not (are_collinear last.edge e.edge)) ≡ false
        → share_after a b e (differ has_a (e.product == a)) (differ has_b (e.product == b))
        (edges_at edges places) ≡ whole
    not_shared_here none =
        sym
        (ap (λ t. t
        || share_after a b e (differ has_a (e.product == a)) (differ has_b (e.product == b))
        (edges_at edges places)) none)
        ∙ opened

    -- a gap before this edge has both
    pub shared_here : ((has_a && has_b) && not (are_collinear last.edge e.edge)) ≡ true
        → true ≡ whole
    shared_here both =
        sym
        (ap (λ t. t
        || share_after a b e (differ has_a (e.product == a)) (differ has_b (e.product == b))
        (edges_at edges places)) both)
        ∙ opened
