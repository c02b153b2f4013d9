-- Two tests of edges that differ by a test of points at the ends of each edge pass an odd number of
-- the edges of closed loops alike.

use Rattle.std.proofs.Common.{◌≡◌, refl, ap₂, ◌∙◌, Bool, false, List, [], ◌∷◌}
use Rattle.std.specs.List.{list_any}
use Rattle.std.proofs.lemmas.Bool.{or_parts}
use Rattle.theory_lists.proofs.Blocks.{none_in_parts}
use Rattle.theory_lists.specs.Parity.{differ, is_odd_number}
use Rattle.theory_lists.proofs.Parity.{differ-self, differ-false, differ-differ, same_from_differ}
use Rattle.theory_lists.proofs.Parity.{is_odd_number-append, differ_through}
use Rattle.sb_fraction.specs.declared.point.Point.{Point}
use Rattle.sb_fraction.specs.Edges.{Edge, edge}
use Rattle.theory_plans.specs.LoopEdges.{edges_back, edges_of_loop, edges_of}

-- but on barred edges, two tests differ just where a test of points differs at the two ends
pub record Telescopes (barred f g : Edge → Bool) (w : Point → Bool) : Type 0 where
  pub at : (a b : Point) → barred (edge a b) ≡ false
      → differ (f (edge a b)) (g (edge a b)) ≡ differ (w a) (w b)

module _ {barred f g : Edge → Bool} {w : Point → Bool} (ends : Telescopes barred f g w) where
  -- along an open chain the two parities differ just where the test differs at its two ends
  pub open_chain : (a : Point) (points : List Point) (last : Point)
      → list_any barred (edges_back a points last) ≡ false
      → differ (is_odd_number f (edges_back a points last))
      (is_odd_number g (edges_back a points last))
      ≡ differ (w a) (w last)
  open_chain a [] last none =
      let parts = or_parts (barred (edge a last)) false none in
      ap₂ differ (differ-false (f (edge a last))) (differ-false (g (edge a last)))
      ∙ ends.at a last parts.0
  open_chain a (b ∷ points) last none =
      let parts = or_parts (barred (edge a b)) (list_any barred (edges_back b points last)) none in
      differ-differ (f (edge a b)) (is_odd_number f (edges_back b points last)) (g (edge a b))
      (is_odd_number g (edges_back b points last))
      ∙ ap₂ differ (ends.at a b parts.0) (open_chain b points last parts.1)
      ∙ differ_through (w a) (w b) (w last)

  -- around a closed loop they are the same
  pub closed_loop : (points : List Point) → list_any barred (edges_of_loop points) ≡ false
      → is_odd_number f (edges_of_loop points) ≡ is_odd_number g (edges_of_loop points)
  closed_loop [] none = refl
  closed_loop (a ∷ points) none =
      same_from_differ (is_odd_number f (edges_back a points a))
      (is_odd_number g (edges_back a points a))
      (open_chain a points a none ∙ differ-self (w a))

  -- and over all edges of closed loops
  pub closed_chains : (loops : List (List Point)) → list_any barred (edges_of loops) ≡ false
      → is_odd_number f (edges_of loops) ≡ is_odd_number g (edges_of loops)
  closed_chains [] none = refl
  closed_chains (points ∷ loops) none =
      let parts = none_in_parts barred (edges_of_loop points) (edges_of loops) none in
      rw (
        is_odd_number-append f (edges_of_loop points) (edges_of loops),
        is_odd_number-append g (edges_of_loop points) (edges_of loops),
      ) (ap₂ differ (closed_loop points parts.0) (closed_chains loops parts.1))
