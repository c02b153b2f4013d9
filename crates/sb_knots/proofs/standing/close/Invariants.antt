use Rattle.std.proofs.Common.{ℕ, ◌≤◌, length, IsTrue}
use Rattle.std.specs.List.{concat, list_all}
use Rattle.theory_lists.specs.Parted.{IsPartedAt}
use Rattle.sb_knots.specs.Steps.{is_edge, lies_under}
use Rattle.sb_knots.proofs.IdsOfEdges.{IsClosing}
use Rattle.sb_knots.proofs.standing.close.Given as goal

abbrev pub invariant-closing : goal.invariant-closing
invariant-closing l = record {
  ids : IsTrue (list_all (is_edge l.corners) (concat l.standing));
  closing : (n : ℕ) → n ≤ length (concat l.initial.standing)
      → IsPartedAt (lies_under l.corners l.v) n (concat l.initial.standing)
      → IsClosing l.corners l.v n (concat l.initial.standing) (concat l.standing);
}

abbrev pub decreases-closing : goal.decreases-closing
decreases-closing l = length (concat l.standing)
