-- The numbers rise, and turned by the edges that are left they are the present ones.
use Rattle.std.proofs.Common.{◌≡◌, ◌<◌, ℕ, length}
use Rattle.std.specs.List.{AllByRecursion}
use Rattle.theory_lists.specs.Parity.{differ}
use Rattle.theory_gaps.specs.Gaps.{edges_at, is_present}
use Rattle.sb_walk.specs.Present.{Rise, is_one_of}
use Rattle.sb_walk.proofs.levels.present_behind.Given as goal

abbrev pub invariant-places : goal.invariant-places
invariant-places l = record {
  rise : Rise l.list.items;
  each : (n : ℕ)
      → differ (is_one_of l.list.items n) (is_present (edges_at l.edges.edges l.rest) n)
      ≡ is_present (edges_at l.edges.edges l.places) n;
  fit : AllByRecursion (λ k. k < length l.edges.edges) l.rest;
}

abbrev pub decreases-places : goal.decreases-places
decreases-places l = length l.rest
