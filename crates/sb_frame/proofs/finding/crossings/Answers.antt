-- The edges are put in the order in which they begin, and have the same crossings.
use Rattle.std.proofs.Common.{rules, sym, subst, IsPermutation, List}
use Rattle.std.proofs.lemmas.Fn.{always_returns_same}
use Rattle.sb_fraction.specs.Edges.{edge_of}
use Rattle.sb_frame.specs.declared.edge.PlanEdge.{PlanEdge}
use Rattle.sb_frame.specs.Found.{left_of}
use Rattle.sb_frame.proofs.Meetings.StepsOfFinding.{BeginInOrder, sorted_by_left, found_if}
use Rattle.sb_frame.proofs.finding.crossings.Goals as goal

pub crossings_by_left-requires : goal.crossings_by_left-requires
crossings_by_left-requires c =
    subst BeginInOrder (sym c.as_slice.ensures.value)
    (sorted_by_left c.sort_unstable_by_key.new.self.items
    (c.sort_unstable_by_key.ensures.sorted (λ (e : PlanEdge). left_of (edge_of e.segment))
    (always_returns_same _ _ _ (λ a r f k. search rules))))

pub returns : goal.returns
returns c =
    found_if c.args.edges.now c.as_slice.result.now c.crossings_by_left.result
    (subst (λ (list : List PlanEdge). IsPermutation list c.as_slice.result.now) c.in_ok-by_left.ensures.items
    (subst (λ (list : List PlanEdge). IsPermutation c.in_ok-by_left.by_left.items list)
    (sym c.as_slice.ensures.value) c.sort_unstable_by_key.ensures.permutation))
    c.crossings_by_left.ensures
