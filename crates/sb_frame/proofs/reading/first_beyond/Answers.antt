-- The edges of a product are passed over, or pass the limit.
use Rattle.std.proofs.Common.{◌∙◌, sym, subst, ◌<◌, ◌+◌, length}
use Rattle.theory_plans.specs.LoopEdges.{edges_of}
use Rattle.sb_model.specs.PlanEdges.{edges_in, in_order}
use Rattle.sb_frame.specs.Network.{most_edges}
use Rattle.sb_frame.specs.Owners.{products_in}
use Rattle.sb_frame.proofs.Products.ReadInOrder.{passes_limit}
use Rattle.sb_frame.proofs.reading.first_beyond.Goals as goal

pub returns-in-None : goal.returns-in-None
returns-in-None c =
    sym
    (c.owners.invariant.beyond
    ∙ passes_limit c.in-Some.owner.number most_edges c.owners.count
    (edges_of c.in-Some.owner.loops.now) (edges_in (in_order (products_in c.owners.queue)))
    (edges_in (in_order (products_in c.take_first.new.self)))
    c.owners.invariant.within c.in-Some.ensures.some.edges
    (subst (λ loops. most_edges < c.owners.count + length (edges_of loops)) c.as_slice.ensures
    c.in-None.ensures.none))
