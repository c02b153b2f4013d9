-- The first opening comes first of all.
use Rattle.std.proofs.Common.{◌∙◌, ap, subst}
use Rattle.sb_frame.specs.Owners.{Queues, queues, first_of, IsTaken}
use Rattle.sb_frame.proofs.Products.TakenFirst.{opening_taken}
use Rattle.sb_frame.proofs.owners.Queue.take_opening.Goals as goal

pub returns-in-Some-clause-some : goal.returns-in-Some-clause-some
returns-in-Some-clause-some c =
    subst (λ (q : Queues). IsTaken c.owner_of.result q
    (queues c.self.inside.spaces.now c.self.inside.elements.now c.in-Some.rest.now))
    c.self.view_is
    (opening_taken c.owner_of.result c.self.inside.openings.now c.self.inside.spaces.now c.self.inside.elements.now
    c.in-Some.first.now c.in-Some.rest.now
    c.self.invariant (ap first_of c.self.view_is ∙ c.requires) c.in-Some.ensures.cases.0
    c.owner_of.ensures.number c.owner_of.ensures.loops)
