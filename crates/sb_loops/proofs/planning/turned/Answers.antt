-- A loop that does not begin before its other points is a knot; turned by the senses the loops are
-- put with the solid on their left.
use Rattle.std.proofs.Common.{◌∙◌, ap, sym, refl}
use Rattle.theory_plans.specs.LoopEdges.{edges_of}
use Rattle.sb_loops.specs.Answers.{turned_by}
use Rattle.sb_loops.proofs.LoopsLeft.{not_begun_is_not_apart}
use Rattle.sb_loops.proofs.LoopsTurned.{turned_is_put}
use Rattle.sb_loops.proofs.planning.turned.Goals as goal

pub returns-then-not-are_least_first-clause-knot : goal.returns-then-not-are_least_first-clause-knot
returns-then-not-are_least_first-clause-knot c in_time = (
  λ knot. not_begun_is_not_apart c.args.left.now c.requires.begun
      (sym c.are_least_first.ensures ∙ c.if-not-are_least_first.true),
  λ knot. refl,
)

pub returns-in-Ok-clause-plan : goal.returns-in-Ok-clause-plan
returns-in-Ok-clause-plan c =
    let senses = rw c.in-Ok-Some.field-0-is at c.in-Ok-Some.ensures.senses in
    c.in-Ok.ensures ∙ ap (λ s. turned_by s c.args.left.now) senses
    ∙ turned_is_put (edges_of c.args.left.now) c.args.left.now
