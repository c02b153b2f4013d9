-- Too many crossings are told where there are, and only there.
use Rattle.std.proofs.Common.{◌∙◌, sym, refl}
use Rattle.sb_model.specs.PlanEdges.{plan_edges}
use Rattle.sb_frame.specs.Network.{most_edges}
use Rattle.sb_frame.proofs.Meetings.NetworkFound.{within_limit, some_are_few, none_has_more}
use Rattle.sb_frame.proofs.network.PlanEdges.new.Goals as goal

pub returns-in-Ok-Some-clause-crossings : goal.returns-in-Ok-Some-clause-crossings
returns-in-Ok-Some-clause-crossings c made = (
  λ no. absurd cc,
  λ both.
      absurd
      (some_are_few c.args.model.now c.in-Ok-Some.field-0 c.in-Ok-Some.network
      c.in-Ok-Some.field-0-is c.in-Ok-Some.ensures.some c.in-Ok-Some.ensures.few both.1),
)

pub returns-in-Ok-None-clause-crossings : goal.returns-in-Ok-None-clause-crossings
returns-in-Ok-None-clause-crossings c made = (
  λ is. (
    within_limit most_edges (plan_edges c.args.model.now)
        (sym (c.first_beyond.ensures) ∙ c.in_default.is),
    none_has_more c.args.model.now c.in-Ok-None.field-0 c.in-Ok-None.field-0-is
        c.in-Ok-None.ensures.none,
  ),
  λ both. refl,
)
