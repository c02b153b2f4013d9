use Rattle.std.proofs.Common.{◌++◌, subst}
use Rattle.sb_building.specs.Steps.Least.{IsLeastOf}
use Rattle.sb_building.specs.Steps.Layers.{bad_if}
use Rattle.sb_building.proofs.judging.layer_faults.judge.Goals as goal

pub returns-clause-judged : goal.returns-clause-judged
returns-clause-judged c = λ said says before least.
    subst (λ b. IsLeastOf (before ++ bad_if b c.args.number) c.noted.result)
    (c.in_ok-bad.ensures.bad said says) (c.noted.ensures before least)
