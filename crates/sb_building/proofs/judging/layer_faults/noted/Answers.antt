use Rattle.std.proofs.Common.{◌++◌, sym, subst}
use Rattle.sb_building.specs.Steps.Least.{IsLeastOf}
use Rattle.sb_building.specs.Steps.Layers.{bad_if}
use Rattle.sb_building.proofs.judging.layer_faults.noted.Goals as goal

pub returns-then-bad : goal.returns-then-bad
returns-then-bad c = λ before least.
    subst (λ b. IsLeastOf (before ++ bad_if b c.args.number) c.least.result) (sym c.if-bad.true)
    (c.least.ensures before least)
