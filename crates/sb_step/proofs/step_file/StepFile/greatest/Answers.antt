use Rattle.sb_step.proofs.Names.{subst, IsGreatest, IsLast}
use Rattle.sb_step.proofs.Records.InstancesByNumber.{greatest_from}
use Rattle.sb_step.proofs.step_file.StepFile.greatest.Goals as goal

pub returns : goal.returns
returns c =
    subst (λ s. IsGreatest c.last_number.result s.file.instances) c.self.view_is
    (greatest_from _ c.self.inside.rows.items c.self.invariant.table c.last_number.result
    (subst (IsLast c.last_number.result) c.deref.ensures.value c.last_number.ensures))
