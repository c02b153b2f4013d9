use Rattle.std.proofs.Common.{Ok, sym, ap, ◌∙◌, subst}
use Rattle.sb_step.specs.Params.Parameters.{HasParameters}
use Rattle.sb_step.specs.Params.ParamsAnswers.{AwaitsByForm, SaysByForm}
use Rattle.sb_step.specs.Records.Table.{place_at}
use Rattle.sb_step.proofs.ParameterLists.ParametersOfAnInstance.{place_has, instance_awaits, params_answered}
use Rattle.sb_step.proofs.step_file.StepFile.cursor.Goals as goal

pub by_form-requires : goal.by_form-requires
by_form-requires c =
    let p = place_has _ c.self.invariant.is c.args.number c.in-Some.place
    (ap (λ s. place_at s.file.instances c.args.number) c.self.view_is ∙ sym c.in-Some.ensures) in
    subst (AwaitsByForm c.self.inside.text.bytes.now) (sym (c.form.ensures ∙ p.form_is))
    (instance_awaits c.self.inside.text.bytes.now p.has.record_of p.params p.has.holds)

pub returns-in-Some-clause-parameters : goal.returns-in-Some-clause-parameters
returns-in-Some-clause-parameters c =
    let p = place_has _ c.self.invariant.is c.args.number c.in-Some.place
    (ap (λ s. place_at s.file.instances c.args.number) c.self.view_is ∙ sym c.in-Some.ensures) in
    subst (λ indexed. HasParameters indexed c.args.number c.by_form.result) c.self.view_is
    (params_answered _ c.args.number p.params p.has (Ok c.by_form.result)
    (subst (λ f. SaysByForm c.self.inside.text.bytes.now f c.by_form.result)
    (c.form.ensures ∙ p.form_is) c.by_form.ensures))
