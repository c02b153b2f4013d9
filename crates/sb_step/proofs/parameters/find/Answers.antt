use Rattle.sb_step.proofs.Names.{sym, ap, ◌∙◌, subst, IsParamsAnswer, AwaitsByForm, SaysByForm, Gives, place_at}
use Rattle.sb_step.proofs.ParameterLists.ParametersOfAnInstance.{place_has, instance_awaits, params_answered}
use Rattle.sb_step.proofs.parameters.find.Goals as goal

pub by_form-requires : goal.by_form-requires
by_form-requires c =
    let p = place_has _ c.file.invariant.is c.args.number c.in-Some.place
    (ap (λ s. place_at s.file.instances c.args.number) c.file.view_is ∙ sym c.in-Some.ensures) in
    subst (AwaitsByForm c.file.inside.text.bytes.now) (sym (c.form.ensures ∙ p.form_is))
    (instance_awaits c.file.inside.text.bytes.now p.has.record_of p.params p.has.holds)

pub returns-in-Some : goal.returns-in-Some
returns-in-Some c =
    let p = place_has _ c.file.invariant.is c.args.number c.in-Some.place
    (ap (λ s. place_at s.file.instances c.args.number) c.file.view_is ∙ sym c.in-Some.ensures) in
    subst (λ indexed. IsParamsAnswer indexed c.args.number c.by_form.result) c.file.view_is
    (params_answered _ c.args.number p.params p.has c.by_form.result
    (subst (λ f. Gives (SaysByForm c.file.inside.text.bytes.now f) c.by_form.result)
    (c.form.ensures ∙ p.form_is) c.by_form.ensures))
