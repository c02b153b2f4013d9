use Rattle.sb_step.proofs.Names.{Ok, length, sym, ap, ◌∙◌, subst, nat_eq, option_and_then, keyword_by, keyword_of, place_at, PlaceLies, form_of}
use Rattle.sb_step.specs.Params.Parameters.{HasParameters}
use Rattle.sb_step.specs.Params.ParamsAnswers.{AwaitsByForm, SaysByForm}
use Rattle.sb_step.proofs.ParameterLists.ParametersOfAnInstance.{place_has, instance_awaits, params_answered}
use Rattle.sb_step.proofs.Records.RecordsStand.{found_lies}
use Rattle.sb_step.proofs.Records.PlacesTell.{placed, place_lies, keyword_kept}
use Rattle.sb_step.proofs.step_file.StepFile.instance.Goals as goal

pub keyword_at-keyword-requires : goal.keyword_at-keyword-requires
keyword_at-keyword-requires c =
    let bytes = c.self.inside.text.bytes.now in
    let o = placed _ c.args.number c.in-Some.place
    (ap (λ s. place_at s.file.instances c.args.number) c.self.view_is ∙ sym c.in-Some.ensures) in
    let lies = found_lies bytes _ c.self.invariant.is.file (nat_eq c.args.number) o.body o.found in
    subst (PlaceLies (length bytes)) o.is (place_lies (length bytes) o.body lies)

pub by_form-parameters-requires : goal.by_form-parameters-requires
by_form-parameters-requires c =
    let p = place_has _ c.self.invariant.is c.args.number c.in-Some.place
    (ap (λ s. place_at s.file.instances c.args.number) c.self.view_is ∙ sym c.in-Some.ensures) in
    subst (AwaitsByForm c.self.inside.text.bytes.now) (sym (c.form.ensures ∙ p.form_is))
    (instance_awaits c.self.inside.text.bytes.now p.has.record_of p.params p.has.holds)

pub returns-in-Some-clause-keyword : goal.returns-in-Some-clause-keyword
returns-in-Some-clause-keyword c =
    let bytes = c.self.inside.text.bytes.now in
    let o = placed _ c.args.number c.in-Some.place
    (ap (λ s. place_at s.file.instances c.args.number) c.self.view_is ∙ sym c.in-Some.ensures) in
    let lies = found_lies bytes _ c.self.invariant.is.file (nat_eq c.args.number) o.body o.found in
    c.keyword_at-keyword.ensures
    ∙ ap (λ p. keyword_by bytes p.start (form_of p)) (sym o.is)
    ∙ keyword_kept (length bytes) o.body lies bytes
    ∙ sym (ap (option_and_then (λ r. keyword_by bytes r.start r.form)) o.found)
    ∙ ap (λ s. keyword_of s c.args.number) c.self.view_is

pub returns-in-Some-clause-parameters : goal.returns-in-Some-clause-parameters
returns-in-Some-clause-parameters c =
    let p = place_has _ c.self.invariant.is c.args.number c.in-Some.place
    (ap (λ s. place_at s.file.instances c.args.number) c.self.view_is ∙ sym c.in-Some.ensures) in
    subst (λ indexed. HasParameters indexed c.args.number c.by_form-parameters.result)
    c.self.view_is
    (params_answered _ c.args.number p.params p.has (Ok c.by_form-parameters.result)
    (subst (λ f. SaysByForm c.self.inside.text.bytes.now f c.by_form-parameters.result)
    (c.form.ensures ∙ p.form_is) c.by_form-parameters.ensures))
