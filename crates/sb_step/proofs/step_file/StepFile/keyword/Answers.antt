use Rattle.sb_step.proofs.Names.{length, sym, ap, ◌∙◌, subst, nat_eq, option_and_then, keyword_by, keyword_of, place_at, PlaceLies, form_of}
use Rattle.sb_step.proofs.Records.RecordsStand.{found_lies}
use Rattle.sb_step.proofs.Records.PlacesTell.{placed, place_lies, keyword_kept}
use Rattle.sb_step.proofs.step_file.StepFile.keyword.Goals as goal

pub keyword_at-requires : goal.keyword_at-requires
keyword_at-requires c =
    let bytes = c.self.inside.text.bytes.now in
    let o = placed _ c.args.number c.in_ok-place.place
    (ap (λ s. place_at s.file.instances c.args.number) c.self.view_is ∙ sym c.in_ok-place.ensures) in
    let lies = found_lies bytes _ c.self.invariant.is.file (nat_eq c.args.number) o.body o.found in
    subst (PlaceLies (length bytes)) o.is (place_lies (length bytes) o.body lies)

pub returns : goal.returns
returns c =
    let bytes = c.self.inside.text.bytes.now in
    let o = placed _ c.args.number c.in_ok-place.place
    (ap (λ s. place_at s.file.instances c.args.number) c.self.view_is ∙ sym c.in_ok-place.ensures) in
    let lies = found_lies bytes _ c.self.invariant.is.file (nat_eq c.args.number) o.body o.found in
    c.keyword_at.ensures
    ∙ ap (λ p. keyword_by bytes p.start (form_of p)) (sym o.is)
    ∙ keyword_kept (length bytes) o.body lies bytes
    ∙ sym (ap (option_and_then (λ r. keyword_by bytes r.start r.form)) o.found)
    ∙ ap (λ s. keyword_of s c.args.number) c.self.view_is
