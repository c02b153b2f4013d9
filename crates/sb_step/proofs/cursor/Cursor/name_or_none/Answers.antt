use Rattle.std.proofs.Common.{slice_get, sym, ap, ◌∙◌, subst}
use Rattle.sb_step.specs.Cursors.Cursor.{AreLeft}
use Rattle.sb_step.specs.Cursors.Forms.{reference_or_none_in}
use Rattle.sb_step.proofs.Cursors.FormsByToken.{reference_or_none_is}
use Rattle.sb_step.proofs.cursor.Cursor.name_or_none.Goals as goal

pub returns-in-Some : goal.returns-in-Some
returns-in-Some c =
    let place = c.self.inside.place in
    c.name_or_none_of.ensures
    ∙ sym (reference_or_none_is place.bytes.now c.in-Some.token place.left.0
    (subst (λ n. AreLeft place.bytes.now n place.left.0) c.in-Some.is c.self.invariant))
    ∙ ap (λ ps. reference_or_none_in (slice_get ps 0)) c.self.view_is
