use Rattle.std.proofs.Common.{slice_get, sym, ap, ◌∙◌, subst}
use Rattle.sb_step.specs.Cursors.Cursor.{AreLeft}
use Rattle.sb_step.specs.Cursors.Forms.{enumeration_in}
use Rattle.sb_step.proofs.ParameterLists.InsidesOfTokens.{enumeration_is}
use Rattle.sb_step.proofs.Cursors.FormsByToken.{enumeration_first}
use Rattle.sb_step.proofs.cursor.Cursor.enumeration_text.Goals as goal

pub enumeration_of-requires : goal.enumeration_of-requires
enumeration_of-requires c = λ is.
    let place = c.self.inside.place in
    let stands = subst (λ n. AreLeft place.bytes.now n place.left.0) c.in-Some.is
    c.self.invariant in
    (enumeration_is stands.token is).long

pub returns-in-Some : goal.returns-in-Some
returns-in-Some c =
    let place = c.self.inside.place in
    c.enumeration_of.ensures
    ∙ sym (enumeration_first place.bytes.now c.in-Some.token place.left.0
    (subst (λ n. AreLeft place.bytes.now n place.left.0) c.in-Some.is c.self.invariant))
    ∙ ap (λ ps. enumeration_in (slice_get ps 0)) c.self.view_is
