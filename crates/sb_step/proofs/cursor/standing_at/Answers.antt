use Rattle.std.proofs.Common.{sym, subst, subst₂}
use Rattle.sb_step.specs.Cursors.Cursor.{AreLeft}
use Rattle.sb_step.proofs.Cursors.LeftIsUnique.{kept_is}
use Rattle.sb_step.proofs.cursor.standing_at.Goals as goal

pub invariant_of-result : goal.invariant_of-result
invariant_of-result c =
    let place = c.placed-place.result in
    let here = subst₂ (λ bytes next. AreLeft bytes next c.requires.0)
    (sym c.placed-place.ensures.bytes) (sym c.placed-place.ensures.next) c.requires.1 in
    subst (AreLeft place.bytes.now place.next)
    (sym (kept_is place.unique place.bytes.now place.next place.left c.requires.0 here)) here

pub returns : goal.returns
returns c = λ ps left.
    let place = c.placed-place.result in
    kept_is place.unique place.bytes.now place.next place.left ps
    (subst₂ (λ bytes next. AreLeft bytes next ps)
    (sym c.placed-place.ensures.bytes) (sym c.placed-place.ensures.next) left)
