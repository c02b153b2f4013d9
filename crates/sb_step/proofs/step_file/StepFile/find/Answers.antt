use Rattle.sb_step.proofs.Names.{None, Some, sym, ap, ◌∙◌, subst, arith, Finds, place_at}
use Rattle.sb_step.proofs.Records.InstancesByNumber.{found_place, missing_place}
use Rattle.sb_step.proofs.step_file.StepFile.find.Goals as goal

pub returns-in_err-at : goal.returns-in_err-at
returns-in_err-at c =
    c.from_residual.ensures
    ∙ sym (ap (λ s. place_at s.file.instances c.args.number) (sym c.self.view_is)
    ∙ missing_place _ c.self.inside.rows.items c.self.invariant.table c.args.number
    (subst (λ rows. Finds rows c.args.number None) c.deref.ensures.value c.in_err-at.ensures))

pub index-requires : goal.index-requires
index-requires c =
    let stands = found_place _ c.self.inside.rows.items c.self.invariant.table c.self.invariant.is.apart
    c.args.number c.in_ok-at.at
    (subst (λ rows. Finds rows c.args.number (Some c.in_ok-at.at)) c.deref.ensures.value
    c.in_ok-at.ensures)
    c.self.inside.places.items c.self.invariant.places_are (record { start = 0; keyword_end = 0 }) in
    omega (arith, stands.0, c.self.inside.places.ok)

pub returns : goal.returns
returns c =
    ap Some c.index.ensures
    ∙ (found_place _ c.self.inside.rows.items c.self.invariant.table c.self.invariant.is.apart
    c.args.number c.in_ok-at.at
    (subst (λ rows. Finds rows c.args.number (Some c.in_ok-at.at)) c.deref.ensures.value
    c.in_ok-at.ensures)
    c.self.inside.places.items c.self.invariant.places_are
    c.index.result.now).1
    ∙ ap (λ s. place_at s.file.instances c.args.number) c.self.view_is
