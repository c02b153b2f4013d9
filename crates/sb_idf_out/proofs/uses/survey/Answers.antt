-- One boundary more, and at the end all.
use Rattle.std.proofs.Common.{◌≡◌, ◌<◌, ◌≤◌, ◌∙◌, ◌++◌, ◌∷◌, [], take, get_or, length, sym, ap, subst}
use Rattle.std.proofs.lemmas.List.{take_all}
use Rattle.sb_idf_out.specs.Steps.Uses.{AreUses, materials_after, constructions_after, numbers_used}
use Rattle.sb_idf_out.proofs.BoundariesGrow.{uses_more, numbers_more}
use Rattle.sb_idf_out.proofs.uses.survey.Goals as goal

pub bounds-init : goal.bounds-init
bounds-init c = (c.no_uses-uses.ensures c.args.model.now, c.new-numbers.ensures.items)

pub bounds-preserved : goal.bounds-preserved
bounds-preserved c =
    let m = c.args.model.now in
    let bs = c.args.bounds.now in
    let i = c.bounds.boundary-index in
    let b = c.boundary-item.result in
    let all = c.as_slice-boundary-items.ensures in
    let within = subst (λ l. i < length l) all c.bounds-test.true in
    let is = subst (λ l. b ≡ get_or l i b) all c.boundary-item.is in
    let step = c.in_ok-number_of_boundary.ensures _ _ c.bounds.invariant.0 in (
      uses_more m bs i b within is c.number_of_boundary.new.uses step.0,
      c.in_ok-push.ensures.items
          ∙ (ap (λ l. l ++ c.in_ok-number_of_boundary.field-0 ∷ []) c.bounds.invariant.1
          ∙ (ap (λ n. numbers_used m [] [] (take i bs) ++ n ∷ []) step.1
          ∙ sym (numbers_more m bs i b within is))),
    )

pub returns : goal.returns
returns c =
    let m = c.args.model.now in
    let past = subst (λ l. length l ≤ c.bounds.boundary-index) c.as_slice-boundary-items.ensures
    c.bounds-test.false in
    let whole = take_all c.bounds.boundary-index c.args.bounds.now past in
    record {
      uses = subst (λ l. AreUses m (materials_after m [] l) (constructions_after m [] [] l) c.bounds.uses) whole
          c.bounds.invariant.0;
      numbers = c.bounds.invariant.1 ∙ ap (numbers_used m [] []) whole;
    }
