use Rattle.std.proofs.Common.{◌∙◌, subst, ap, get_or, IsTrue, rules}
use Rattle.std.proofs.lemmas.List.Sorted.{answers_always}
use Rattle.std.proofs.lemmas.List.{get_or_default}
use Rattle.sb_model.specs.declared.products.Filling.{Filling}
use Rattle.sb_model.specs.declared.products.FillKind.TheVariants as kind
use Rattle.sb_model.specs.Building.{is_building}
use Rattle.sb_model.proofs.FoundByNumber.{halving-found, halving-none, fillings_right}
use Rattle.sb_model.proofs.building.Model.filling.Goals as goal

pub returns-in-Ok : goal.returns-in-Ok
returns-in-Ok c =
    let sound = subst (λ m. IsTrue (is_building m)) c.self.view_is c.self.invariant in
    halving-found (λ (x : Filling). x.number) _ c.args.number c.args.self.now.fillings c.as_slice-fillings.result.now
    (fillings_right c.args.self.now sound)
    (c.as_slice-fillings.ensures ∙ ap (λ m. m.fillings) c.self.view_is) c.in-Ok.at (get_or c.as_slice-fillings.result.now c.in-Ok.at record { number = 0; opening = 0; kind = kind.Window })
    c.in-Ok.ensures.bound
    (c.in-Ok.ensures.position (λ (x : Filling). x.number)
    (answers_always _ _ _ (λ f a r g h. search rules)))
    (get_or_default c.as_slice-fillings.result.now c.in-Ok.at _ _ c.in-Ok.ensures.bound)

pub returns-in-Err : goal.returns-in-Err
returns-in-Err c =
    let sound = subst (λ m. IsTrue (is_building m)) c.self.view_is c.self.invariant in
    halving-none (λ (x : Filling). x.number) _ c.args.number c.args.self.now.fillings c.as_slice-fillings.result.now
    (fillings_right c.args.self.now sound)
    (c.as_slice-fillings.ensures ∙ ap (λ m. m.fillings) c.self.view_is) c.in-Err.field-0
    (c.in-Err.ensures.position (λ (x : Filling). x.number)
    (answers_always _ _ _ (λ f a r g h. search rules)))
