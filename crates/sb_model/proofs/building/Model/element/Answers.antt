use Rattle.std.proofs.Common.{◌∙◌, subst, ap, IsTrue, rules}
use Rattle.std.proofs.lemmas.List.Sorted.{answers_always}
use Rattle.sb_model.specs.declared.products.Element.{Element}
use Rattle.sb_model.specs.Building.{is_building}
use Rattle.sb_model.proofs.FoundByNumber.{halving-found, halving-none, elements_right}
use Rattle.sb_model.proofs.building.Model.element.Goals as goal

pub returns-in-Ok : goal.returns-in-Ok
returns-in-Ok c =
    let sound = subst (λ m. IsTrue (is_building m)) c.self.view_is c.self.invariant in
    halving-found (λ (x : Element). x.number) _ c.args.number c.args.self.now.elements c.as_slice-elements.result.now
    (elements_right c.args.self.now sound)
    (c.as_slice-elements.ensures ∙ ap (λ m. m.elements) c.self.view_is) c.in-Ok.at c.index-elements-at.result
    c.in-Ok.ensures.bound
    (c.in-Ok.ensures.position (λ (x : Element). x.number)
    (answers_always _ _ _ (λ f a r g h. search rules)))
    c.index-elements-at.is

pub returns-in-Err : goal.returns-in-Err
returns-in-Err c =
    let sound = subst (λ m. IsTrue (is_building m)) c.self.view_is c.self.invariant in
    halving-none (λ (x : Element). x.number) _ c.args.number c.args.self.now.elements c.as_slice-elements.result.now
    (elements_right c.args.self.now sound)
    (c.as_slice-elements.ensures ∙ ap (λ m. m.elements) c.self.view_is) c.in-Err.field-0
    (c.in-Err.ensures.position (λ (x : Element). x.number)
    (answers_always _ _ _ (λ f a r g h. search rules)))
