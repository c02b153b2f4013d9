use Rattle.std.proofs.Common.{◌∙◌, subst, ap, IsTrue, rules}
use Rattle.std.proofs.lemmas.List.Sorted.{answers_always}
use Rattle.sb_model.specs.declared.products.Space.{Space}
use Rattle.sb_model.specs.Building.{is_building}
use Rattle.sb_model.proofs.FoundByNumber.{halving-found, halving-none, spaces_right}
use Rattle.sb_model.proofs.building.Model.space.Goals as goal

pub returns-in-Ok : goal.returns-in-Ok
returns-in-Ok c =
    let sound = subst (λ m. IsTrue (is_building m)) c.self.view_is c.self.invariant in
    halving-found (λ (x : Space). x.number) _ c.args.number c.args.self.now.spaces c.as_slice-spaces.result.now
    (spaces_right c.args.self.now sound)
    (c.as_slice-spaces.ensures ∙ ap (λ m. m.spaces) c.self.view_is) c.in-Ok.at c.index-spaces-at.result
    c.in-Ok.ensures.bound
    (c.in-Ok.ensures.position (λ (x : Space). x.number)
    (answers_always _ _ _ (λ f a r g h. search rules)))
    c.index-spaces-at.is

pub returns-in-Err : goal.returns-in-Err
returns-in-Err c =
    let sound = subst (λ m. IsTrue (is_building m)) c.self.view_is c.self.invariant in
    halving-none (λ (x : Space). x.number) _ c.args.number c.args.self.now.spaces c.as_slice-spaces.result.now
    (spaces_right c.args.self.now sound)
    (c.as_slice-spaces.ensures ∙ ap (λ m. m.spaces) c.self.view_is) c.in-Err.field-0
    (c.in-Err.ensures.position (λ (x : Space). x.number)
    (answers_always _ _ _ (λ f a r g h. search rules)))
