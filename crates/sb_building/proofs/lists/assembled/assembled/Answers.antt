use Rattle.std.proofs.Common.{FitsSigned, rules, sym, ap, ◌∙◌, subst}
use Rattle.std.specs.Int.{w32}
use Rattle.std.proofs.lemmas.Int.{to_z-of_z}
use Rattle.sb_model.specs.Building.{building}
use Rattle.sb_building.specs.Models.{IsModelBy}
use Rattle.sb_building.proofs.ListsOfProducts.PartsMakeModels.{parts_make_models}
use Rattle.sb_building.proofs.lists.assembled.assembled.Goals as goal

pub returns-in-Ok : goal.returns-in-Ok
returns-in-Ok c = λ i said parts.
    let fits : FitsSigned w32 c.args.ground_height = search rules in
    subst (IsModelBy i said c.args.ground_height c.args.reach)
    (sym (c.in-Ok.ensures.value
    ∙ ap (λ z. building c.args.parts.unit z c.args.reach c.args.parts.spaces c.args.parts.elements
    c.args.parts.openings c.args.parts.fillings) (to_z-of_z w32 c.args.ground_height fits)))
    (parts_make_models i said c.args.parts c.args.ground_height c.args.reach parts)
