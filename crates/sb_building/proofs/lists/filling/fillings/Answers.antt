use Rattle.std.proofs.Common.{sym, subst}
use Rattle.sb_model.specs.declared.products.Filling.{Filling}
use Rattle.sb_profile.specs.Products.{is_filling}
use Rattle.sb_building.specs.Models.{IsFillingOf}
use Rattle.sb_building.specs.Steps.Parts.{AreOf}
use Rattle.sb_building.proofs.ListsOfProducts.FillingsInOrder.{are_fillings}
use Rattle.sb_building.proofs.lists.filling.fillings.Goals as goal

pub returns : goal.returns
returns c = λ said says fills.
    subst (AreOf (λ (f : Filling). f.number) (is_filling said) (IsFillingOf said))
    (sym (c.in_ok-list.ensures.list said says))
    (are_fillings said c.args.fills.now c.in_ok-list.ensures.ordered fills)
