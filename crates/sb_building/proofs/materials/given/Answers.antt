use Rattle.std.proofs.Common.{◌≡◌, option_map, sym, subst}
use Rattle.std.specs.Prelude.{IfOk}
use Rattle.sb_building.proofs.Known.MaterialsAreRead.{given_by_views}
use Rattle.sb_building.proofs.materials.given.Goals as goal

pub returns : goal.returns
returns g c = λ taking e fields indexed n said views says.
    subst (λ r. IfOk r (λ o. option_map fields o ≡ said.given e n)) (sym c.shown.ensures)
    (given_by_views c.one_list_of_parameters.ensures.unique taking e fields indexed n said c.args.view views
    says)
