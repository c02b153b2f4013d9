use Rattle.std.proofs.Common.{◌∙◌}
use Rattle.sb_schema.specs.Views.Taking.{without_memory}
use Rattle.sb_profile.specs.Entities.Entity.{opening_filling}
use Rattle.sb_building.proofs.Known.LayersOneByOne.{shown_some}
use Rattle.sb_building.proofs.lists.filling.is_door_or_window.Goals as goal

pub returns : goal.returns
returns c = λ said says.
    c.is_some.ensures
    ∙ shown_some c.in_ok-given.field-0 (said.given opening_filling c.args.number) (λ _. tt)
    (c.in_ok-given.ensures without_memory opening_filling (λ _. tt) c.args.file.now c.args.number said
    c.opening_filling-view.ensures says)
