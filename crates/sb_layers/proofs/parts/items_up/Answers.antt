use Rattle.std.proofs.Common.{◌≡◌, ◌∙◌, ap}
use Rattle.std.proofs.lemmas.Int.{to_z-of_z}
use Rattle.std.proofs.lemmas.Result.{IfOk-weaker}
use Rattle.sb_model.specs.declared.walk.Item.{Item}
use Rattle.sb_model.specs.Labels.{axis_vector}
use Rattle.sb_layers.specs.Parts.{parts_of}
use Rattle.sb_layers.proofs.ItemsAlong.{way_is}
use Rattle.sb_layers.proofs.parts.items_up.Goals as goal

pub returns : goal.returns
returns c =
    let way = simp (to_z-of_z, c.ranges.from, c.ranges.to) at c.way_through-way.ensures.value in
    IfOk-weaker c.parts.result _ _ (λ items same.
    same
    ∙ ap (λ w. parts_of w 0 c.args.layers.now)
    (way
    ∙ way_is c.args.element.now (axis_vector c.args.n) c.args.from c.args.to c.args.layers.now
    c.extent_of-extent.result.low c.extent_of-extent.result.high c.total_thickness.result
    c.extent_of-extent.ensures.low c.extent_of-extent.ensures.high c.total_thickness.ensures.value))
    c.parts.ensures
