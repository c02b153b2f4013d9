use Rattle.std.proofs.Common.{◌≡◌, ◌∙◌, sym, pos, ◌<ℤ◌, ◌≤ℤ◌}
use Rattle.std.proofs.lemmas.Int.{to_z-of_z}
use Rattle.std.proofs.lemmas.Result.{IfOk-weaker}
use Rattle.theory_numbers.proofs.Signs.{less_from, not_less_from}
use Rattle.sb_fraction.specs.Spots.{inner}
use Rattle.sb_model.specs.Labels.{axis_vector}
use Rattle.sb_layers.proofs.ItemsAlong.{up_is, down_is}
use Rattle.sb_layers.proofs.parts.layered_items.Goals as goal

pub returns-then-points_along : goal.returns-then-points_along
returns-then-points_along c =
    let value = simp (to_z-of_z, c.ranges.from, c.ranges.to) at c.items_up.ensures in
    IfOk-weaker c.items_up.result _ _ (λ items same.
    same
    ∙ up_is c.args.element.now c.args.layers.now c.args.axis (axis_vector c.args.n) c.args.from c.args.to
    (record { is = c.requires.layering_is; right = c.requires.layering_in })
    (less_from _ _ (sym c.points_along.ensures ∙ c.if-points_along.true)) c.requires.rising c.requires.low_in
    c.requires.high_in) value

pub returns-else-points_along : goal.returns-else-points_along
returns-else-points_along c =
    let value = simp (to_z-of_z, c.ranges.from, c.ranges.to) at c.items_down.ensures in
    IfOk-weaker c.items_down.result _ _ (λ items same.
    same
    ∙ down_is c.args.element.now c.args.layers.now c.args.axis (axis_vector c.args.n) c.args.from c.args.to
    (record { is = c.requires.layering_is; right = c.requires.layering_in })
    (not_less_from _ _ (sym c.points_along.ensures ∙ c.if-points_along.false))
    (record {
      rising = c.requires.rising;
      low = c.requires.low_in;
      high = c.requires.high_in;
      right = c.requires.layering_in;
      along = c.requires.along;
      some = c.requires.some;
    })) value
