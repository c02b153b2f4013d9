use Rattle.std.proofs.Common.{rules, ◌∙◌, ap, ap₂, neg_ℤ, reverse, FitsSigned}
use Rattle.std.specs.Int.{w64}
use Rattle.std.proofs.lemmas.Result.{IfOk-weaker}
use Rattle.sb_layers.specs.Parts.{parts_along}
use Rattle.std.proofs.lemmas.Int.{to_z-of_z}
use Rattle.sb_model.specs.Labels.{axis_vector}
use Rattle.sb_layers.proofs.ItemsAlong.{back_low, back_high}
use Rattle.sb_layers.proofs.parts.items_down.Goals as goal

pub items_up-requires-clause-low_in : goal.items_up-requires-clause-low_in
items_up-requires-clause-low_in c =
    let fits : FitsSigned w64 c.turned.result = search rules in
    let to = simp (to_z-of_z, c.ranges.to) at c.turned.ensures in
    simp to_z-of_z
    (back_low c.args.element.now.prism (axis_vector c.args.n) (axis_vector c.opposite.result) c.args.to
    c.turned.result c.opposite.ensures.value to c.requires.high_in)

pub items_up-requires-clause-high_in : goal.items_up-requires-clause-high_in
items_up-requires-clause-high_in c =
    let fits : FitsSigned w64 c.turned-2.result = search rules in
    let from = simp (to_z-of_z, c.ranges.from) at c.turned-2.ensures in
    simp to_z-of_z
    (back_high c.args.element.now.prism (axis_vector c.args.n) (axis_vector c.opposite.result) c.args.from
    c.turned-2.result c.opposite.ensures.value from c.requires.low_in)

pub returns : goal.returns
returns c =
    let to_fits : FitsSigned w64 c.turned.result = search rules in
    let from_fits : FitsSigned w64 c.turned-2.result = search rules in
    let to = simp (to_z-of_z, c.ranges.to) at c.turned.ensures in
    let from = simp (to_z-of_z, c.ranges.from) at c.turned-2.ensures in
    let back = simp to_z-of_z at c.in_ok-back.ensures in
    IfOk-weaker c.reversed.result _ _ (λ items same.
    same
    ∙ ap reverse
    (back
    ∙ ap₂ (λ x y. parts_along c.args.element.now (axis_vector c.opposite.result) x y c.args.layers.now) to from
    ∙ ap
    (λ m. parts_along c.args.element.now m (neg_ℤ c.args.to) (neg_ℤ c.args.from) c.args.layers.now)
    c.opposite.ensures.value)) c.reversed.ensures
