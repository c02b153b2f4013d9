use Rattle.std.proofs.lemmas.Int.{to_z-of_z}
use Rattle.std.proofs.lemmas.Result.{IfOk-weaker}
use Rattle.sb_model.specs.Labels.{axis_vector}
use Rattle.sb_layers.proofs.ExtentsAreSmall.{first_within, last_within}
use Rattle.sb_layers.proofs.ItemsAlong.{items_in_walks}
use Rattle.sb_layers.proofs.crossing.crossed.Goals as goal

pub by_layering-requires-clause-from_in : goal.by_layering-requires-clause-from_in
by_layering-requires-clause-from_in c =
    simp (to_z-of_z, c.ranges.from)
    (first_within c.args.element.now.prism c.args.n c.args.from c.args.to c.args.element.now.is_solid
    c.requires.short c.requires.rising c.requires.low_in c.requires.high_in)

pub by_layering-requires-clause-to_in : goal.by_layering-requires-clause-to_in
by_layering-requires-clause-to_in c =
    simp (to_z-of_z, c.ranges.to)
    (last_within c.args.element.now.prism c.args.n c.args.from c.args.to c.args.element.now.is_solid
    c.requires.short c.requires.rising c.requires.low_in c.requires.high_in)

pub returns-clause-of_walks : goal.returns-clause-of_walks
returns-clause-of_walks c =
    let value = simp (to_z-of_z, c.ranges.from, c.ranges.to) at c.by_layering.ensures in
    IfOk-weaker c.by_layering.result _ _ (λ items same.
    items_in_walks c.args.element.now (axis_vector c.args.n) c.args.from c.args.to c.requires.some
    c.requires.low_in c.requires.high_in items same) value
