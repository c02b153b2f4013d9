use Rattle.std.specs.Int.{w64, w128}
use Rattle.std.proofs.Common.{rules, FitsSigned, ◌≡◌, ◌∙◌, ap, sym, pos, ◌-ℤ◌, ◌*◌, ◌/◌, unsigned_abs, subst}
use Rattle.std.proofs.lemmas.Int.{to_z-of_z}
use Rattle.sb_fraction.specs.Spots.{inner}
use Rattle.sb_model.specs.Labels.{axis_vector}
use Rattle.sb_layers.proofs.RoundedThickness.{root_rounds, quotient_is}
use Rattle.sb_layers.proofs.thickness.rounded_micrometres.Goals as goal

pub returns-clause-value : goal.returns-clause-value
returns-clause-value c =
    let length = simp (to_z-of_z, c.ranges.from, c.ranges.to) at c.length_of.ensures.value in
    let fits : FitsSigned w64 c.length_of.result = search rules in
    let square = simp to_z-of_z at c.scaled_square.ensures in
    let half : FitsSigned w128 c.half_of.result = search rules in
    simp to_z-of_z
    (c.half_of.ensures.value
    ∙ ap pos
    (root_rounds (inner (axis_vector c.args.n) (axis_vector c.args.n)) (c.args.to -ℤ c.args.from)
    (c.scaled_square.result / c.unit_of.result) c.root_of-root.result c.requires.some
    (quotient_is c.scaled_square.result c.unit_of.result c.length_of.result (c.args.to -ℤ c.args.from)
    (inner (axis_vector c.args.n) (axis_vector c.args.n)) square length c.unit_of.ensures)
    c.root_of-root.ensures.low c.root_of-root.ensures.high))
