-- What is rounded is no larger than its numerator.
use Rattle.std.proofs.Common.{rules, FitsSigned}
use Rattle.std.specs.Int.{w128}
use Rattle.std.proofs.lemmas.Int.{to_z-of_z}
use Rattle.sb_ifc_out.proofs.SpansFit.{nanometres_size}
use Rattle.sb_ifc_out.proofs.in_space.nanometres.Goals as goal

pub returns-clause-size : goal.returns-clause-size
returns-clause-size c =
    let fits : FitsSigned w128 c.round_nano.result = search rules in
    let shift : FitsSigned w128 c.args.shift = search rules in
    let value = simp to_z-of_z at c.round_nano.ensures in
    rw (to_z-of_z w128 c.round_nano.result fits, value)
    (nanometres_size c.args.shift c.args.coordinate.now c.requires c.den-den.ensures.in_lowest_terms)
