use Rattle.std.proofs.Common.{rules, ◌∙◌, FitsSigned}
use Rattle.std.specs.Int.{w128}
use Rattle.std.proofs.lemmas.Int.{to_z-of_z}
use Rattle.sb_fixed.specs.Rounding.{rounded}
use Rattle.sb_fixed.proofs.rounding.rounded.Goals as goal

pub returns : goal.returns
unfolding rounded
returns c =
    let fits : FitsSigned w128 c.with_sign.result = search rules in
    let num : FitsSigned w128 c.args.num = search rules in
    let den : FitsSigned w128 c.args.den = search rules in
    let size = simp to_z-of_z at c.unsigned_abs-size.ensures.value in
    let below = simp to_z-of_z at c.unsigned_abs-den.ensures.value in
    to_z-of_z w128 c.with_sign.result fits
    ∙ (simp (to_z-of_z, size, below) at c.with_sign.ensures)
