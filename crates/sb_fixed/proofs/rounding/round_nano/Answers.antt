use Rattle.std.proofs.Common.{rules, ◌∙◌, refl, FitsSigned}
use Rattle.std.specs.Int.{w128}
use Rattle.std.proofs.lemmas.Int.{to_z-of_z}
use Rattle.sb_fixed.proofs.rounding.round_nano.Goals as goal

pub returns : goal.returns
returns c =
    let fits : FitsSigned w128 c.rounded.result = search rules in
    let shift : FitsSigned w128 c.args.shift = search rules in
    let num : FitsSigned w128 c.num.result = search rules in
    let millions : FitsSigned w128 c.millions.result = search rules in
    let den : FitsSigned w128 c.den.result = search rules in
    let den2 : FitsSigned w128 c.den-2.result = search rules in
    let less_fits : FitsSigned w128 c.less_shift.result = search rules in
    let less = simp to_z-of_z at c.less_shift.ensures.value in
    let million = simp to_z-of_z at c.millions.ensures.value in
    let whole = simp to_z-of_z at c.rounded.ensures in
    to_z-of_z w128 c.rounded.result fits ∙ whole
    ∙ rw (less, million, c.num.ensures.value, c.den.ensures.value, c.den-2.ensures.value) refl
