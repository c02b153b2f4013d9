-- The products are in the order of the abscissae.
use Rattle.std.proofs.Common.{FitsSigned, rules, ◌∙◌, ap₂, int_lt}
use Rattle.std.specs.Int.{w64, w128}
use Rattle.std.proofs.lemmas.Int.{to_z-of_z}
use Rattle.sb_fraction.specs.Crossings.{abscissa_at}
use Rattle.sb_fraction.specs.Lines.{arrow_along, flat}
use Rattle.sb_slab.proofs.AfterAnAbscissa.{after_by_products}
use Rattle.sb_slab.proofs.reaching.lies_after.Goals as goal

pub returns : goal.returns
returns c =
    let num : FitsSigned w128 c.num.result = search rules in
    let den : FitsSigned w128 c.den.result = search rules in
    let along : FitsSigned w64 c.along.result = search rules in
    let product : FitsSigned w128 c.times.result = search rules in
    let value = simp to_z-of_z at c.times.ensures in
    ap₂ int_lt (to_z-of_z w128 c.num.result num) (to_z-of_z w128 c.times.result product)
    ∙ rw (value, c.num.ensures.value, c.den.ensures.value, c.along.ensures.value)
    (after_by_products c.args.at.now.num c.args.at.now.den
    (abscissa_at c.args.p (flat (arrow_along c.args.d))))
