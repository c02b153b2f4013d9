use Rattle.std.proofs.Common.{◌∙◌, ap, rules, FitsSigned}
use Rattle.std.specs.Int.{w128}
use Rattle.std.proofs.lemmas.Int.{to_z-of_z}
use Rattle.sb_prism.specs.Kept.{joined, faults_of_local}
use Rattle.sb_prism.proofs.Solids.SolidsAreRead.{solid_of_parts}
use Rattle.sb_prism.proofs.items.solids.extrusion.Goals as goal

pub returns : goal.returns
returns c unit s contour local heading depth =
    let fits : FitsSigned w128 c.way.result = search rules in
    simp to_z-of_z (solid_of_parts unit s c.args.contour c.args.local.now c.args.heading c.args.depth c.and-2.result c.way.result
    contour local heading depth
    (c.and-2.ensures
    ∙ ap (joined c.args.contour.faults)
    (c.and.ensures
    ∙ (ap (λ f. joined f c.and-behind.result) c.of_local.ensures
    ∙ ap (joined (faults_of_local c.args.local.now))
    (c.and-behind.ensures ∙ ap (joined c.args.heading.faults) c.of_measure.ensures))))
    c.way.ensures)
