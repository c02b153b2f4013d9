use Rattle.std.proofs.Common.{rules, w32, FitsSigned, ◌∙◌, ap}
use Rattle.std.proofs.lemmas.Int.{to_z-of_z}
use Rattle.sb_model.specs.Surfaces.Corners.{level_corner}
use Rattle.sb_model.proofs.patches.outline.level_ends.Goals as goal

pub returns-clause-low_lower : goal.returns-clause-low_lower
returns-clause-low_lower c =
    let z : FitsSigned w32 c.args.z = search rules in
    simp to_z-of_z at c.level_point.ensures
    ∙ ap (level_corner c.args.z c.args.patch.now.low) c.line_of_side-lower.ensures

pub returns-clause-low_upper : goal.returns-clause-low_upper
returns-clause-low_upper c =
    let z : FitsSigned w32 c.args.z = search rules in
    simp to_z-of_z at c.level_point-2.ensures
    ∙ ap (level_corner c.args.z c.args.patch.now.low) c.line_of_side-upper.ensures

pub returns-clause-high_lower : goal.returns-clause-high_lower
returns-clause-high_lower c =
    let z : FitsSigned w32 c.args.z = search rules in
    simp to_z-of_z at c.level_point-3.ensures
    ∙ ap (level_corner c.args.z c.args.patch.now.high) c.line_of_side-lower.ensures

pub returns-clause-high_upper : goal.returns-clause-high_upper
returns-clause-high_upper c =
    let z : FitsSigned w32 c.args.z = search rules in
    simp to_z-of_z at c.level_point-4.ensures
    ∙ ap (level_corner c.args.z c.args.patch.now.high) c.line_of_side-upper.ensures
