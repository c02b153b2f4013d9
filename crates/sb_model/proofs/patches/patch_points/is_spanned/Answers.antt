use Rattle.std.proofs.Common.{◌∙◌, sym, ap, rules, FitsSigned, ◌&&◌, int_lt, ◌*ℤ◌}
use Rattle.std.specs.Int.{w128}
use Rattle.std.proofs.lemmas.Int.{to_z-of_z}
use Rattle.sb_model.proofs.PointsOfPatches.PointsInPatches.{spanned-by}
use Rattle.sb_model.proofs.patches.patch_points.is_spanned.Goals as goal

pub returns-then-is_after : goal.returns-then-is_after
returns-then-is_after c =
    let n : FitsSigned w128 c.args.num = search rules in
    let d : FitsSigned w128 c.args.den = search rules in
    let patch = c.args.patch.now in
    let after = sym (simp to_z-of_z at c.is_after.ensures) ∙ c.if-is_after.true in
    simp to_z-of_z at c.is_before.ensures
    ∙ ap (λ b. b && int_lt (c.args.num *ℤ patch.high.den) (patch.high.num *ℤ c.args.den)) (sym after)
    ∙ spanned-by patch c.args.num c.args.den

pub returns-else-is_after : goal.returns-else-is_after
returns-else-is_after c =
    let n : FitsSigned w128 c.args.num = search rules in
    let d : FitsSigned w128 c.args.den = search rules in
    let patch = c.args.patch.now in
    let after = sym (simp to_z-of_z at c.is_after.ensures) ∙ c.if-is_after.false in
    c.if-is_after.false
    ∙ ap (λ b. b && int_lt (c.args.num *ℤ patch.high.den) (patch.high.num *ℤ c.args.den)) (sym after)
    ∙ spanned-by patch c.args.num c.args.den
