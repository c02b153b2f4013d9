use Rattle.std.proofs.Common.{rules, w32, FitsSigned}
use Rattle.std.proofs.lemmas.Int.{to_z-of_z}
use Rattle.sb_points.proofs.PointsOver.{contained, not_contained}
use Rattle.sb_points.proofs.heights.contains.Goals as goal

pub returns-then-is_between : goal.returns-then-is_between
returns-then-is_between c =
    let low : FitsSigned w32 c.args.z0 = search rules in
    let high : FitsSigned w32 c.args.z1 = search rules in
    contained c.args.loops.now c.args.z0 c.args.z1 c.args.p.now c.args.z.now c.is_between.ensures.positive
    _ _ (to_z-of_z w32 c.args.z0 low) (to_z-of_z w32 c.args.z1 high) c.is_between.result c.is_between.ensures.value
    c.if-is_between.true c.is_inside.result c.is_inside.ensures

pub returns-else-is_between : goal.returns-else-is_between
returns-else-is_between c =
    let low : FitsSigned w32 c.args.z0 = search rules in
    let high : FitsSigned w32 c.args.z1 = search rules in
    not_contained c.args.loops.now c.args.z0 c.args.z1 c.args.p.now c.args.z.now c.is_between.ensures.positive
    _ _ (to_z-of_z w32 c.args.z0 low) (to_z-of_z w32 c.args.z1 high) c.is_between.result c.is_between.ensures.value
    c.if-is_between.false
