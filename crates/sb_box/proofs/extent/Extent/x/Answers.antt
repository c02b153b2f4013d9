-- The box lies along x in an interval.
use Rattle.std.proofs.Common.{FitsSigned, w32, rules}
use Rattle.std.proofs.lemmas.Int.{to_z-of_z}
use Rattle.sb_box.proofs.BoxPatchesArePatches.{x_is_interval}
use Rattle.sb_box.proofs.extent.Extent.x.Goals as goal

pub invariant_of-result : goal.invariant_of-result
invariant_of-result c =
    let e = c.args.self.now in
    let low : FitsSigned w32 e.x0 = search rules in
    let high : FitsSigned w32 e.x1 = search rules in
    record { is_interval = simp to_z-of_z (x_is_interval e) }
