-- Between two level lines stands a patch.
use Rattle.std.proofs.Common.{FitsSigned, w32, rules}
use Rattle.std.proofs.lemmas.Int.{to_z-of_z}
use Rattle.sb_box.proofs.BoxPatchesArePatches.{is_patch_between, side_of_level_face}
use Rattle.sb_box.proofs.boundaries.level_boundary.Goals as goal

pub invariant_of-patch : goal.invariant_of-patch
invariant_of-patch c =
    let x = c.args.x.now in
    let y = c.args.y.now in
    let x_low : FitsSigned w32 x.low = search rules in
    let x_high : FitsSigned w32 x.high = search rules in
    let y_low : FitsSigned w32 y.low = search rules in
    let y_high : FitsSigned w32 y.high = search rules in
    record {
      is_patch =
          is_patch_between c.args.kind x.low x.high y.low y.high _ _ _ _ x.is_interval y.is_interval
          (simp to_z-of_z at c.whole.ensures) (simp to_z-of_z at c.whole-2.ensures)
          (side_of_level_face _ _ c.requires c.level_line.ensures.fits)
          (side_of_level_face _ _ c.requires c.level_line-2.ensures.fits)
          (simp to_z-of_z at c.level_line.ensures.same)
          (simp to_z-of_z at c.level_line-2.ensures.same);
    }
