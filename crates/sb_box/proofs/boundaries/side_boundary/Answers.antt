-- Between two heights stands a patch.
use Rattle.std.proofs.Common.{FitsSigned, w32, rules, ap, ◌∙◌}
use Rattle.std.proofs.lemmas.Int.{to_z-of_z}
use Rattle.theory_plane.specs.Sides.{level}
use Rattle.sb_model.specs.Surfaces.Sides.{line_of}
use Rattle.sb_model.specs.declared.patches.patch.Patch.{Patch}
use Rattle.sb_box.proofs.BoxPatchesArePatches.{is_patch_between_heights}
use Rattle.sb_box.proofs.boundaries.side_boundary.Goals as goal

pub invariant_of-patch : goal.invariant_of-patch
invariant_of-patch c =
    let along = c.args.along.now in
    let up = c.args.up.now in
    let low : FitsSigned w32 along.low = search rules in
    let high : FitsSigned w32 along.high = search rules in
    let lower : FitsSigned w32 up.low = search rules in
    let upper : FitsSigned w32 up.high = search rules in
    record {
      is_patch =
          is_patch_between_heights c.args.edge along.low along.high up.low up.high _ _ _ _
          along.is_interval up.is_interval
          (simp to_z-of_z at c.whole.ensures) (simp to_z-of_z at c.whole-2.ensures)
          (to_z-of_z w32 up.low lower) (to_z-of_z w32 up.high upper);
    }

pub returns : goal.returns
returns c =
    let along = c.args.along.now in
    let up = c.args.up.now in
    let fits_low : FitsSigned w32 along.low = search rules in
    let fits_high : FitsSigned w32 along.high = search rules in
    let fits_lower : FitsSigned w32 up.low = search rules in
    let fits_upper : FitsSigned w32 up.high = search rules in
    let patch = c.boundary.ensures.patch in
    record {
      of_space = ap (λ (p : Patch). p.face.space) patch;
      of_face = ap (λ (p : Patch). p.face.kind) patch;
      low = ap (λ (p : Patch). p.low) patch ∙ (simp to_z-of_z at c.whole.ensures);
      high = ap (λ (p : Patch). p.high) patch ∙ (simp to_z-of_z at c.whole-2.ensures);
      lower = ap (λ (p : Patch). line_of p.lower) patch
          ∙ ap level (to_z-of_z w32 up.low fits_lower);
      upper = ap (λ (p : Patch). line_of p.upper) patch
          ∙ ap level (to_z-of_z w32 up.high fits_upper);
      items = c.boundary.ensures.items;
      depth = c.boundary.ensures.depth;
      end = c.boundary.ensures.end;
      pair = c.boundary.ensures.pair;
      parent = c.boundary.ensures.parent;
      key = c.boundary.ensures.key;
    }
