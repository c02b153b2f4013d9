-- Between two heights stands a patch.
use Rattle.std.proofs.Common.{FitsSigned, w32, rules, ◌∙◌, ap, arith, pos}
use Rattle.std.proofs.lemmas.Int.{ints, to_z-of_z}
use Rattle.std.proofs.lemmas.Bool.{le-leb}
use Rattle.theory_numbers.specs.Fractions.{whole}
use Rattle.theory_faces.proofs.PatchesOfHeights.{is_patch_of_heights}
use Rattle.tests_lists.proofs.patches.on_side.Goals as goal

pub invariant_of-result : goal.invariant_of-result
invariant_of-result c =
    let fits_low : FitsSigned w32 c.from.result = search rules in
    let fits_high : FitsSigned w32 c.from-2.result = search rules in
    let fits_bottom : FitsSigned w32 c.from-3.result = search rules in
    let fits_top : FitsSigned w32 c.from-4.result = search rules in
    let bottom = to_z-of_z w32 c.from-3.result fits_bottom ∙ c.from-3.ensures in
    let top = to_z-of_z w32 c.from-4.result fits_top ∙ c.from-4.ensures in
    let along = c.requires.along in
    let up = c.requires.up in
    record {
      is_patch =
          is_patch_of_heights c.args.k (pos c.args.low) (pos c.args.high) _ _ _ _
          (le-leb _ _ (omega (arith, c.ranges.low.fits)))
          (le-leb _ _ (omega (arith, c.ranges.high.fits)))
          (omega (arith, ints)) (omega (arith, ints, bottom, top, up))
          (c.whole.ensures
          ∙ ap whole (to_z-of_z w32 c.from.result fits_low ∙ c.from.ensures))
          (c.whole-2.ensures
          ∙ ap whole (to_z-of_z w32 c.from-2.result fits_high ∙ c.from-2.ensures));
    }
