use Rattle.std.proofs.Common.{◌∙◌, ap₂, rules, FitsSigned}
use Rattle.std.specs.Int.{w128}
use Rattle.std.proofs.lemmas.Int.{to_z-of_z}
use Rattle.std.proofs.lemmas.Result.{IfOk-weaker}
use Rattle.sb_prism.specs.Kept.{corner_at}
use Rattle.sb_prism.proofs.Outlines.ContoursAreRead.{corners_are}
use Rattle.sb_prism.proofs.sections.rectangles.corners.Goals as goal

pub returns : goal.returns
returns c =
    let f = c.args.frame.now in
    let left_fits : FitsSigned w128 c.opposite-left.result = search rules in
    let low_fits : FitsSigned w128 c.opposite-low.result = search rules in
    let left_is = simp (to_z-of_z, c.ranges.x) at c.opposite-left.ensures.value in
    let low_is = simp (to_z-of_z, c.ranges.y) at c.opposite-low.ensures.value in
    let left = to_z-of_z w128 c.opposite-left.result left_fits in
    let low = to_z-of_z w128 c.opposite-low.result low_fits in
    let x = to_z-of_z w128 c.args.x c.ranges.x in
    let y = to_z-of_z w128 c.args.y c.ranges.y in
    let first = c.corner.ensures ∙ ap₂ (corner_at f) left low in
    let second = c.corner-2.ensures ∙ ap₂ (corner_at f) x low in
    let third = c.corner-3.ensures ∙ ap₂ (corner_at f) x y in
    let fourth = c.corner-4.ensures ∙ ap₂ (corner_at f) left y in
    IfOk-weaker c.from_slice.result _ _ (λ spots is. is
    ∙ corners_are f c.args.x c.args.y c.opposite-left.result c.opposite-low.result c.corner.result c.corner-2.result
    c.corner-3.result c.corner-4.result left_is low_is first second third fourth) c.from_slice.ensures
