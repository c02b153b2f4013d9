use Rattle.std.proofs.Common.{◌≡◌, ◌∙◌, ap, sym, Some, refl, rules, w32, FitsSigned}
use Rattle.std.proofs.lemmas.Int.{to_z-of_z}
use Rattle.sb_model.specs.declared.faces.face.FaceKind.TheVariants as kind
use Rattle.sb_model.specs.Surfaces.Corners.{corners_of_kind}
use Rattle.sb_model.proofs.patches.outline.outline_of.Goals as goal

pub returns-in-Bottom : goal.returns-in-Bottom
returns-in-Bottom c =
    let f : FitsSigned w32 c.z0.result = search rules in
    let ll = simp to_z-of_z at c.level_ends.ensures.low_lower in
    let lu = simp to_z-of_z at c.level_ends.ensures.low_upper in
    let hl = simp to_z-of_z at c.level_ends.ensures.high_lower in
    let hu = simp to_z-of_z at c.level_ends.ensures.high_upper in
    let space = c.args.space.now in
    let patch = c.args.patch.now in
    let bottom : Some c.backward.result ≡ corners_of_kind space kind.Bottom patch =
    rw (c.backward.ensures, hu, hl, ll, lu, c.z0.ensures.value) refl in
    bottom ∙ ap (λ k. corners_of_kind space k patch) (sym c.in-Bottom.is)

pub returns-in-Top : goal.returns-in-Top
returns-in-Top c =
    let f : FitsSigned w32 c.z1.result = search rules in
    let ll = simp to_z-of_z at c.level_ends-in-Top.ensures.low_lower in
    let lu = simp to_z-of_z at c.level_ends-in-Top.ensures.low_upper in
    let hl = simp to_z-of_z at c.level_ends-in-Top.ensures.high_lower in
    let hu = simp to_z-of_z at c.level_ends-in-Top.ensures.high_upper in
    let space = c.args.space.now in
    let patch = c.args.patch.now in
    let top : Some c.forward.result ≡ corners_of_kind space kind.Top patch =
    rw (c.forward.ensures, lu, ll, hl, hu, c.z1.ensures.value) refl in
    top ∙ ap (λ k. corners_of_kind space k patch) (sym c.in-Top.is)
