use Rattle.std.proofs.Common.{◌∙◌, sym, ap, ap₂, rules, FitsSigned}
use Rattle.std.specs.Int.{w128}
use Rattle.std.proofs.lemmas.Int.{to_z-of_z}
use Rattle.std.specs.Option.{option_map, option_copied}
use Rattle.sb_fraction.specs.Numbers.{ratio}
use Rattle.sb_points.specs.Places.{spot_over}
use Rattle.sb_model.specs.Surfaces.Patches.{is_in_patch, surface_in}
use Rattle.sb_model.specs.Surfaces.Faces.{surface_of}
use Rattle.sb_model.proofs.patches.patch_points.inside.Goals as goal

pub returns : goal.returns
returns c =
    let num : FitsSigned w128 c.num.result = search rules in
    let den : FitsSigned w128 c.den.result = search rules in
    let patch = c.args.patch.now in
    let p = c.args.p.now in
    simp to_z-of_z at c.lies_in.ensures
    ∙ ap₂ (λ n d. option_map (λ f. is_in_patch f patch (spot_over p (ratio n d))) (surface_of c.unwrap.result.now.prism patch.face.kind))
    c.num.ensures.value c.den.ensures.value
    ∙ ap (λ s. option_map (λ f. is_in_patch f patch (spot_over p c.args.z.now)) (surface_in s patch.face.kind))
    (sym (ap option_copied c.unwrap.ensures) ∙ c.space.ensures)
