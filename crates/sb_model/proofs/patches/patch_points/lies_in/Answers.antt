use Rattle.std.proofs.Common.{◌∙◌, sym, ap, Some}
use Rattle.std.specs.Option.{option_map}
use Rattle.sb_fraction.specs.Numbers.{ratio}
use Rattle.sb_points.specs.Places.{spot_over}
use Rattle.sb_model.specs.Surfaces.Patches.{is_in_patch, region_of}
use Rattle.sb_model.specs.Surfaces.Faces.{surface_of}
use Rattle.sb_model.proofs.PointsOfPatches.PointsInPatches.{inside-level}
use Rattle.sb_model.proofs.patches.patch_points.lies_in.Goals as goal

pub returns-in-Bottom : goal.returns-in-Bottom
returns-in-Bottom c =
    let patch = c.args.patch.now in
    let place = spot_over c.args.p.now (ratio c.args.z.num c.args.z.den) in
    ap Some (c.lies_in_level.ensures
    ∙ inside-level (region_of patch) c.args.p.now (ratio c.args.z.num c.args.z.den) c.requires.positive)
    ∙ ap (λ k. option_map (λ f. is_in_patch f patch place) (surface_of c.args.space.now.prism k)) (sym c.in-Bottom.is)

pub returns-in-Top : goal.returns-in-Top
returns-in-Top c =
    let patch = c.args.patch.now in
    let place = spot_over c.args.p.now (ratio c.args.z.num c.args.z.den) in
    ap Some (c.lies_in_level-in-Top.ensures
    ∙ inside-level (region_of patch) c.args.p.now (ratio c.args.z.num c.args.z.den) c.requires.positive)
    ∙ ap (λ k. option_map (λ f. is_in_patch f patch place) (surface_of c.args.space.now.prism k)) (sym c.in-Top.is)
