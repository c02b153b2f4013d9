use Rattle.std.proofs.Common.{◌∙◌, refl, ap}
use Rattle.sb_prism.specs.Shapes.{Solid}
use Rattle.sb_prism.specs.Kept.{measure_of}
use Rattle.sb_prism.proofs.items.solids.solid.Goals as goal

pub returns : goal.returns
returns c =
    let profile = c.in_ok-contour.ensures in
    let local = c.in_ok-local.ensures.value in
    let s : Solid = record {
      profile = profile.0;
      position = local.0;
      direction = c.in_ok-direction.direction;
      depth = c.args.view.now.a4;
    } in (
      s,
      record {
        profile = profile.1;
        position_is = local.1;
        direction = c.in_ok-direction.ensures;
        depth = refl;
      },
      c.extrusion.ensures c.args.unit s profile.2 local.2 c.heading_in.ensures
          (c.measured_length-depth.ensures.value ∙ ap (measure_of c.args.unit) c.bytes.ensures),
    )
