use Rattle.std.proofs.Common.{◌∙◌, ap, ap₂, ◌-ℤ◌, ◌*ℤ◌}
use Rattle.sb_fraction.specs.Edges.{edge}
use Rattle.sb_fraction.specs.Lines.{arrow_along, flat}
use Rattle.sb_fraction.specs.Directions.{direction_of, offset_of}
use Rattle.sb_model.specs.Surfaces.Corners.{corners_along}
use Rattle.sb_model.proofs.patches.outline.over_edge.Goals as goal

pub returns : goal.returns
unfolding offset_of
returns c =
    let e = edge c.args.a c.args.b in
    let turned = ap (λ d. flat (arrow_along d)) c.line_through.ensures.dir ∙ c.heading_of-heading.ensures.direction in
    let off = c.line_through.ensures.off
    ∙ ap (λ d. (c.args.a.y *ℤ d.x) -ℤ (c.args.a.x *ℤ d.y)) c.heading_of-heading.ensures.direction in
    c.over_line.ensures
    ∙ ap₂ (λ d o. corners_along d o c.heading_of-heading.result.is_along c.args.patch.now) turned off
    ∙ ap (λ along. corners_along (direction_of e) (offset_of e) along c.args.patch.now)
    c.heading_of-heading.ensures.is_along
