use Rattle.std.proofs.Common.{sym, ap, ◌∙◌, ◌++◌}
use Rattle.sb_idf_out.specs.Fields.{fields_text, corner_fields, condition_object}
use Rattle.sb_idf_out.specs.Steps.Surfaces.{surface_start, surface_rest}
use Rattle.sb_idf_out.proofs.PartsOfObjects.{surface_parts, in_three}
use Rattle.sb_idf_out.proofs.surfaces.append_surface.Goals as goal

pub returns : goal.returns
returns c =
    let b = c.args.boundary.now in
    let corners =
    c.as_slice.ensures.value
    ∙ (c.in_ok-corners.ensures ∙ ap (λ o. fields_text (corner_fields o)) c.corners.ensures) in
    in_three _ _ _ _ _ _ _ _ _ c.in_ok-append_start.ensures c.in_ok-append_condition_object.ensures
    c.append_rest.ensures
    (surface_parts c.args.construction c.args.id b _
    ∙ ap (λ t. surface_start c.args.construction c.args.id b.patch.face.space b.patch.face.kind b.walk.end
    ++ (condition_object b.walk.end b.pair ++ surface_rest b.walk.end t)) (sym corners))
