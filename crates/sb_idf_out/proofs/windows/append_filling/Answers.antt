use Rattle.std.proofs.Common.{sym, ap, ◌∙◌, ◌++◌}
use Rattle.sb_idf_out.specs.Fields.{fields_text, corner_fields, name_where}
use Rattle.sb_idf_out.specs.Steps.Surfaces.{filling_start, filling_rest}
use Rattle.sb_idf_out.proofs.PartsOfObjects.{filling_parts, in_three}
use Rattle.sb_idf_out.proofs.windows.append_filling.Goals as goal

pub returns : goal.returns
returns c =
    let b = c.args.boundary.now in
    let corners =
    c.as_slice.ensures.value
    ∙ (c.in_ok-corners.ensures ∙ ap (λ o. fields_text (corner_fields o)) c.corners.ensures) in
    in_three _ _ _ _ _ _ _ _ _ c.in_ok-append_start.ensures c.in_ok-append_name_where.ensures
    c.append_rest.ensures
    (filling_parts c.args.id c.args.parent b.pair c.args.kind _
    ∙ ap (λ t. filling_start c.args.id c.args.parent c.args.kind ++ (name_where b.pair ++ filling_rest t))
    (sym corners))
