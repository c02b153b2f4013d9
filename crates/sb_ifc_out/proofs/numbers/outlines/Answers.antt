-- One boundary more, and at the end all.
use Rattle.std.proofs.Common.{◌≤◌, ◌∙◌, ap, map, length, arith}
use Rattle.std.proofs.lemmas.List.{take_all}
use Rattle.sb_model.specs.declared.boundary.Boundary.{Boundary}
use Rattle.sb_model.specs.Surfaces.Corners.{corners_of}
use Rattle.sb_ifc_out.proofs.OutlinesOfLists.{one_more_outline}
use Rattle.sb_ifc_out.proofs.numbers.outlines.Goals as goal

pub loop-index-preserved : goal.loop-index-preserved
loop-index-preserved c =
    one_more_outline c.args.model.now c.args.bounds.now c.loop-index.index c.boundary_at.result.now
    c.corners.result c.loop-index.outlines c.push.new.self c.boundary_at.ensures.value
    c.corners.ensures c.loop-index.invariant c.in_ok-push.ensures.ok

pub returns : goal.returns
returns c =
    let past : length c.args.bounds.now ≤ c.loop-index.index = omega arith in
    c.loop-index.invariant
    ∙ ap (map (λ (b : Boundary). corners_of c.args.model.now b.patch))
    (take_all c.loop-index.index c.args.bounds.now past)
