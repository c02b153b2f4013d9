-- One relation more, and at the end all.
use Rattle.sb_ifc_out.proofs.NumbersOfLines.{one_more_relation}
use Rattle.sb_ifc_out.proofs.OutlinesOfLists.{outline_is}
use Rattle.sb_ifc_out.proofs.numbers.relations.Goals as goal

pub loop-index-preserved : goal.loop-index-preserved
loop-index-preserved c = λ m are.
    let corners = outline_is m c.args.bounds.now c.args.outlines.now c.loop-index.index
    c.boundary_at.result.now c.outline_at-corners.result.now are c.boundary_at.ensures.value
    c.outline_at-corners.ensures in
    one_more_relation m c.args.greatest c.args.bounds.now c.loop-index.index
    c.boundary_at.result.now c.loop-index.relations c.push.new.self c.loop-index.last
    c.line_count.result c.in_ok-last.last c.boundary_at.ensures.value
    (c.line_count.ensures m corners) (c.loop-index.invariant m are).0 (c.loop-index.invariant m are).1
    c.in_ok-last.ensures c.in_ok-push.ensures.ok
