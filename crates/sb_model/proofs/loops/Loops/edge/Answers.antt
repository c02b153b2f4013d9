use Rattle.std.proofs.Common.{◌≡◌, ◌∙◌, sym, get_or}
use Rattle.theory_plans.proofs.Edges.EdgesByPlace.{edge_here, edge_later}
use Rattle.sb_model.proofs.loops.Loops.edge.Goals as goal

pub returns-then-left-points-clause-value : goal.returns-then-left-points-clause-value
returns-then-left-points-clause-value c =
    let points = c.as_slice-points.result.now in
    let loops = c.as_slice-points-items.result.now in
    let here : points ≡ get_or loops c.loop-points.points-index points = cc in
    sym c.edge_in.ensures.value
    ∙ sym (edge_here loops _ _ points c.loop-points-test.true here c.if-left-points.true)
    ∙ c.loop-points.invariant

pub loop-points-preserved : goal.loop-points-preserved
loop-points-preserved c =
    let points = c.as_slice-points.result.now in
    let loops = c.as_slice-points-items.result.now in
    let here : points ≡ get_or loops c.loop-points.points-index points = cc in
    sym (edge_later loops _ _ points c.loop-points-test.true here c.if-left-points.false)
    ∙ c.loop-points.invariant
