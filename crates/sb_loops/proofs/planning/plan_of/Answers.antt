-- What is left of the loops has their answer.
use Rattle.std.proofs.Common.{◌≤◌, length}
use Rattle.sb_loops.specs.Ways.{AreLeft}
use Rattle.sb_loops.proofs.LoopsLeft.{left_in_range, left_are_bent, left_have_begun}
use Rattle.sb_loops.proofs.AnswersAsLeft.{IsFor, plan_is, is_plan_if_ok, flat_is, knot_is}
use Rattle.sb_loops.proofs.planning.plan_of.Goals as goal

about : (c : goal.After-drop-points-inside) → IsFor c.in-Ok-Some.left c.turned.result
about c =
    record {
      plan = c.turned.ensures.plan;
      least = c.turned.ensures.least;
      not_flat = c.turned.ensures.not_flat;
      knot = c.turned.ensures.knot;
    }

pub turned-requires-clause-in_range : goal.turned-requires-clause-in_range
turned-requires-clause-in_range c =
    let are : AreLeft c.args.points c.in-Ok-Some.left =
    rw c.in-Ok-Some.field-0-is at c.in-Ok-Some.ensures.left in
    left_in_range c.args.points c.in-Ok-Some.left are c.requires.in_range

pub turned-requires-clause-bent : goal.turned-requires-clause-bent
turned-requires-clause-bent c =
    let are : AreLeft c.args.points c.in-Ok-Some.left =
    rw c.in-Ok-Some.field-0-is at c.in-Ok-Some.ensures.left in
    left_are_bent c.args.points c.in-Ok-Some.left are

pub turned-requires-clause-begun : goal.turned-requires-clause-begun
turned-requires-clause-begun c =
    let are : AreLeft c.args.points c.in-Ok-Some.left =
    rw c.in-Ok-Some.field-0-is at c.in-Ok-Some.ensures.left in
    left_have_begun c.args.points c.in-Ok-Some.left are

pub returns-in-Ok-Some-clause-plan : goal.returns-in-Ok-Some-clause-plan
returns-in-Ok-Some-clause-plan c =
    let are : AreLeft c.args.points c.in-Ok-Some.left =
    rw c.in-Ok-Some.field-0-is at c.in-Ok-Some.ensures.left in
    let some : 1 ≤ length c.args.points =
    rw c.in-Ok-Some.field-0-is at c.in-Ok-Some.ensures.some in
    plan_is c.args.points c.in-Ok-Some.left some are c.turned.result (about c)

pub returns-in-Ok-Some-clause-is_plan : goal.returns-in-Ok-Some-clause-is_plan
returns-in-Ok-Some-clause-is_plan c =
    let are : AreLeft c.args.points c.in-Ok-Some.left =
    rw c.in-Ok-Some.field-0-is at c.in-Ok-Some.ensures.left in
    let some : 1 ≤ length c.args.points =
    rw c.in-Ok-Some.field-0-is at c.in-Ok-Some.ensures.some in
    is_plan_if_ok c.args.points c.in-Ok-Some.left some are c.turned.result (about c)
    c.requires.in_range

pub returns-in-Ok-Some-clause-flat : goal.returns-in-Ok-Some-clause-flat
returns-in-Ok-Some-clause-flat c =
    let are : AreLeft c.args.points c.in-Ok-Some.left =
    rw c.in-Ok-Some.field-0-is at c.in-Ok-Some.ensures.left in
    let some : 1 ≤ length c.args.points =
    rw c.in-Ok-Some.field-0-is at c.in-Ok-Some.ensures.some in
    flat_is c.args.points c.in-Ok-Some.left some are c.turned.result (about c)

pub returns-in-Ok-Some-clause-knot : goal.returns-in-Ok-Some-clause-knot
returns-in-Ok-Some-clause-knot c =
    let are : AreLeft c.args.points c.in-Ok-Some.left =
    rw c.in-Ok-Some.field-0-is at c.in-Ok-Some.ensures.left in
    let some : 1 ≤ length c.args.points =
    rw c.in-Ok-Some.field-0-is at c.in-Ok-Some.ensures.some in
    knot_is c.args.points c.in-Ok-Some.left some are c.turned.result (about c)
