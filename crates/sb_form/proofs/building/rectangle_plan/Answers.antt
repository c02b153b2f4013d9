-- A rectangle is a plan, and a plan is left as it is.
use Rattle.std.proofs.Common.{◌∙◌, sym, ap, Err}
use Rattle.std.proofs.lemmas.Bool.{false≢true}
use Rattle.theory_plans.proofs.RectangleIsPlan.{rectangle_is_plan}
use Rattle.theory_plans.proofs.LoopsInRange.{points_in_range}
use Rattle.theory_loops.proofs.PlansStay.{plan_stays}
use Rattle.sb_form.proofs.building.rectangle_plan.Goals as goal

pub new-requires : goal.new-requires
new-requires c =
    record { in_range = points_in_range c.args.lists (rectangle_is_plan c.args.lists c.requires.rectangle) }

pub unreachable-requires : goal.unreachable-requires
unreachable-requires c =
    let stays = plan_stays c.args.lists (rectangle_is_plan c.args.lists c.requires.rectangle) in
    let flat = (c.in-Err-Flat.ensures.flat (λ e. absurd (cc))).0 (ap Err c.in-Err-Flat.field-0-is) in
    absurd (false≢true (sym stays.0 ∙ flat))

pub unreachable-requires-in-Err-Knot : goal.unreachable-requires-in-Err-Knot
unreachable-requires-in-Err-Knot c =
    let stays = plan_stays c.args.lists (rectangle_is_plan c.args.lists c.requires.rectangle) in
    let knot = (c.in-Err-Knot.ensures.knot (λ e. absurd (cc))).0 (ap Err c.in-Err-Knot.field-0-is) in
    absurd (false≢true (sym stays.1.0 ∙ knot))

pub returns-in-Ok : goal.returns-in-Ok
returns-in-Ok c =
    let stays = plan_stays c.args.lists (rectangle_is_plan c.args.lists c.requires.rectangle) in
    c.in-Ok.ensures.plan ∙ stays.1.1
