-- Points go from both ends, until the loop is bent at its joint.
use Rattle.std.proofs.Common.{◌∙◌, sym, ap, pos, length, ◌-◌, subst}
use Rattle.theory_plans.specs.Rectangles.{corner}
use Rattle.theory_loops.specs.Orders.{Becomes}
use Rattle.theory_loops.specs.Orders.Becomes.{stays}
use Rattle.theory_loops.proofs.Orders.SameLoop.{becomes_through}
use Rattle.sb_loops.specs.Ways.{is_bent_way}
use Rattle.sb_loops.proofs.StackPass.{bent_take, bent_rest, last_goes_at_joint, first_goes_at_joint}
use Rattle.sb_loops.proofs.StackPass.{bent_at_joint}
use Rattle.sb_loops.proofs.straightening.closed.Goals as goal

pub points-init : goal.points-init
points-init c = record { becomes = stays; bent = c.requires }

pub points-preserved-then-is_last_straight : goal.points-preserved-then-is_last_straight
points-preserved-then-is_last_straight c =
    record {
      becomes = becomes_through c.points.invariant.becomes
          (last_goes_at_joint c.points.left.now (corner (pos 0) (pos 0)) c.points-test.true
          (sym c.is_last_straight.ensures ∙ c.if-is_last_straight.true));
      bent = bent_take c.points.left.now (length c.points.left.now - 1) c.points.invariant.bent;
    }

pub points-preserved : goal.points-preserved
points-preserved c =
    record {
      becomes = subst (Becomes c.args.kept.now) (sym c.without_first-left.ensures)
          (becomes_through c.points.invariant.becomes
          (first_goes_at_joint c.points.left.now
          (sym c.is_first_straight.ensures ∙ c.if-is_first_straight.true)));
      bent = ap is_bent_way c.without_first-left.ensures
          ∙ bent_rest c.points.left.now c.points.invariant.bent;
    }

pub returns-else-is_first_straight-clause-bent : goal.returns-else-is_first_straight-clause-bent
returns-else-is_first_straight-clause-bent c many =
    bent_at_joint c.points.left.now (corner (pos 0) (pos 0)) many c.points.invariant.bent
    (sym c.is_last_straight.ensures ∙ c.if-is_last_straight.false)
    (sym c.is_first_straight.ensures ∙ c.if-is_first_straight.false)
