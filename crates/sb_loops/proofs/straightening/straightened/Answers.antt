-- Point by point.
use Rattle.std.proofs.Common.{◌∙◌, sym, ap, ◌++◌, ◌∷◌, [], drop, subst, append_assoc, ◌+◌, get_or}
use Rattle.std.proofs.Common.{pos}
use Rattle.theory_plans.specs.Rectangles.{corner}
use Rattle.std.proofs.lemmas.List.{drop_more}
use Rattle.theory_loops.specs.Orders.{Becomes}
use Rattle.theory_loops.specs.Orders.Becomes.{stays}
use Rattle.theory_loops.proofs.Orders.SameLoop.{becomes_through}
use Rattle.sb_loops.specs.Ways.{is_bent_way}
use Rattle.sb_loops.proofs.straightening.straightened.Goals as goal

pub loop-b-init : goal.loop-b-init
loop-b-init c =
    let none = c.new-kept.ensures.items in
    record {
      becomes = subst (λ l. Becomes c.args.points.now (l ++ c.args.points.now)) (sym none) stays;
      bent = ap is_bent_way none;
    }

pub loop-b-preserved : goal.loop-b-preserved
loop-b-preserved c =
    let b = get_or c.args.points.now c.loop-b.b-index (corner (pos 0) (pos 0)) in
    let rest = drop (c.loop-b.b-index + 1) c.args.points.now in
    let kept = c.drop_straight.new.kept.items in
    record {
      becomes = subst (Becomes c.args.points.now)
          (sym (append_assoc kept (b ∷ []) rest)
          ∙ ap (λ l. l ++ rest) (sym c.in_ok-push.ensures.items))
          (becomes_through
          (subst (λ l. Becomes c.args.points.now (c.loop-b.kept.items ++ l))
          (drop_more c.args.points.now c.loop-b.b-index (corner (pos 0) (pos 0))
          c.loop-b-test.true) c.loop-b.invariant.becomes)
          (c.drop_straight.ensures.becomes rest));
      bent = ap is_bent_way c.in_ok-push.ensures.items ∙ c.drop_straight.ensures.bent;
    }
