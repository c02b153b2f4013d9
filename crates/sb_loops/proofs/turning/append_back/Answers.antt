-- Point by point, from the last one back.
use Rattle.std.proofs.Common.{◌∙◌, ap, ◌++◌, ◌∷◌, [], ◌-◌, get_or, reverse, length, pos, arith}
use Rattle.std.proofs.lemmas.List.{length-reverse, take_all}
use Rattle.theory_plans.specs.Rectangles.{corner}
use Rattle.sb_loops.proofs.LoopsTurned.{one_more_back}
use Rattle.sb_loops.proofs.turning.append_back.Goals as goal

pub loop-k-preserved : goal.loop-k-preserved
loop-k-preserved c =
    c.in_ok-push.ensures.ok
    ∙ ap
    (λ l. l
    ++ (get_or c.args.points.now (length c.args.points.now - 1 - c.loop-k.k)
    (corner (pos 0) (pos 0)) ∷ []))
    c.loop-k.invariant
    ∙ one_more_back c.args.turned.now c.args.points.now c.loop-k.k (corner (pos 0) (pos 0))
    c.loop-k-test.true

pub returns : goal.returns
returns c =
    let size = length-reverse c.args.points.now in
    c.loop-k.invariant
    ∙ ap (λ l. c.args.turned.now ++ l)
    (take_all c.loop-k.k (reverse c.args.points.now) (omega (arith, size)))
