-- The last point goes while it is straight; then the next one may be put behind it.
use Rattle.std.proofs.Common.{◌≡◌, ◌∙◌, sym, ap, ◌++◌, ◌∷◌, ◌-◌, length, take, subst}
use Rattle.std.specs.Vec.{vec_len}
use Rattle.theory_loops.specs.Orders.{Becomes}
use Rattle.theory_loops.specs.Orders.Becomes.{stays}
use Rattle.theory_loops.proofs.Orders.SameLoop.{becomes_through}
use Rattle.sb_loops.specs.Ways.{is_bent_way, is_last_straight}
use Rattle.sb_loops.proofs.StackPass.{last_goes, bent_with, bent_take}
use Rattle.sb_loops.proofs.straightening.drop_straight.Goals as goal

pub points-init : goal.points-init
points-init c = record { becomes = λ rest. stays; bent = c.requires }

pub points-preserved : goal.points-preserved
points-preserved c =
    let kept = c.points.kept.items in
    let size : vec_len c.points.kept ≡ length kept =
    sym c.as_slice.ensures.len ∙ ap length c.as_slice.ensures.value in
    let left = c.pop.ensures.rest ∙ ap (λ n. take (n - 1) kept) size in
    let straight = ap (λ l. is_last_straight l c.args.b) (sym c.as_slice.ensures.value)
    ∙ sym c.is_last_straight.ensures ∙ c.points-test.true in
    record {
      becomes = λ rest. subst
          (λ l. Becomes (c.args.kept.now.items ++ (c.args.b ∷ rest)) (l ++ (c.args.b ∷ rest)))
          (sym left)
          (becomes_through (c.points.invariant.becomes rest)
          (last_goes kept c.args.b rest straight));
      bent = ap is_bent_way left ∙ bent_take kept (length kept - 1) c.points.invariant.bent;
    }

pub returns-clause-bent : goal.returns-clause-bent
returns-clause-bent c =
    bent_with c.points.kept.items c.args.b c.points.invariant.bent
    (ap (λ l. is_last_straight l c.args.b) (sym c.as_slice.ensures.value)
    ∙ sym c.is_last_straight.ensures ∙ c.points-test.false)
