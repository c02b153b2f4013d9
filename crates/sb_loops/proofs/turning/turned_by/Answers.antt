-- Loop by loop.
use Rattle.std.proofs.Common.{◌∙◌, ap, ap₂, sym, ◌++◌, ◌∷◌, [], false, get_or, length}
use Rattle.std.proofs.Common.{if◌then◌else◌}
use Rattle.theory_parity.specs.Sides.{turned_loop}
use Rattle.sb_loops.proofs.LoopsTurned.{one_more_turned}
use Rattle.sb_loops.proofs.turning.turned_by.Goals as goal

pub loop-k-preserved : goal.loop-k-preserved
loop-k-preserved c =
    let loops = c.as_slice-loops.result.now in
    let senses = c.as_slice-senses.result.now in
    c.in_ok-push.ensures.ok
    ∙ ap₂ (λ t p. t ++ (p ∷ [])) c.loop-k.invariant
    (c.in_ok-put.ensures
    ∙ ap (λ l. if get_or senses c.loop-k.k false then l else turned_loop l)
    (c.as_slice.ensures ∙ c.index-loops-k.is))
    ∙ sym
    (one_more_turned senses loops c.loop-k.k false c.index-loops-k.result c.loop-k-test.true
    (ap length c.as_slice-senses.ensures ∙ c.requires ∙ sym (ap length c.as_slice-loops.ensures)))
