use Rattle.std.proofs.Common.{[], ◌∷◌, ◌++◌, ap, ap₂, ◌∙◌, append_assoc}
use Rattle.sb_fixed.proofs.DigitsAppended.{one_digit_more}
use Rattle.sb_fixed.proofs.printing.append_last_digits.Goals as goal

pub loop-done-preserved : goal.loop-done-preserved
loop-done-preserved c =
    let old = c.args.out.now.items in
    c.in_ok-push.ensures.items
    ∙ ap₂ (λ text digit. text ++ digit ∷ []) c.loop-done.invariant c.digit_at.ensures
    ∙ append_assoc old _ _
    ∙ ap (λ text. old ++ text)
    (one_digit_more c.args.count c.loop-done.done c.args.number c.loop-done-test.true)
