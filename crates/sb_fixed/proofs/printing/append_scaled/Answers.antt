use Rattle.std.proofs.lemmas.Result.{on_err_weaker}
use Rattle.sb_fixed.proofs.DigitsAppended.{front_kept}
use Rattle.sb_fixed.proofs.printing.append_scaled.Goals as goal

pub returns-clause-err : goal.returns-clause-err
returns-clause-err c =
    let all = c.append_last_digits.new.out.items in
    on_err_weaker c.append_last_digits.result
    (λ kept.
    front_kept _ _ _ all c.in_ok-append_sign.ensures.ok
    (front_kept _ _ _ all c.in_ok-append_whole.ensures.ok
    (front_kept _ _ _ all c.in_ok-extend_from_slice.ensures.items kept)))
    c.append_last_digits.ensures.err
