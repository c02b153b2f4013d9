use Rattle.std.proofs.Common.{◌*◌, ◌-◌, ◌^◌, min, ap, ◌∙◌}
use Rattle.sb_fixed.specs.Steps.{held}
use Rattle.sb_fixed.proofs.HeldBack.{by_one_product}
use Rattle.sb_fixed.proofs.digits.with_zeros.Goals as goal

pub returns : goal.returns
returns c =
    let number = c.args.number in
    c.min.ensures
    ∙ ap (λ n. min n held)
    (c.saturating_mul.ensures ∙ ap (λ t. min (number * t) (2 ^ 128 - 1)) c.tens.ensures)
    ∙ by_one_product number c.args.zeros
