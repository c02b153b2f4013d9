use Rattle.std.proofs.Common.{min, length, ap, ◌∙◌, take_all}
use Rattle.std.specs.Str.Parse.{digits_value}
use Rattle.sb_fixed.specs.Decimals.{digits_in}
use Rattle.sb_fixed.specs.Steps.{held}
use Rattle.sb_fixed.proofs.FirstDigits.{digits_are_few}
use Rattle.sb_fixed.proofs.digits.number.Goals as goal

pub returns : goal.returns
returns c =
    let text = c.args.text.now in
    c.first_digits.ensures.number
    ∙ ap (λ l. min (digits_value 10 l) held)
    (take_all (length text) (digits_in text) (digits_are_few text))
