-- One digit more is ten times the value and the digit, still below a million.
use Rattle.std.proofs.Common.{arith}
use Rattle.std.proofs.lemmas.Int.Digits.{digits_value_more}
use Rattle.sb_form.proofs.DecimalsAreReadBack.{value_is_short, digit_in_range, digit_value-digit}
use Rattle.sb_form.proofs.number.value_of.Goals as goal

pub overflow_mul-value : goal.overflow_mul-value
overflow_mul-value c =
    omega (
      arith,
      value_is_short _ c.loop-digit.digit-index c.requires.digits c.requires.few,
      c.loop-digit.invariant,
    )

pub overflow_sub-digit : goal.overflow_sub-digit
overflow_sub-digit c =
    omega (
      arith,
      digit_in_range _ c.loop-digit.digit-index c.requires.digits c.loop-digit-test.true,
    )

pub overflow_add-value : goal.overflow_add-value
overflow_add-value c =
    omega (
      arith,
      value_is_short _ c.loop-digit.digit-index c.requires.digits c.requires.few,
      c.loop-digit.invariant,
    )

pub loop-digit-preserved : goal.loop-digit-preserved
loop-digit-preserved c =
    let more =
    digits_value_more 10 c.args.digits.now c.loop-digit.digit-index c.loop-digit-test.true in
    let worth =
    digit_value-digit c.args.digits.now c.loop-digit.digit-index c.requires.digits
    c.loop-digit-test.true in
    let so_far = c.loop-digit.invariant in
    let this = c.from.ensures in
    rw more (omega arith)
