-- Plain digits and the decimals of short numbers are the same.
use Rattle.std.proofs.Common.{◌≡◌, ◌∙◌, sym, subst, true}
use Rattle.std.specs.Char.{is_ascii_digit}
use Rattle.std.specs.List.{list_all}
use Rattle.sb_form.specs.Numbers.{HasPlainLength}
use Rattle.sb_form.proofs.DecimalsAreReadBack.{decimal_is_plain, digits_decimal_all, decimal-plain_value, short_value}
use Rattle.sb_form.proofs.number.plain_value.Goals as goal
use Rattle.sb_form.proofs.number.plain_value.Goals.{else-has_plain_length-via-then-has_plain_length+else-are_digits, else-has_plain_length-via-else-has_plain_length}

pub returns-then-are_digits-clause-found : goal.returns-then-are_digits-clause-found
returns-then-are_digits-clause-found c =
    let all : list_all is_ascii_digit c.args.digits.now ≡ true =
    sym c.are_digits.ensures ∙ c.if-are_digits.true in
    let plain = c.has_plain_length.ensures.yes c.if-has_plain_length.true in
    rw c.value_of.ensures (short_value _ plain all, sym (decimal-plain_value _ plain all))

pub returns-else-has_plain_length-clause-none : goal.returns-else-has_plain_length-clause-none
returns-else-has_plain_length-clause-none c n short same =
    elim c.else-has_plain_length.branch [
      | else-has_plain_length-via-then-has_plain_length+else-are_digits w ↦
          let all = digits_decimal_all n short in
          cc (w.are_digits.ensures, w.if-are_digits.false, same, all)
      | else-has_plain_length-via-else-has_plain_length w ↦
          c.has_plain_length.ensures.no w.if-has_plain_length.false
          (subst HasPlainLength (sym same) (decimal_is_plain n short))
    ]
