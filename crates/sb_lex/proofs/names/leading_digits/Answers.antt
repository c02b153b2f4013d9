use Rattle.std.proofs.Common.{◌≡◌, ◌+◌, ◌*◌, ℕ, true, min, get_or, sym, ap, ◌∙◌, arith}
use Rattle.std.specs.Char.{is_ascii_digit, digit_value}
use Rattle.std.proofs.lemmas.List.Sums.{prefix_len-drop_yes}
use Rattle.std.proofs.lemmas.Int.Digits.{digits_value_more}
use Rattle.sb_lex.specs.Kinds.{numbers_end}
use Rattle.sb_lex.proofs.names.leading_digits.Goals as goal

-- a number that no longer grows is the number held back at the end
held_back : (number digit limit : ℕ) → min (min number limit * 10 + digit) limit ≡ min
    (number * 10 + digit) limit
held_back number digit limit = omega arith

pub digits-preserved : goal.digits-preserved
digits-preserved c =
    let bytes = c.args.bytes.now in
    let len = c.digits.len in
    let is_digit : is_ascii_digit (get_or bytes len 0) ≡ true =
    sym c.is_ascii_digit.ensures.value ∙ c.if-is_ascii_digit.true in
    record {
      within = omega arith;
      run = omega (
        arith,
        c.digits.invariant.run,
        prefix_len-drop_yes is_ascii_digit bytes len 0
            (omega arith) is_digit,
      );
      value =
          c.grown-number.ensures
          ∙ ap (λ n. min (n * 10 + digit_value (get_or bytes len 0)) numbers_end)
          c.digits.invariant.value ∙ held_back _ _ numbers_end ∙ ap (λ n. min n numbers_end)
          (sym (digits_value_more 10 bytes len (omega arith)));
    }
