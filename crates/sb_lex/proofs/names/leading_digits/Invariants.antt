use Rattle.std.proofs.Common.{◌≡◌, ◌≤◌, ◌+◌, ◌-◌, min, length, drop, take}
use Rattle.std.specs.List.{prefix_len}
use Rattle.std.specs.Char.{is_ascii_digit}
use Rattle.std.specs.Str.Parse.{digits_value}
use Rattle.sb_lex.specs.Kinds.{numbers_end}
use Rattle.sb_lex.proofs.names.leading_digits.Given as goal

abbrev pub invariant-digits : goal.invariant-digits
invariant-digits l = record {
  within : l.len ≤ length l.bytes;
  run : prefix_len is_ascii_digit l.bytes ≡ l.len + prefix_len is_ascii_digit (drop l.len l.bytes);
  value : l.number ≡ min (digits_value 10 (take l.len l.bytes)) numbers_end;
}

abbrev pub decreases-digits : goal.decreases-digits
decreases-digits l = length l.bytes - l.len
