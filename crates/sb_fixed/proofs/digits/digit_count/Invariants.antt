-- As many as were digits so far.
use Rattle.std.proofs.Common.{◌≡◌, ◌≤◌, length, take}
use Rattle.sb_fixed.specs.Decimals.{digits_in}
use Rattle.sb_fixed.proofs.digits.digit_count.Given as goal

abbrev pub invariant-loop-byte : goal.invariant-loop-byte
invariant-loop-byte l = record {
  counted : l.count ≡ length (digits_in (take l.byte-index l.text));
  few : l.count ≤ l.byte-index;
}
