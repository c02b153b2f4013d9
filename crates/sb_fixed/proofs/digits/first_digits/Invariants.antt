-- The digits so far are read, up to the count.
use Rattle.std.proofs.Common.{take}
use Rattle.sb_fixed.specs.Decimals.{digits_in}
use Rattle.sb_fixed.proofs.FirstDigits.{IsRead}
use Rattle.sb_fixed.proofs.digits.first_digits.Given as goal

abbrev pub invariant-loop-byte : goal.invariant-loop-byte
invariant-loop-byte l =
    IsRead l.fn.count (digits_in (take l.byte-index l.text)) l.number l.left
