-- What stands there are the bytes as they were and the first of the last digits.
use Rattle.std.proofs.Common.{◌≡◌, ◌++◌, ◌-◌, ◌/◌, ◌^◌}
use Rattle.sb_fixed.specs.Printed.{last_digits}
use Rattle.sb_fixed.proofs.printing.append_last_digits.Given as goal

abbrev pub invariant-loop-done : goal.invariant-loop-done
invariant-loop-done l =
    l.out.items ≡ l.initial.out.items ++ last_digits l.done (l.number / 10 ^ (l.count - l.done))
