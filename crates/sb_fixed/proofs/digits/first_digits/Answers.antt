use Rattle.std.proofs.Common.{sym, ◌∙◌}
use Rattle.sb_fixed.proofs.FirstDigits.{read_byte, pass_byte, leave_byte}
use Rattle.sb_fixed.proofs.digits.first_digits.Goals.{then-left-gt0+then-is_ascii_digit, else-left-gt0, else-left-gt0-via-then-left-gt0+else-is_ascii_digit, else-left-gt0-via-else-left-gt0}
use Rattle.sb_fixed.proofs.digits.first_digits.Goals as goal

pub loop-byte-preserved : goal.loop-byte-preserved
loop-byte-preserved c =
    let count = c.args.count in
    let text = c.args.text.now in
    let i = c.loop-byte.byte-index in
    let number = c.loop-byte.number in
    let left = c.loop-byte.left in
    elim c.if-left-gt0.branch [
      | then-left-gt0+then-is_ascii_digit w ↦
          rw (w.number-is, w.left-is)
          (read_byte count text i number left w.grown-number.result c.loop-byte-test.true
          (sym w.is_ascii_digit.ensures.value ∙ w.if-is_ascii_digit.true) c.loop-byte.invariant
          w.if-left-gt0.true w.grown-number.ensures)
      | else-left-gt0 w ↦
          rw (w.number-is, w.left-is)
          (elim w.else-left-gt0.branch [
            | else-left-gt0-via-then-left-gt0+else-is_ascii_digit v ↦
                pass_byte count text i number left c.loop-byte-test.true
                (sym v.is_ascii_digit.ensures.value ∙ v.if-is_ascii_digit.false) c.loop-byte.invariant
            | else-left-gt0-via-else-left-gt0 v ↦
                leave_byte count text i number left c.loop-byte-test.true c.loop-byte.invariant
                v.if-left-gt0.false
          ])
    ]
