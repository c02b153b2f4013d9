use Rattle.sb_step.proofs.ParameterLists.DoubledApostrophes.{one_byte_more}
use Rattle.sb_step.proofs.parameters.values.undoubled.Goals as goal

pub bytes-preserved : goal.bytes-preserved
bytes-preserved c =
    one_byte_more c.args.text.now c.bytes.single c.bytes.at c.bytes.invariant c.bytes-test.true
    c.push.new.self c.written_len-at.result c.in_ok-push.ensures.ok c.written_len-at.ensures.value
