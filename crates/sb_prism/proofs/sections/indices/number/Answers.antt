use Rattle.std.proofs.Common.{ap, ◌∙◌, min}
use Rattle.std.proofs.lemmas.List.{take_all}
use Rattle.std.specs.Str.Parse.{digits_value}
use Rattle.sb_fixed.specs.Decimals.{digits_in}
use Rattle.sb_prism.specs.Kept.{held}
use Rattle.sb_prism.proofs.Outlines.IndicesAreRead.{byte_more}
use Rattle.sb_prism.proofs.sections.indices.number.Goals as goal

pub bytes-preserved : goal.bytes-preserved
bytes-preserved c =
    byte_more c.args.text.now c.bytes.byte-index c.bytes.number _ c.bytes-test.true c.bytes.invariant c.with_byte-number.ensures

pub returns : goal.returns
returns c =
    c.bytes.invariant
    ∙ ap (λ t. min (digits_value 10 (digits_in t)) held) (take_all c.bytes.byte-index c.args.text.now c.bytes-test.false)
