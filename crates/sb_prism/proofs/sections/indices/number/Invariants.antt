use Rattle.std.proofs.Common.{◌≡◌, take, min}
use Rattle.std.specs.Str.Parse.{digits_value}
use Rattle.sb_fixed.specs.Decimals.{digits_in}
use Rattle.sb_prism.specs.Kept.{held}
use Rattle.sb_prism.proofs.sections.indices.number.Given as goal

abbrev pub invariant-bytes : goal.invariant-bytes
invariant-bytes l = l.number ≡ min (digits_value 10 (digits_in (take l.byte-index l.text))) held
