-- The characters of the bytes so far have been written.
use Rattle.std.proofs.Common.{◌≡◌, take, string_bytes}
use Rattle.sb_report.specs.Strings.{material_text}
use Rattle.sb_report.proofs.strings.written_material.Given as goal

abbrev pub invariant-loop-byte : goal.invariant-loop-byte
invariant-loop-byte l = string_bytes l.text ≡ material_text (take l.byte-index l.name)
