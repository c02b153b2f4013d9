use Rattle.std.proofs.Common.{◌≡◌, is_some, length}
use Rattle.sb_step.specs.Cursors.Forms.{reference_in}
use Rattle.sb_schema.specs.Forms.{each}
use Rattle.sb_schema.proofs.lent.are_references.Given as goal

abbrev pub invariant-items : goal.invariant-items
invariant-items l = is_some (each reference_in l.initial.items) ≡ is_some (each reference_in l.items)

abbrev pub decreases-items : goal.decreases-items
decreases-items l = length l.items
