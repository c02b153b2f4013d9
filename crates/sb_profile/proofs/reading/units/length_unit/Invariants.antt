use Rattle.std.proofs.Common.{◌≡◌, length, Some}
use Rattle.std.specs.Prelude.{filter, filter_map}
use Rattle.sb_step.specs.Cursors.Forms.{reference_in}
use Rattle.sb_profile.specs.declared.reading.units.Only.TheVariants as only
use Rattle.sb_profile.specs.Contents.{Contents, Says}
use Rattle.sb_profile.specs.Units.{is_length_unit}
use Rattle.sb_profile.specs.Steps.Counting.{counted}
use Rattle.sb_profile.proofs.reading.units.length_unit.Given as goal

abbrev pub invariant-members : goal.invariant-members
invariant-members l =
    (c : Contents) → Says l.file c
    → counted l.found (filter (is_length_unit c) (filter_map (λ p. reference_in (Some p)) l.members))
    ≡ counted only.None (filter (is_length_unit c) (filter_map (λ p. reference_in (Some p)) l.initial.members))

abbrev pub decreases-members : goal.decreases-members
decreases-members l = length l.members
