-- The fillings so far, and those of the entries that are left, are all.
use Rattle.std.proofs.Common.{◌≡◌, ◌++◌}
use Rattle.sb_profile.specs.Contents.{Contents, Says}
use Rattle.sb_building.specs.Steps.Parts.{all_filled}
use Rattle.sb_building.proofs.lists.filling.listed.Given as goal

abbrev pub invariant-fills : goal.invariant-fills
invariant-fills l =
    (c : Contents) → Says l.file c → l.list ++ all_filled c l.number-iterator ≡ all_filled c l.fills.entries
