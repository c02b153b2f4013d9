use Rattle.std.proofs.Common.{take}
use Rattle.sb_profile.specs.declared.following.found.Found.{Found}
use Rattle.sb_profile.specs.Contents.{Contents, Says}
use Rattle.sb_profile.specs.Steps.Chains.{FindsPlacements}
use Rattle.sb_profile.proofs.following.chains.see_from.Given as goal

abbrev pub invariant-placements : goal.invariant-placements
invariant-placements l =
    (c : Contents) → Says l.file c → (base : Found)
    → FindsPlacements c (take l.fn.asked l.fn.placements) base l.fn.found
    → FindsPlacements c (take l.at l.fn.placements) base l.found
