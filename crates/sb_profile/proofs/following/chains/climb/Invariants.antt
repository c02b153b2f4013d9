use Rattle.std.proofs.Common.{◌≡◌, ℕ, length, take}
use Rattle.sb_profile.specs.declared.following.found.Found.{Found}
use Rattle.sb_profile.specs.Contents.{Contents, Says}
use Rattle.sb_profile.specs.Following as following
use Rattle.sb_profile.specs.Steps.Chains.{IsSeen, Grows, AreReached, Climbs, FindsPlacements}
use Rattle.sb_profile.proofs.following.chains.climb.Given as goal

abbrev pub invariant-placements : goal.invariant-placements
invariant-placements l =
    IsSeen l.chain × Grows l.fn.chain.placements.items l.chain.placements.items
    × (l.end ≡ length l.fn.chain.placements.items)
    × ((c : Contents) → Says l.file c → l.building ≡ following.building_placement c → (level : ℕ)
    → AreReached c level l.fn.chain.placements.items l.fn.asked
    → Climbs c level l.chain.placements.items l.at)
    × ((c : Contents) → Says l.file c → (base : Found)
    → FindsPlacements c (take l.fn.asked l.fn.chain.placements.items) base l.fn.found
    → FindsPlacements c (take l.at l.fn.chain.placements.items) base l.found)
