use Rattle.std.proofs.Common.{◌≡◌, ◌↔◌, ℕ, ◌≤◌, length, take}
use Rattle.theory_lists.specs.Members.{Stands}
use Rattle.sb_profile.specs.Contents.{Contents, Says}
use Rattle.sb_profile.specs.Following as following
use Rattle.sb_profile.specs.Steps.Chains.{IsSeen, AreReached, IsWithin, FindsPlacements}
use Rattle.sb_profile.proofs.following.chains.chains.Given as goal

abbrev pub invariant-levels : goal.invariant-levels
invariant-levels l =
    IsSeen l.chain × (l.asked ≤ length l.chain.placements.items)
    × ((c : Contents) → Says l.file c → l.building ≡ following.building_placement c
    → ((n : ℕ) → Stands n l.fn.first.placements.items ↔ IsWithin c 0 n)
    → AreReached c l._level l.chain.placements.items l.asked)
    × ((c : Contents) → Says l.file c
    → FindsPlacements c (take l.asked l.chain.placements.items) l.fn.found l.found)
