use Rattle.std.proofs.Common.{◌↔◌, ℕ, take}
use Rattle.theory_lists.specs.Members.{Stands}
use Rattle.sb_profile.specs.Steps.Chains.{IsSeen}
use Rattle.sb_profile.proofs.following.leading.reached.Given as goal

abbrev pub invariant-numbers : goal.invariant-numbers
invariant-numbers l =
    IsSeen l.chain
    × ((n : ℕ) → Stands n l.chain.placements.items ↔ Stands n (take l.number-index l.numbers))
