-- Laws: a file has one position of each number, and one chain from each placement upwards.
use Rattle.std.specs.Prelude.{◌≡◌, ℕ, Bool, List, Option}
use Rattle.sb_step.specs.Indexed.{Indexed}
use Rattle.sb_place.specs.declared.sight.Seen.{Seen}
use Rattle.sb_place.specs.declared.position.Position.{Position}
use Rattle.sb_place.specs.Positions.{IsSpacePosition, IsPlanPosition}
use Rattle.sb_place.specs.Chains.{Link, IsChain}

abbrev pub SpacePositionsAreUnique : Type 0
SpacePositionsAreUnique =
    (indexed : Indexed) (n : ℕ) (s t : Seen Position) → IsSpacePosition indexed n s
    → IsSpacePosition indexed n t → s ≡ t

abbrev pub PlanPositionsAreUnique : Type 0
PlanPositionsAreUnique =
    (indexed : Indexed) (n : ℕ) (s t : Seen Position) → IsPlanPosition indexed n s
    → IsPlanPosition indexed n t → s ≡ t

abbrev pub ChainsAreUnique : Type 0
ChainsAreUnique =
    (indexed : Indexed) (building : Option ℕ) (left : ℕ) (from : Option ℕ) (links others : List Link)
    (reached other : Bool) → IsChain indexed building left from links reached
    → IsChain indexed building left from others other → (links ≡ others) × (reached ≡ other)
