-- What is kept of placements, by their numbers, so that each is read once.
use Rattle.std.specs.Prelude.{◌≡◌, ℕ, Option, Some}
use Rattle.sb_fraction.specs.declared.unit.Unit as units
use Rattle.sb_step.specs.Indexed.{Indexed}
use Rattle.sb_place.specs.declared.kept.Placed.{Placed}
use Rattle.sb_place.specs.Kept.{IsKeptOf}

-- what is kept of each placement that is known is kept of its whole chain
abbrev pub AreKnown : Indexed → Option ℕ → units.Unit → (ℕ → Option Placed) → Type 0
AreKnown indexed building u known =
    (n : ℕ) (placed : Placed) → known n ≡ Some placed → IsKeptOf indexed building u (Some n) placed

-- and what is kept from a reference on, unless its chain is too long
abbrev pub IsKeptWhere : Indexed → Option ℕ → units.Unit → Option ℕ → Option Placed → Type 0
IsKeptWhere indexed building u from kept =
    (placed : Placed) → kept ≡ Some placed → IsKeptOf indexed building u from placed
