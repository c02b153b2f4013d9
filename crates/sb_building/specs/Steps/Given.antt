-- What was found of products: their conditions, each with its number, as they were seen.
use Rattle.std.specs.Prelude.{◌≡◌, ℕ, true, ◌⊎◌, List}
use Rattle.theory_lists.specs.Members.{Stands}
use Rattle.sb_fraction.specs.declared.unit.Unit as units
use Rattle.sb_step.specs.Indexed.{Indexed}
use Rattle.sb_profile.specs.declared.defects.Code.{Code}
use Rattle.sb_profile.specs.Contents.{Contents}
use Rattle.sb_profile.specs.Products.{is_taken}
use Rattle.sb_building.specs.Conditions.{HasCondition}

-- the product has no condition
abbrev pub HasNone : Indexed → Contents → units.Unit → ℕ → Type 0
HasNone i c u n = (k : Code) → HasCondition i c u k n → ⊥

-- its condition was seen, or it has none
abbrev pub IsGiven : Indexed → Contents → units.Unit → List (ℕ × Code) → ℕ → Type 0
IsGiven i c u seen n = ((k : Code) × Stands (n, k) seen) ⊎ HasNone i c u n

-- what was seen are conditions of taken products, and of each taken product it was found whether it has one
pub record AreGiven (i : Indexed) (c : Contents) (u : units.Unit) (seen : List (ℕ × Code)) : Type 0 where
  pub sound : (n : ℕ) (k : Code) → Stands (n, k) seen → (is_taken c n ≡ true) × HasCondition i c u k n
  pub each : (n : ℕ) → is_taken c n ≡ true → IsGiven i c u seen n
