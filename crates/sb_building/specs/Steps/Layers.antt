-- Elements whose layers are at fault, one after another.
use Rattle.std.specs.Prelude.{ℕ, Bool, List, [], ◌∷◌, ◌++◌, Option, if◌then◌else◌}
use Rattle.sb_fraction.specs.declared.unit.Unit as units
use Rattle.sb_step.specs.Indexed.{Indexed}
use Rattle.sb_profile.specs.declared.defects.Code.{Code}
use Rattle.sb_profile.specs.declared.defects.Code.TheVariants as code
use Rattle.sb_profile.specs.declared.defects.Defect.{Defect}
use Rattle.sb_profile.specs.Contents.{Contents, Says}
use Rattle.sb_building.specs.declared.judging.standing.Standing.{Standing}
use Rattle.sb_building.specs.Layerings.{has_bad_layers}
use Rattle.sb_building.specs.Steps.Least.{IsLeastOf}

-- the condition of an element whose layers are at fault
abbrev pub bad_if : Bool → ℕ → List (ℕ × Code)
bad_if bad n = if bad then (n, code.Layers) ∷ [] else []

-- the conditions of those of these elements whose layers are at fault, where this is the material instance of
-- each number
abbrev pub bad_among : Contents → units.Unit → (ℕ → Option ℕ) → List Standing → List (ℕ × Code)
bad_among c u instance [] = []
bad_among c u instance (s ∷ ss) =
    bad_if (has_bad_layers c u (instance s.number)) s.number ++ bad_among c u instance ss

-- the conditions were seen, behind others
abbrev pub LayersAreJudged : Indexed → units.Unit → (ℕ → Option ℕ) → List Standing → Option Defect
    → Option Defect → Type 0
LayersAreJudged i u instance elements found then_found =
    (c : Contents) → Says i c → (before : List (ℕ × Code)) → IsLeastOf before found
    → IsLeastOf (before ++ bad_among c u instance elements) then_found
