-- Products that stand in frames as their shapes are judged, one after another: those that fill a prism, and
-- the conditions of the others.
use Rattle.std.specs.Prelude.{◌≡◌, ℕ, ◌⊎◌, List, [], ◌∷◌, ◌++◌, Option, Some, None, Result, Ok, Err}
use Rattle.theory_lists.specs.Members.{Stands}
use Rattle.sb_fraction.specs.declared.unit.Unit as units
use Rattle.sb_step.specs.Indexed.{Indexed}
use Rattle.sb_model.specs.Solids.{Upright}
use Rattle.sb_prism.specs.declared.error.PrismError.{PrismError}
use Rattle.sb_prism.specs.declared.error.PrismError.TheVariants as prism_error
use Rattle.sb_prism.specs.Prisms.{IsPrismOf}
use Rattle.sb_profile.specs.declared.defects.Code.{Code}
use Rattle.sb_profile.specs.declared.defects.Code.TheVariants as code
use Rattle.sb_profile.specs.declared.defects.Defect.{Defect}
use Rattle.sb_building.specs.declared.judging.standing.Standing.{Standing}
use Rattle.sb_building.specs.Steps.Least.{IsLeastOf}
use Rattle.sb_building.specs.Steps.Order.{Rise}

-- the code of what is answered of a shape; an instance that is not of its row, or absent, is a defect of the
-- file
abbrev pub code_of : PrismError → Option Code
code_of prism_error.Turned = Some code.Turned
code_of prism_error.Shape = Some code.Shape
code_of prism_error.Range = Some code.Range
code_of prism_error.OffGrid = Some code.OffGrid
code_of prism_error.Loops = Some code.Loops
code_of _ = None

-- the product is among these, and fills a prism
pub record FillsPrism (i : Indexed) (u : units.Unit) (ss : List Standing) (s : Standing) : Type 0 where
  pub among : Stands s ss
  pub prism : Upright
  pub is : IsPrismOf i s.shape s.frame u (Ok prism)

-- a product among these fills none, and so has this condition
pub record HasShapeFault (i : Indexed) (u : units.Unit) (ss : List Standing) (n : ℕ) (k : Code)
    : Type 0 where
  pub product : Standing
  pub fault : PrismError
  pub among : Stands product ss
  pub number : product.number ≡ n
  pub code : code_of fault ≡ Some k
  pub is : IsPrismOf i product.shape product.frame u (Err fault)

-- these products were judged: they fill prisms, or their conditions were seen
pub record AreShaped (i : Indexed) (u : units.Unit) (ss all : List Standing) (seen : List (ℕ × Code))
    : Type 0 where
  pub rise : Rise (λ s. s.number) ss → Rise (λ s. s.number) all
  pub filling_are : (s : Standing) → Stands s all → FillsPrism i u ss s
  pub seen_are : (n : ℕ) (k : Code) → Stands (n, k) seen → HasShapeFault i u ss n k
  pub each : (s : Standing) → Stands s ss → Stands s all ⊎ ((k : Code) × Stands (s.number, k) seen)

-- whether its shape gives a prism, or why it gives none
abbrev pub IsAnswered : Indexed → units.Unit → Standing → Result (Unit {0}) PrismError → Type 0
IsAnswered i u s (Ok done) = (prism : Upright) × IsPrismOf i s.shape s.frame u (Ok prism)
IsAnswered i u s (Err e) = IsPrismOf i s.shape s.frame u (Err e)

-- one product more was judged
abbrev pub IsOneMoreShaped : Indexed → units.Unit → Standing → List Standing → List Standing
    → Option Defect → Option Defect → Type 0
IsOneMoreShaped i u s old new found then_found =
    ((prism : Upright) × IsPrismOf i s.shape s.frame u (Ok prism) × (new ≡ old ++ s ∷ [])
    × (then_found ≡ found))
    ⊎ ((e : PrismError) × (k : Code) × IsPrismOf i s.shape s.frame u (Err e) × (code_of e ≡ Some k)
    × (new ≡ old)
    × ((seen : List (ℕ × Code)) → IsLeastOf seen found → IsLeastOf (seen ++ (s.number, k) ∷ []) then_found))

-- some products were judged, behind conditions that had been seen
abbrev pub ShapesAreJudged : Indexed → units.Unit → List Standing → List Standing
    → Option Defect → Option Defect → Type 0
ShapesAreJudged i u ss all found then_found =
    (before : List (ℕ × Code)) → IsLeastOf before found
    → (seen : List (ℕ × Code)) × AreShaped i u ss all seen × IsLeastOf (before ++ seen) then_found
