-- The conditions on a product, in the order in which they are tried. It has the first that holds alone.
use Rattle.std.specs.Prelude.{◌≡◌, ℕ, true, ◌⊎◌, List, [], ◌∷◌, ◌++◌, Option, Some, None, Ok, Err}
use Rattle.sb_fraction.specs.declared.unit.Unit as units
use Rattle.sb_step.specs.Indexed.{Indexed}
use Rattle.sb_model.specs.declared.frame.Frame.{Frame}
use Rattle.sb_model.specs.Solids.{Upright}
use Rattle.sb_place.specs.declared.error.PlaceError.{PlaceError}
use Rattle.sb_place.specs.declared.error.PlaceError.TheVariants as place_error
use Rattle.sb_prism.specs.declared.error.PrismError.{PrismError}
use Rattle.sb_prism.specs.declared.error.PrismError.TheVariants as prism_error
use Rattle.sb_profile.specs.declared.defects.Code.{Code}
use Rattle.sb_profile.specs.declared.defects.Code.TheVariants as code
use Rattle.sb_profile.specs.declared.defects.Defect.{Defect}
use Rattle.sb_profile.specs.Contents.{Contents, Says}
use Rattle.sb_profile.specs.Products.{is_taken, is_element}
use Rattle.sb_profile.specs.Materials.{material_of}
use Rattle.sb_profile.specs.Units.{unit_in}
use Rattle.sb_profile.specs.Defects.{Occurs, file_codes}
use Rattle.sb_profile.specs.First.{IsFirst}
use Rattle.sb_building.specs.Placings.{IsFrameIn, IsPrismIn, IsPlacedIn}
use Rattle.sb_building.specs.Layerings.{has_bad_layers}

-- it has no frame, for this reason
abbrev pub HasNoFrame : Indexed → Contents → units.Unit → ℕ → PlaceError → Type 0
HasNoFrame indexed c u n fault = IsFrameIn indexed c u n (Err fault)

-- it has a frame, and no prism in it, for this reason
abbrev pub HasNoPrism : Indexed → Contents → units.Unit → ℕ → PrismError → Type 0
HasNoPrism indexed c u n fault =
    (f : Frame) × IsFrameIn indexed c u n (Ok f) × IsPrismIn indexed c u n f (Err fault)

-- it is an element that fills a prism, and what it is made of is not read
pub record HasBadLayers (indexed : Indexed) (c : Contents) (u : units.Unit) (n : ℕ) : Type 0 where
  pub element : is_element c n ≡ true
  pub f : Frame
  pub prism : Upright
  pub placed : IsPlacedIn indexed c u n f prism
  pub bad : has_bad_layers c u (material_of c n) ≡ true

-- The condition that a product has, by lengths in this unit. A frame comes before a prism, and within
-- each the judgement of its own crate has one answer: so a product has one condition at most.
abbrev pub HasCondition : Indexed → Contents → units.Unit → Code → ℕ → Type 0
HasCondition indexed c u code.Chain n = HasNoFrame indexed c u n place_error.Chain
HasCondition indexed c u code.Turned n =
    HasNoFrame indexed c u n place_error.Turned ⊎ HasNoPrism indexed c u n prism_error.Turned
HasCondition indexed c u code.Shape n = HasNoPrism indexed c u n prism_error.Shape
HasCondition indexed c u code.Range n =
    HasNoFrame indexed c u n place_error.Range ⊎ HasNoPrism indexed c u n prism_error.Range
HasCondition indexed c u code.OffGrid n = HasNoPrism indexed c u n prism_error.OffGrid
HasCondition indexed c u code.Loops n = HasNoPrism indexed c u n prism_error.Loops
HasCondition indexed c u code.Layers n = HasBadLayers indexed c u n
HasCondition indexed c u _ n = ⊥

-- a product that is taken has the condition
abbrev pub OccursAt : Indexed → Contents → Code → ℕ → Type 0
OccursAt indexed c code n =
    (u : units.Unit) × (unit_in c ≡ Some u) × (is_taken c n ≡ true) × HasCondition indexed c u code n

-- a defect of the file, or of one of its products
abbrev pub OccursIn : Indexed → Contents → Code → ℕ → Type 0
OccursIn indexed c code n = Occurs c code n ⊎ OccursAt indexed c code n

-- The codes of products in order: Loops of any product comes before Layers of any.
abbrev pub product_codes : List Code
product_codes =
    code.Chain ∷ code.Turned ∷ code.Shape ∷ code.Range ∷ code.OffGrid ∷ code.Loops ∷ code.Layers ∷ []

-- without what elements are made of
abbrev pub codes_of_prisms : List Code
codes_of_prisms =
    code.Chain ∷ code.Turned ∷ code.Shape ∷ code.Range ∷ code.OffGrid ∷ code.Loops ∷ []

-- of these codes, in this order, this is the first that products have, if there is one
abbrev pub IsFirstOfProducts : Indexed → List Code → Option Defect → Type 0
IsFirstOfProducts indexed codes found =
    (c : Contents) → Says indexed c → IsFirst (OccursAt indexed c) codes found

-- all codes in order
abbrev pub all_codes : List Code
all_codes = file_codes ++ product_codes

-- of these codes, in this order, this is the first defect of the file and its products, if there is one
abbrev pub IsFirstIn : Indexed → List Code → Option Defect → Type 0
IsFirstIn indexed codes found =
    (c : Contents) → Says indexed c → IsFirst (OccursIn indexed c) codes found

-- the profile accepts the file: it has no defect
abbrev pub IsAccepted : Indexed → Type 0
IsAccepted indexed = IsFirstIn indexed all_codes None
