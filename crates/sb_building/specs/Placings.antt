-- Where a product stands, and which prism it fills.
use Rattle.std.specs.Prelude.{◌≡◌, ℕ, Some, Result, Ok}
use Rattle.sb_fraction.specs.declared.unit.Unit as units
use Rattle.sb_step.specs.Indexed.{Indexed}
use Rattle.sb_model.specs.declared.frame.Frame.{Frame}
use Rattle.sb_model.specs.Solids.{Upright}
use Rattle.sb_place.specs.declared.error.PlaceError.{PlaceError}
use Rattle.sb_place.specs.Judgement.{IsFrameOf}
use Rattle.sb_prism.specs.declared.error.PrismError.{PrismError}
use Rattle.sb_prism.specs.Prisms.{IsPrismOf}
use Rattle.sb_profile.specs.Contents.{Contents}
use Rattle.sb_profile.specs.Products.{shape_of, placement_of}
use Rattle.sb_profile.specs.Following.{building_placement}

-- what is answered of the frame of a product, below the building's placement
abbrev pub IsFrameIn : Indexed → Contents → units.Unit → ℕ → Result Frame PlaceError → Type 0
IsFrameIn indexed c u n result = IsFrameOf indexed (placement_of c n) (building_placement c) u result

-- what is answered of its shape in this frame
abbrev pub IsPrismIn : Indexed → Contents → units.Unit → ℕ → Frame → Result Upright PrismError → Type 0
IsPrismIn indexed c u n f result =
    (shape : ℕ) × (shape_of c n ≡ Some shape) × IsPrismOf indexed shape f u result

-- a product that stands in this frame and fills this prism
pub record IsPlacedIn (indexed : Indexed) (c : Contents) (u : units.Unit) (n : ℕ) (f : Frame)
    (prism : Upright) : Type 0 where
  pub frame : IsFrameIn indexed c u n (Ok f)
  pub prism_is : IsPrismIn indexed c u n f (Ok prism)
