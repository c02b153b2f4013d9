-- Trimmed patches: two of one face with one mark neither touch nor share a whole side.

use Rattle.std.specs.Prelude.{◌≡◌, false, List, Some, None}
use Rattle.theory_numbers.specs.Arrows.{Arrow}
use Rattle.theory_numbers.specs.Rationals.{IsRational}
use Rattle.theory_plane.specs.Regions.{IsCommon, is_seam}
use Rattle.sb_model.specs.declared.boundary.Boundary.{Boundary}
use Rattle.sb_model.specs.declared.patches.patch.Patch.{Patch}
use Rattle.sb_model.specs.Building.{Building}
use Rattle.sb_model.specs.PlanEdges.{is_abscissa}
use Rattle.sb_model.specs.Surfaces.Faces.{Surface}
use Rattle.sb_model.specs.Surfaces.Patches.{region_of, surface_at}
use Rattle.theory_lists.specs.Members.{AllOfTwo}

-- two patches of one face
pub record AreTrimmed (m : Building) (p q : Patch) : Type 0 where
  -- on no line u = constant that is no abscissa of the face's direction have their closures a
  -- common point
  pub apart : (f : Surface) → surface_at m p.face ≡ Some f
      → (u v : Arrow) → IsRational u → is_abscissa m f.across u ≡ false
      → IsCommon (region_of p) (region_of q) u v → ⊥
  -- and they share no whole side of positive length on a line u = constant with the same lower and
  -- the same upper side, whichever of them begins there
  pub first_before : is_seam (region_of p) (region_of q) ≡ false
  pub second_before : is_seam (region_of q) (region_of p) ≡ false

-- the top-level patches of a list are trimmed: this holds of each two places of one face with equal
-- walks. Walks are equal where items, depth and end are
abbrev pub AreTopsTrimmed : Building → List Boundary → Type 0
AreTopsTrimmed m list =
    AllOfTwo
    (λ b c. b.parent ≡ None → c.parent ≡ None → b.patch.face ≡ c.patch.face → b.walk ≡ c.walk
    → AreTrimmed m b.patch c.patch)
    list
