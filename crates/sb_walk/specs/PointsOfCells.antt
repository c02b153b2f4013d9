-- The plain points of fine cells of Bottom and Top.

use Rattle.std.specs.Prelude.{◌≡◌, Bool, true, false, Some}
use Rattle.sb_fraction.specs.Spots.{Spot, IsSpot, Vector}
use Rattle.sb_model.specs.declared.faces.face.FaceKind.{FaceKind}
use Rattle.sb_model.specs.declared.faces.face.FaceKind.TheVariants as kind
use Rattle.sb_model.specs.declared.patches.patch.Patch.{Patch}
use Rattle.sb_model.specs.declared.products.Space.{Space}
use Rattle.sb_model.specs.Building.{Building}
use Rattle.sb_model.specs.Surfaces.Faces.{Surface, surface_of, space_numbered}
use Rattle.sb_model.specs.Surfaces.FineCells.{IsFineCell}
use Rattle.sb_model.specs.Surfaces.Patches.{is_in_patch}
use Rattle.sb_model.specs.Surfaces.PlainPoints.{is_plain}

-- Bottom and Top
abbrev pub is_level : FaceKind → Bool
is_level kind.Bottom = true
is_level kind.Top = true
is_level (kind.Side k) = false

-- a plain point of the face of a space, in a patch of it
pub record IsPlainIn (m : Building) (s : Space) (f : Surface) (p : Patch) (point : Spot)
    : Type 0 where
  pub positive : IsSpot point
  pub plain : is_plain m s.prism p.face.kind point ≡ true
  pub inside : is_in_patch f p point ≡ true

-- each fine cell of Bottom and Top has a plain point
abbrev pub HasPlainPoints : Type 0
HasPlainPoints =
    (m : Building) (d : Vector) (p : Patch) → IsFineCell m d p → is_level p.face.kind ≡ true
    → (s : Space) → space_numbered m p.face.space ≡ Some s → (f : Surface)
    → surface_of s.prism p.face.kind ≡ Some f
    → (point : Spot) × IsPlainIn m s f p point
