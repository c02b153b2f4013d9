-- Joined up to a number: the patches of all that a sheet has before it.
use Rattle.std.specs.Prelude.{◌≡◌, ◌⊎◌, List}
use Rattle.std.specs.List.{AllByRecursion}
use Rattle.theory_numbers.specs.Arrows.{Arrow}
use Rattle.theory_numbers.specs.Rationals.{IsBelow, IsAtMost}
use Rattle.theory_plane.specs.Points.{FacePoint, IsFacePoint, abscissa_of}
use Rattle.theory_plane.specs.Regions.{Region}
use Rattle.theory_lists.specs.Members.{Stands, AllOfTwo}
use Rattle.theory_patches.specs.Marked.{MarkedPatch, IsPatch}
use Rattle.theory_patches.specs.Sheets.{Sheet, IsOffCuts}
use Rattle.theory_patches.specs.Trimmed.{AreSpaced}
use Rattle.theory_joining.specs.Runs.{HasItsMarks}

-- a patch up to cur: it begins at an abscissa, and ends at one or at cur, but not beyond cur
pub record IsPatchUpTo (sheet : Sheet) (cur : Arrow) (p : Region) : Type 0 where
  pub patch : IsPatch p
  pub begins : Stands p.low sheet.abscissae
  pub ends : (p.high ≡ cur) ⊎ Stands p.high sheet.abscissae
  pub within : IsAtMost p.high cur

-- two of one mark touch nowhere inside and have no seam
abbrev pub AreSpacedIfAlike : {M : Type 0} → Sheet → MarkedPatch M → MarkedPatch M → Type 0
AreSpacedIfAlike sheet p q = p.mark ≡ q.mark → AreSpaced sheet p.region q.region

-- joined up to cur: the patches end there at the latest, those of one mark are spaced, and off the
-- cuts a point before cur lies in a patch of a mark exactly where it has that mark
pub record IsJoinedUpTo {M : Type 0} (sheet : Sheet) (Has : FacePoint → M → Type 0)
    (cur : Arrow) (ps : List (MarkedPatch M)) : Type 0 where
  pub patches : AllByRecursion (λ p. IsPatchUpTo sheet cur p.region) ps
  pub spaced : AllOfTwo (AreSpacedIfAlike sheet) ps
  pub marks : (point : FacePoint) → IsFacePoint point → IsOffCuts sheet point
      → IsBelow (abscissa_of point) cur → HasItsMarks Has ps point
