-- A sheet: the plane of a face with its abscissae, its cuts and its plain points.
use Rattle.std.specs.Prelude.{◌≡◌, ◌↔◌, true, false, List}
use Rattle.std.specs.List.{AllByRecursion}
use Rattle.theory_numbers.specs.Arrows.{Arrow}
use Rattle.theory_numbers.specs.Rationals.{IsRational, IsSame}
use Rattle.theory_plane.specs.Sides.{LineSide, IsLineSide}
use Rattle.theory_plane.specs.Points.{FacePoint, IsFacePoint, abscissa_of, is_on_side}
use Rattle.theory_plane.specs.Regions.{is_inside}
use Rattle.theory_lists.specs.Members.{Stands}
use Rattle.theory_patches.specs.Marked.{MarkedPatch}

-- the abscissae are the numbers u at whose lines patches may end and touch; the cuts are sides on
-- which points need not be plain
pub record Sheet : Type 0 where
  pub abscissae : List Arrow
  pub cuts : List LineSide

-- the abscissae are rational numbers, the cuts lines of positive first part
pub record IsSheet (sheet : Sheet) : Type 0 where
  pub abscissae_in : AllByRecursion IsRational sheet.abscissae
  pub cuts_in : AllByRecursion IsLineSide sheet.cuts

-- u is none of the abscissae
abbrev pub IsNoAbscissa : Sheet → Arrow → Type 0
IsNoAbscissa sheet u = AllByRecursion (λ abscissa. IsSame abscissa u → ⊥) sheet.abscissae

-- the point lies on no cut, and its u is no abscissa
pub record IsOffCuts (sheet : Sheet) (point : FacePoint) : Type 0 where
  pub no_abscissa : IsNoAbscissa sheet (abscissa_of point)
  pub no_cut : AllByRecursion (λ cut. is_on_side cut point ≡ false) sheet.cuts

-- a patch of the list with this mark contains the point
abbrev pub IsMarkedAt : {M : Type 0} → List (MarkedPatch M) → FacePoint → M → Type 0
IsMarkedAt {M} ps point mark =
    (p : MarkedPatch M) × Stands p ps × (p.mark ≡ mark) × (is_inside p.region point ≡ true)

-- off cuts: what a patch of the list contains is plain, but for points on cuts and abscissae
abbrev pub ArePlainOffCuts : {M : Type 0} → Sheet → (FacePoint → Type 0) → List (MarkedPatch M)
    → Type 0
ArePlainOffCuts {M} sheet IsPlain ps =
    (point : FacePoint) → IsFacePoint point → IsOffCuts sheet point
    → (mark : M) → IsMarkedAt ps point mark → IsPlain point

-- same marks: both lists put the same plain points under the same marks
abbrev pub HaveSameMarks : {M : Type 0} → (FacePoint → Type 0) → List (MarkedPatch M)
    → List (MarkedPatch M) → Type 0
HaveSameMarks {M} IsPlain ps qs =
    (point : FacePoint) → IsFacePoint point → IsPlain point
    → (mark : M) → IsMarkedAt ps point mark ↔ IsMarkedAt qs point mark
