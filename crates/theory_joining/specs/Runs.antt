-- Runs over a slab: the patches that a sheet has from one number u to another, said by the points
-- that they contain.
use Rattle.std.specs.Prelude.{◌≡◌, ◌↔◌, pos, ◌≤ℤ◌, List}
use Rattle.std.specs.List.{AllByRecursion}
use Rattle.theory_numbers.specs.Arrows.{Arrow}
use Rattle.theory_numbers.specs.Rationals.{IsRational, IsBelow}
use Rattle.theory_plane.specs.Sides.{clearance_at}
use Rattle.theory_plane.specs.Points.{FacePoint, IsFacePoint, abscissa_of}
use Rattle.theory_plane.specs.Regions.{Region}
use Rattle.theory_lists.specs.Members.{Stands, AllOfTwo}
use Rattle.theory_patches.specs.Marked.{MarkedPatch, IsPatch}
use Rattle.theory_patches.specs.Sheets.{Sheet, IsNoAbscissa, IsOffCuts, IsMarkedAt}
use Rattle.theory_patches.specs.Trimmed.{IsOver}

-- a slab: it begins at an abscissa and ends at a greater number. Nothing is asked of its end
pub record IsSlab (sheet : Sheet) (cur next : Arrow) : Type 0 where
  pub begins : Stands cur sheet.abscissae
  pub end_in : IsRational next
  pub wide : IsBelow cur next

-- a run over the slab: a patch from its beginning to its end
pub record IsRunOver (cur next : Arrow) (r : Region) : Type 0 where
  pub patch : IsPatch r
  pub begins : r.low ≡ cur
  pub ends : r.high ≡ next

-- the two touch nowhere inside: at no u that is no abscissa and strictly between the ends of both
-- is each lower side at most the other's upper side
abbrev pub AreApartInside : Sheet → Region → Region → Type 0
AreApartInside sheet p q =
    (u : Arrow) → IsRational u → IsNoAbscissa sheet u → IsOver p u → IsOver q u
    → pos 0 ≤ℤ clearance_at p.lower q.upper u → pos 0 ≤ℤ clearance_at q.lower p.upper u → ⊥

-- the same of two of one mark
abbrev pub AreApartIfAlike : {M : Type 0} → Sheet → MarkedPatch M → MarkedPatch M → Type 0
AreApartIfAlike sheet p q = p.mark ≡ q.mark → AreApartInside sheet p.region q.region

-- the patches of the list that contain the point have exactly the marks that it has
abbrev pub HasItsMarks : {M : Type 0} → (FacePoint → M → Type 0) → List (MarkedPatch M) → FacePoint
    → Type 0
HasItsMarks {M} Has ps point = (mark : M) → IsMarkedAt ps point mark ↔ Has point mark

-- the point lies strictly inside the slab
pub record IsInSlab (cur next : Arrow) (point : FacePoint) : Type 0 where
  pub after : IsBelow cur (abscissa_of point)
  pub before : IsBelow (abscissa_of point) next

-- the runs over a slab: those of one mark touch nowhere inside, and off the cuts a point of the
-- slab lies in a run of a mark exactly where it has that mark
pub record AreRunsOver {M : Type 0} (sheet : Sheet) (Has : FacePoint → M → Type 0)
    (cur next : Arrow) (rs : List (MarkedPatch M)) : Type 0 where
  pub runs : AllByRecursion (λ r. IsRunOver cur next r.region) rs
  pub apart : AllOfTwo (AreApartIfAlike sheet) rs
  pub marks : (point : FacePoint) → IsFacePoint point → IsOffCuts sheet point
      → IsInSlab cur next point → HasItsMarks Has rs point
