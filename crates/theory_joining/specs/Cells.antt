-- Runs from cells: over one slab neighbouring cells of one mark become one run.
use Rattle.std.specs.Prelude.{◌≡◌, ◌⊎◌, pos, ◌<ℤ◌, Bool, true, ◌&&◌, if◌then◌else◌}
use Rattle.std.specs.Prelude.{List, [], ◌∷◌}
use Rattle.std.specs.List.{AllByRecursion}
use Rattle.theory_numbers.specs.Arrows.{Arrow}
use Rattle.theory_numbers.specs.Rationals.{IsRational, IsBelow}
use Rattle.theory_plane.specs.Sides.{LineSide, clearance_at, is_same_side}
use Rattle.theory_plane.specs.Points.{FacePoint, IsFacePoint, is_on_side}
use Rattle.theory_lists.specs.Members.{AllOfTwo}
use Rattle.theory_patches.specs.Marked.{MarkedPatch}
use Rattle.theory_patches.specs.Sheets.{Sheet, IsOffCuts}
use Rattle.theory_joining.specs.Runs.{IsRunOver, IsInSlab, HasItsMarks}

-- l is below m everywhere strictly inside the slab
abbrev pub IsClearOver : Arrow → Arrow → LineSide → LineSide → Type 0
IsClearOver cur next l m =
    (u : Arrow) → IsRational u → IsBelow cur u → IsBelow u next → pos 0 <ℤ clearance_at l m u

-- the first lies under the second: its upper side is the other's lower side, or is below it
abbrev pub IsUnder : {M : Type 0} → Arrow → Arrow → MarkedPatch M → MarkedPatch M → Type 0
IsUnder cur next c d =
    (c.region.upper ≡ d.region.lower) ⊎ IsClearOver cur next c.region.upper d.region.lower

-- no point of the side is off the cuts
abbrev pub IsOfCuts : Sheet → LineSide → Type 0
IsOfCuts sheet side =
    (point : FacePoint) → IsFacePoint point → IsOffCuts sheet point
    → is_on_side side point ≡ true → ⊥

-- the cells of a slab, each under all that follow, their upper sides on cuts: off the cuts a point
-- of the slab lies in a cell of a mark exactly where it has that mark
pub record AreCellsOver {M : Type 0} (sheet : Sheet) (Has : FacePoint → M → Type 0)
    (cur next : Arrow) (cs : List (MarkedPatch M)) : Type 0 where
  pub cells : AllByRecursion (λ c. IsRunOver cur next c.region) cs
  pub rising : AllOfTwo (IsUnder cur next) cs
  pub inner_lines : AllByRecursion (λ c. IsOfCuts sheet c.region.upper) cs
  pub marks : (point : FacePoint) → IsFacePoint point → IsOffCuts sheet point
      → IsInSlab cur next point → HasItsMarks Has cs point

-- the two are neighbours of one mark: the upper side of the first is the lower side of the second
abbrev pub is_one_run : {M : Type 0} → (M → M → Bool) → MarkedPatch M → MarkedPatch M → Bool
is_one_run same c d = is_same_side c.region.upper d.region.lower && same c.mark d.mark

-- the two in one: the first raised to the upper side of the second
abbrev pub raised : {M : Type 0} → MarkedPatch M → MarkedPatch M → MarkedPatch M
raised c d =
    record {
      region =
          record {
            low = c.region.low;
            high = c.region.high;
            lower = c.region.lower;
            upper = d.region.upper;
          };
      mark = c.mark;
    }

-- a cell is laid under the runs above it
abbrev pub lay_under : {M : Type 0} → (M → M → Bool) → MarkedPatch M → List (MarkedPatch M)
    → List (MarkedPatch M)
lay_under same c [] = c ∷ []
lay_under same c (r ∷ rs) = if is_one_run same c r then raised c r ∷ rs else c ∷ r ∷ rs

-- the runs of cells that are listed from the lowest to the highest
abbrev pub runs_of : {M : Type 0} → (M → M → Bool) → List (MarkedPatch M) → List (MarkedPatch M)
runs_of same [] = []
runs_of same (c ∷ cs) = lay_under same c (runs_of same cs)

-- two stretches of runs, the second above the first: the highest of the first may go on with the
-- lowest of the second
abbrev pub merge : {M : Type 0} → (M → M → Bool) → List (MarkedPatch M) → List (MarkedPatch M)
    → List (MarkedPatch M)
merge same [] ss = ss
merge same (r ∷ []) ss = lay_under same r ss
merge same (r ∷ q ∷ rs) ss = r ∷ merge same (q ∷ rs) ss
