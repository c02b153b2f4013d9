-- The laws of joining.
use Rattle.std.specs.Prelude.{◌≡◌, Bool, IsTrue, Decides, List, [], ◌++◌, IsPermutation}
use Rattle.std.specs.List.{AllByRecursion}
use Rattle.theory_numbers.specs.Arrows.{Arrow}
use Rattle.theory_plane.specs.Points.{FacePoint}
use Rattle.theory_lists.specs.Members.{Stands}
use Rattle.theory_patches.specs.Marked.{MarkedPatch}
use Rattle.theory_patches.specs.Sheets.{Sheet, IsSheet}
use Rattle.theory_patches.specs.Trimmed.{IsTrimmedList}
use Rattle.theory_joining.specs.Runs.{IsSlab, AreRunsOver}
use Rattle.theory_joining.specs.Joined.{IsJoinedUpTo}
use Rattle.theory_joining.specs.Put.{put_all, ArePutTo}
use Rattle.theory_joining.specs.Cells.{AreCellsOver, runs_of, merge}
use Rattle.theory_joining.specs.Slabs.{SlabRuns, AreRunsOfSlab, Follow, join, IsJoinOf}

-- the test tells whether two marks are equal
abbrev pub TellsEqual : {M : Type 0} → (M → M → Bool) → Type 0
TellsEqual {M} same = (v w : M) → Decides (same v w) (v ≡ w)

-- the relation of a test
abbrev pub Passes : {M : Type 0} → (FacePoint → M → Bool) → FacePoint → M → Type 0
Passes has point mark = IsTrue (has point mark)

-- the step: what is joined up to the beginning of a slab is joined up to its end once its runs are
-- put to it
abbrev pub HasStep : Type 0 → Type 0
HasStep M =
    (sheet : Sheet) (has : FacePoint → M → Bool) (same : M → M → Bool) (cur next : Arrow)
    (ps rs : List (MarkedPatch M))
    → IsSheet sheet → TellsEqual same → IsSlab sheet cur next
    → IsJoinedUpTo sheet (Passes has) cur ps → AreRunsOver sheet (Passes has) cur next rs
    → IsJoinedUpTo sheet (Passes has) next (put_all same rs ps)

-- and whatever order the patches stand in after each put
abbrev pub HasStepInAnyOrder : Type 0 → Type 0
HasStepInAnyOrder M =
    (sheet : Sheet) (has : FacePoint → M → Bool) (same : M → M → Bool) (cur next : Arrow)
    (ps rs qs : List (MarkedPatch M))
    → IsSheet sheet → TellsEqual same → IsSlab sheet cur next
    → IsJoinedUpTo sheet (Passes has) cur ps → AreRunsOver sheet (Passes has) cur next rs
    → ArePutTo same rs ps qs → IsJoinedUpTo sheet (Passes has) next qs

-- what is joined up to an abscissa is trimmed
abbrev pub HasTrimmedEnd : Type 0 → Type 0
HasTrimmedEnd M =
    (sheet : Sheet) (has : FacePoint → M → Bool) (cur : Arrow) (ps : List (MarkedPatch M))
    → Stands cur sheet.abscissae → IsJoinedUpTo sheet (Passes has) cur ps
    → IsTrimmedList sheet ps

-- and there is one such list: of two the one is the other in another order
abbrev pub HasOneJoin : Type 0 → Type 0
HasOneJoin M =
    (sheet : Sheet) (has : FacePoint → M → Bool) (cur : Arrow) (ps qs : List (MarkedPatch M))
    → IsSheet sheet → Stands cur sheet.abscissae → IsJoinedUpTo sheet (Passes has) cur ps
    → IsJoinedUpTo sheet (Passes has) cur qs → IsPermutation ps qs

-- the runs of the cells of a slab are the runs of the slab
abbrev pub HasRunsOfCells : Type 0 → Type 0
HasRunsOfCells M =
    (sheet : Sheet) (has : FacePoint → M → Bool) (same : M → M → Bool) (cur next : Arrow)
    (cs : List (MarkedPatch M))
    → TellsEqual same → AreCellsOver sheet (Passes has) cur next cs
    → AreRunsOver sheet (Passes has) cur next (runs_of same cs)

-- the runs of two stretches of cells are merged
abbrev pub HasMerge : Type 0 → Type 0
HasMerge M =
    (same : M → M → Bool) (cs ds : List (MarkedPatch M)) → TellsEqual same
    → runs_of same (cs ++ ds) ≡ merge same (runs_of same cs) (runs_of same ds)

-- slab after slab: joining leaves a trimmed list with the marks of the runs
abbrev pub HasJoin : Type 0 → Type 0
HasJoin M =
    (sheet : Sheet) (same : M → M → Bool) (first end : Arrow) (slabs : List (SlabRuns M))
    → IsSheet sheet → TellsEqual same → AllByRecursion (AreRunsOfSlab sheet) slabs
    → Follow first slabs end → Stands end sheet.abscissae
    → IsJoinOf sheet slabs (join same slabs [])
