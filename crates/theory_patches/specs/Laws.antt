-- The law of patches.
use Rattle.std.specs.Prelude.{◌↔◌, Bool, IsTrue, List, IsPermutation}
use Rattle.theory_plane.specs.Points.{FacePoint}
use Rattle.theory_lists.specs.Members.{Stands}
use Rattle.theory_patches.specs.Marked.{MarkedPatch}
use Rattle.theory_patches.specs.Sheets.{Sheet, IsSheet, ArePlainOffCuts, HaveSameMarks}
use Rattle.theory_patches.specs.Trimmed.{IsTrimmedList}

-- what the law takes for granted: two trimmed lists of patches on one sheet, all of whose points
-- are plain off the cuts, and which put the same plain points under the same marks
pub record CoverAlike {M : Type 0} (sheet : Sheet) (IsPlain : FacePoint → Type 0)
    (ps qs : List (MarkedPatch M)) : Type 0 where
  pub sheet_in : IsSheet sheet
  pub first : IsTrimmedList sheet ps
  pub second : IsTrimmedList sheet qs
  pub first_plain : ArePlainOffCuts sheet IsPlain ps
  pub second_plain : ArePlainOffCuts sheet IsPlain qs
  pub same_marks : HaveSameMarks IsPlain ps qs

-- the patches of one list stand in the other with their marks, and the other way round
abbrev pub HaveSamePatches : {M : Type 0} → List (MarkedPatch M) → List (MarkedPatch M) → Type 0
HaveSamePatches {M} ps qs = (p : MarkedPatch M) → Stands p ps ↔ Stands p qs

-- the law of patches: such lists hold the same patches with the same marks
abbrev pub HasLawOfPatches : Type 0 → Type 0
HasLawOfPatches M =
    (sheet : Sheet) (is_plain : FacePoint → Bool) (ps qs : List (MarkedPatch M))
    → CoverAlike sheet (λ point. IsTrue (is_plain point)) ps qs
    → HaveSamePatches ps qs

-- and each as often: the one is the other in another order
abbrev pub HasOneListOfPatches : Type 0 → Type 0
HasOneListOfPatches M =
    (sheet : Sheet) (is_plain : FacePoint → Bool) (ps qs : List (MarkedPatch M))
    → CoverAlike sheet (λ point. IsTrue (is_plain point)) ps qs
    → IsPermutation ps qs
