-- The laws of faces.

use Rattle.std.specs.Prelude.{◌≡◌, ◌↔◌, ◌⊎◌, true, List, Some, IsPermutation, IsTrue}
use Rattle.std.specs.List.{AllByRecursion}
use Rattle.theory_numbers.specs.Arrows.{Arrow}
use Rattle.theory_numbers.specs.Rationals.{IsRational, IsBelow}
use Rattle.theory_plane.specs.Sides.{LineSide, IsLineSide}
use Rattle.theory_patches.specs.Sheets.{IsOffCuts}
use Rattle.theory_patches.specs.Trimmed.{AreApart, HaveNoSeam}
use Rattle.sb_fraction.specs.Spots.{Spot, IsSpot, Vector}
use Rattle.sb_model.specs.declared.boundary.Cell.{Cell}
use Rattle.sb_model.specs.declared.faces.face.FaceKind.{FaceKind}
use Rattle.sb_model.specs.declared.faces.face.FaceKind.TheVariants as kind
use Rattle.sb_model.specs.declared.patches.patch.Patch.{Patch}
use Rattle.sb_model.specs.declared.products.Space.{Space}
use Rattle.sb_model.specs.Solids.{Upright}
use Rattle.sb_model.specs.Building.{Building, is_building}
use Rattle.sb_model.specs.Surfaces.FineCells.{AreNeighbours}
use Rattle.sb_model.specs.Surfaces.Faces.{Surface, surface_of, is_in_plane, is_of_face, on_face}
use Rattle.sb_model.specs.Surfaces.PlainPoints.{is_plain}
use Rattle.sb_model.specs.Surfaces.Patches.{region_of, is_in_patch, surface_at}
use Rattle.sb_model.specs.Boundaries.Trimmed.{AreTrimmed}
use Rattle.theory_faces.specs.Sheets.{sheet_along, sheet_over, IsOverSlab}
use Rattle.theory_faces.specs.Strips.{Strip, strips_of, runs_of_calls}
use Rattle.theory_faces.specs.Chains.{chains, AreInOrder}
use Rattle.theory_faces.specs.Joinable.{AreJoinable, AreJoined}

-- ---- sheets

-- the one bridge between trimmed of the model and trimmed of the theory of patches: two patches of
-- a face that is read along d are trimmed exactly where they are apart and without a seam on the
-- sheet of the abscissae of d
abbrev pub HasOneTrimmed : Type 0
HasOneTrimmed =
    (m : Building) (d : Vector) (p q : Patch) (f : Surface) → surface_at m p.face ≡ Some f
    → f.across ≡ d
    → AreTrimmed m p q
    ↔ (AreApart (sheet_along m d) (region_of p) (region_of q)
    × HaveNoSeam (region_of p) (region_of q))

-- over a slab, a point of a face is plain exactly where it is off the cuts of the face there. The
-- line of an edge cuts Bottom and Top only over slabs that the edge spans: beyond its ends a plain
-- point may lie on it
abbrev pub HasPlainOffCuts : Type 0
HasPlainOffCuts =
    (m : Building) (s : Upright) (k : FaceKind) (f : Surface) (low high : Arrow) (p : Spot)
    → surface_of s k ≡ Some f → IsRational low → IsRational high → IsBelow low high
    → AreNeighbours m f.across low high → IsSpot p → IsOverSlab f low high p
    → is_of_face s k p ≡ true
    → (is_plain m s k p ≡ true) ↔ IsOffCuts (sheet_over m k f.across low high) (on_face f p)

-- a patch of Bottom or Top whose points off finitely many abscissae and sides are plain lies inside
-- the loops of its space
abbrev pub HasLevelRegionInside : Type 0
HasLevelRegionInside =
    (m : Building) (s : Space) (k : FaceKind) (f : Surface) (c : Patch) (abscissae : List Arrow)
    (cuts : List LineSide) → (k ≡ kind.Bottom) ⊎ (k ≡ kind.Top) → surface_of s.prism k ≡ Some f
    → AllByRecursion IsRational abscissae → AllByRecursion IsLineSide cuts
    → ((p : Spot) → IsSpot p → is_in_plane f p ≡ true → is_in_patch f c p ≡ true
    → IsOffCuts (record { abscissae = abscissae; cuts = cuts }) (on_face f p)
    → is_plain m s.prism k p ≡ true)
    → (p : Spot) → IsSpot p → is_in_plane f p ≡ true → is_in_patch f c p ≡ true
    → is_of_face s.prism k p ≡ true

-- ---- cells

-- whoever puts the runs of all cells in order and carries each on with the next has the trimmed
-- patches, in whatever order they are listed, for each model for which the cells are joinable
abbrev pub HasJoinedCells : Type 0
HasJoinedCells =
    (m : Building) (d : Vector) (calls : List (List Cell)) (runs : List Strip)
    (answer : List Cell)
    → IsTrue (is_building m) → AreJoinable m d calls → IsPermutation (runs_of_calls calls) runs
    → AreInOrder runs → IsPermutation (chains runs) (strips_of answer)
    → AreJoined m calls answer
