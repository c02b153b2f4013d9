-- Slab after slab: the whole of joining, from the first slab to the last.
use Rattle.std.specs.Prelude.{◌≡◌, ◌↔◌, Bool, List, [], ◌∷◌, ◌++◌}
use Rattle.std.specs.List.{AllByRecursion}
use Rattle.theory_numbers.specs.Arrows.{Arrow}
use Rattle.theory_plane.specs.Points.{FacePoint, IsFacePoint}
use Rattle.theory_lists.specs.Members.{AllOfTwo}
use Rattle.theory_patches.specs.Marked.{MarkedPatch}
use Rattle.theory_patches.specs.Sheets.{Sheet, IsOffCuts, IsMarkedAt}
use Rattle.theory_patches.specs.Trimmed.{IsTrimmedList}
use Rattle.theory_joining.specs.Runs.{IsSlab, IsRunOver, AreApartIfAlike}
use Rattle.theory_joining.specs.Put.{put_all}

-- a slab with its runs. A slab that was left out has none
pub record SlabRuns (M : Type 0) : Type 0 where
  pub low : Arrow
  pub high : Arrow
  pub runs : List (MarkedPatch M)

-- it is a slab, and they are runs over it, of one mark never touching inside
pub record AreRunsOfSlab {M : Type 0} (sheet : Sheet) (s : SlabRuns M) : Type 0 where
  pub slab : IsSlab sheet s.low s.high
  pub runs : AllByRecursion (λ r. IsRunOver s.low s.high r.region) s.runs
  pub apart : AllOfTwo (AreApartIfAlike sheet) s.runs

-- the slabs follow each other, from the first number to the last
abbrev pub Follow : {M : Type 0} → Arrow → List (SlabRuns M) → Arrow → Type 0
Follow first [] end = first ≡ end
Follow first (s ∷ slabs) end = (s.low ≡ first) × Follow s.high slabs end

-- the runs of all slabs
abbrev pub all_runs : {M : Type 0} → List (SlabRuns M) → List (MarkedPatch M)
all_runs [] = []
all_runs (s ∷ slabs) = s.runs ++ all_runs slabs

-- the runs of slab after slab are put to a list
abbrev pub join : {M : Type 0} → (M → M → Bool) → List (SlabRuns M) → List (MarkedPatch M)
    → List (MarkedPatch M)
join same [] ps = ps
join same (s ∷ slabs) ps = join same slabs (put_all same s.runs ps)

-- a list is the join of the slabs: it is trimmed, and off the cuts it puts each point under the
-- marks of the runs that contain it
pub record IsJoinOf {M : Type 0} (sheet : Sheet) (slabs : List (SlabRuns M))
    (ps : List (MarkedPatch M)) : Type 0 where
  pub trimmed : IsTrimmedList sheet ps
  pub marks : (point : FacePoint) → IsFacePoint point → IsOffCuts sheet point → (mark : M)
      → IsMarkedAt ps point mark ↔ IsMarkedAt (all_runs slabs) point mark
