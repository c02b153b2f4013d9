-- Joined up to a number speaks of what lies before it alone: it begins with nothing, it marks
-- nothing beyond, and other marks beyond change nothing.
use Rattle.std.proofs.Common.{◌↔◌, List, []}
use Rattle.theory_numbers.specs.Arrows.{Arrow}
use Rattle.theory_numbers.specs.Rationals.{IsRational, IsBelow}
use Rattle.theory_numbers.proofs.Fractions.Rationals.{below_at_most_trans}
use Rattle.theory_plane.specs.Points.{FacePoint, IsFacePoint, abscissa_of}
use Rattle.theory_lists.proofs.Members.{all_stands}
use Rattle.theory_patches.specs.Marked.{MarkedPatch}
use Rattle.theory_patches.specs.Sheets.{Sheet, IsOffCuts, IsMarkedAt}
use Rattle.theory_patches.proofs.MarkedAt.{none_marked}
use Rattle.theory_joining.specs.Runs.{IsInSlab, AreRunsOver}
use Rattle.theory_joining.specs.Joined.{IsPatchUpTo, IsJoinedUpTo}
use Rattle.theory_joining.proofs.MarksOfPut.{inside_parts}

module _ {M : Type 0} (sheet : Sheet) (Has : FacePoint → M → Type 0) where
  -- where no point has a mark before a number, nothing is joined up to it
  pub joined_from_nothing : (cur : Arrow)
      → ((point : FacePoint) → IsFacePoint point → IsOffCuts sheet point
      → IsBelow (abscissa_of point) cur → (mark : M) → Has point mark → ⊥)
      → IsJoinedUpTo sheet Has cur []
  joined_from_nothing cur none =
      record {
        patches = tt;
        spaced = tt;
        marks =
            λ point point_in off before mark. (
              λ marked. absurd (none_marked point mark marked),
              λ has. absurd (none point point_in off before mark has),
            );
      }

  -- a slab in which no point has a mark has no runs: so are read the slabs that are left out
  pub no_runs_over : (cur next : Arrow)
      → ((point : FacePoint) → IsFacePoint point → IsOffCuts sheet point
      → IsInSlab cur next point → (mark : M) → Has point mark → ⊥)
      → AreRunsOver sheet Has cur next []
  no_runs_over cur next none =
      record {
        runs = tt;
        apart = tt;
        marks =
            λ point point_in off inside mark. (
              λ marked. absurd (none_marked point mark marked),
              λ has. absurd (none point point_in off inside mark has),
            );
      }

  -- what is joined up to a number has no mark beyond it
  pub joined_ends : (cur : Arrow) → IsRational cur → (ps : List (MarkedPatch M))
      → IsJoinedUpTo sheet Has cur ps → (point : FacePoint) → IsFacePoint point → (mark : M)
      → IsMarkedAt ps point mark → IsBelow (abscissa_of point) cur
  joined_ends cur cur_in ps joined point point_in mark (p, stands, has_mark, inside) =
      let p_in =
      all_stands (λ q. IsPatchUpTo sheet cur q.region) p ps joined.patches stands
      in
      below_at_most_trans (abscissa_of point) p.region.high cur point_in
      p_in.patch.region.high_in cur_in (inside_parts p.region point inside).before p_in.within

-- what is joined up to a number for some marks is joined up to it for others that are the same
-- before it
pub joined_for_same_marks : {M : Type 0} (sheet : Sheet) (Has Had : FacePoint → M → Type 0)
    (cur : Arrow) (ps : List (MarkedPatch M))
    → ((point : FacePoint) → IsFacePoint point → IsOffCuts sheet point
    → IsBelow (abscissa_of point) cur → (mark : M) → Had point mark ↔ Has point mark)
    → IsJoinedUpTo sheet Had cur ps → IsJoinedUpTo sheet Has cur ps
joined_for_same_marks sheet Has Had cur ps same joined =
    record {
      patches = joined.patches;
      spaced = joined.spaced;
      marks =
          λ point point_in off before mark.
          let there = joined.marks point point_in off before mark in
          let alike = same point point_in off before mark in
          (λ marked. alike.0 (there.0 marked), λ has. there.1 (alike.1 has));
    }
