-- There is one list that is joined up to an abscissa, up to order: by the law of patches, where the
-- points before the abscissa that are off the cuts are the plain ones.
use Rattle.std.proofs.Common.{List, IsPermutation}
use Rattle.theory_numbers.specs.Arrows.{Arrow}
use Rattle.theory_numbers.specs.Rationals.{IsRational, IsBelow}
use Rattle.theory_plane.specs.Points.{FacePoint, abscissa_of}
use Rattle.theory_lists.specs.Members.{Stands}
use Rattle.theory_lists.proofs.Members.{all_stands}
use Rattle.theory_patches.specs.Marked.{MarkedPatch}
use Rattle.theory_patches.specs.Sheets.{Sheet, IsSheet, IsOffCuts}
use Rattle.theory_patches.specs.Laws.{CoverAlike}
use Rattle.theory_patches.proofs.OneList.{one_list_of_patches}
use Rattle.theory_joining.specs.Joined.{IsJoinedUpTo}
use Rattle.theory_joining.specs.Laws.{Passes, HasOneJoin}
use Rattle.theory_joining.proofs.MarksBefore.{joined_ends}
use Rattle.theory_joining.proofs.JoinedIsTrimmed.{joined_is_trimmed}

module _ {M : Type 0} (sheet : Sheet) (Has : FacePoint → M → Type 0) where
  -- the points that the law is asked about
  record IsAskedAbout (cur : Arrow) (point : FacePoint) : Type 0 where
    pub off : IsOffCuts sheet point
    pub before : IsBelow (abscissa_of point) cur

  -- two lists that are joined up to one abscissa
  joined_alike : IsSheet sheet → (cur : Arrow) → Stands cur sheet.abscissae
      → (ps qs : List (MarkedPatch M)) → IsJoinedUpTo sheet Has cur ps
      → IsJoinedUpTo sheet Has cur qs → CoverAlike sheet (IsAskedAbout cur) ps qs
  joined_alike sheet_in cur listed ps qs first second =
      record {
        sheet_in = sheet_in;
        first = joined_is_trimmed sheet Has cur listed ps first;
        second = joined_is_trimmed sheet Has cur listed qs second;
        first_plain =
            λ point point_in off mark marked.
            record {
              off = off;
              before = joined_ends sheet Has cur cur_in ps first point point_in mark marked;
            };
        second_plain =
            λ point point_in off mark marked.
            record {
              off = off;
              before = joined_ends sheet Has cur cur_in qs second point point_in mark marked;
            };
        same_marks =
            λ point point_in asked mark.
            let here = first.marks point point_in asked.off asked.before mark in
            let there = second.marks point point_in asked.off asked.before mark in
            (λ marked. there.1 (here.0 marked), λ marked. here.1 (there.0 marked));
      }
    where
      cur_in : IsRational cur
      cur_in = all_stands IsRational cur sheet.abscissae sheet_in.abscissae_in listed

  -- are one list
  pub joined_is_one : IsSheet sheet → (cur : Arrow) → Stands cur sheet.abscissae
      → (ps qs : List (MarkedPatch M)) → IsJoinedUpTo sheet Has cur ps
      → IsJoinedUpTo sheet Has cur qs → IsPermutation ps qs
  joined_is_one sheet_in cur listed ps qs first second =
      one_list_of_patches sheet (IsAskedAbout cur) ps qs
      (joined_alike sheet_in cur listed ps qs first second)

-- as the contract has it
pub has_one_join : (M : Type 0) → HasOneJoin M
has_one_join M sheet has cur ps qs sheet_in listed first second =
    joined_is_one sheet (Passes has) sheet_in cur listed ps qs first second
