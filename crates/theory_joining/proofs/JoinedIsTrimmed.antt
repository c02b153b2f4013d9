-- What is joined up to an abscissa is trimmed: all its patches begin and end at abscissae, and what
-- touches at a number that is none touches strictly inside.
use Rattle.std.proofs.Common.{◌≡◌, sym, subst, inl, inr, ◌⊎◌, pos, ◌&&◌, List, [], ◌∷◌}
use Rattle.std.proofs.lemmas.Bool.{and_parts}
use Rattle.std.specs.List.{AllByRecursion}
use Rattle.theory_numbers.specs.Arrows.{Arrow}
use Rattle.theory_numbers.specs.Rationals.{IsBelow, IsAtMost, IsSame}
use Rattle.theory_numbers.proofs.Signs.{at_most_from}
use Rattle.theory_numbers.proofs.Fractions.Rationals.{number_cases, same_sym, below_clash}
use Rattle.theory_plane.specs.Sides.{clearance_at}
use Rattle.theory_plane.specs.Points.{FacePoint}
use Rattle.theory_plane.specs.Regions.{Region, IsInClosure, is_reached, reaches_under}
use Rattle.theory_plane.proofs.Closures.{test_from_common}
use Rattle.theory_lists.specs.Members.{Stands, AllOfTwo}
use Rattle.theory_lists.proofs.Members.{all_stands, all_follow, all_both}
use Rattle.theory_patches.specs.Marked.{MarkedPatch, IsPatch}
use Rattle.theory_patches.specs.Sheets.{Sheet, IsNoAbscissa}
use Rattle.theory_patches.specs.Trimmed.{AreApart, IsTrimmed, IsTrimmedList}
use Rattle.theory_patches.specs.Trimmed.{IsOver, AreSpaced}
use Rattle.theory_joining.specs.Joined.{IsPatchUpTo, AreSpacedIfAlike, IsJoinedUpTo}
use Rattle.theory_joining.specs.Laws.{Passes, HasTrimmedEnd}

module _ (sheet : Sheet) where
  -- a patch that begins and ends at an abscissa
  pub record HasListedEnds (p : Region) : Type 0 where
    pub patch : IsPatch p
    pub begins : Stands p.low sheet.abscissae
    pub ends : Stands p.high sheet.abscissae

  -- what is at most another number and not the same is below it
  below_if_other : (r s : Arrow) → IsAtMost r s → (IsSame r s → ⊥) → IsBelow r s
  below_if_other r s low other = from (number_cases r s)
    where
      from : (IsBelow r s ⊎ IsSame r s) ⊎ IsBelow s r → IsBelow r s
      from (inl (inl below)) = below
      from (inl (inr same)) = absurd (other same)
      from (inr beyond) = absurd (below_clash s r beyond low)

  -- a number that is no abscissa and in its closure lies strictly between its ends
  over_if_off : (p : Region) → HasListedEnds p → (u v : Arrow) → IsNoAbscissa sheet u
      → IsInClosure p u v → IsOver p u
  over_if_off p p_in u v off closed =
      record {
        after =
            below_if_other p.low u closed.after
            (all_stands (λ a. IsSame a u → ⊥) p.low sheet.abscissae off p_in.begins);
        before =
            below_if_other u p.high closed.before
            (λ same.
            all_stands (λ a. IsSame a u → ⊥) p.high sheet.abscissae off p_in.ends
            (same_sym u p.high same));
      }

  -- spaced is apart where all ends are abscissae
  pub apart_if_spaced : (p q : Region) → HasListedEnds p → HasListedEnds q → AreSpaced sheet p q
      → AreApart sheet p q
  apart_if_spaced p q p_in q_in spaced u v u_in off common =
      let meet = test_from_common p q u v p_in.patch.region q_in.patch.region u_in common in
      let parts =
      and_parts (is_reached p u && is_reached q u) (reaches_under p q u && reaches_under q p u) meet
      in
      let sides = and_parts (reaches_under p q u) (reaches_under q p u) parts.1 in
      spaced.apart u u_in off (over_if_off p p_in u v off common.first)
      (over_if_off q q_in u v off common.second)
      (at_most_from (pos 0) (clearance_at p.lower q.upper u) sides.0)
      (at_most_from (pos 0) (clearance_at q.lower p.upper u) sides.1)

  -- so a spaced list is trimmed
  pub trimmed_if_spaced : {M : Type 0} (ps : List (MarkedPatch M))
      → AllByRecursion (λ p. HasListedEnds p.region) ps → AllOfTwo (AreSpacedIfAlike sheet) ps
      → IsTrimmed sheet ps
  trimmed_if_spaced [] ends spaced = tt
  trimmed_if_spaced (p ∷ ps) ends spaced = (
    all_follow
        (λ q both.
        record {
          apart =
              λ alike.
              apart_if_spaced p.region q.region ends.0 both.0 (both.1 alike);
          no_seam = λ alike. (both.1 alike).no_seam;
        })
        ps (all_both _ _ ps ends.1 spaced.0),
    trimmed_if_spaced ps ends.1 spaced.1,
  )

  -- a patch up to an abscissa ends at one
  ends_listed : (cur : Arrow) → Stands cur sheet.abscissae → (p : Region)
      → IsPatchUpTo sheet cur p → HasListedEnds p
  ends_listed cur listed p p_in =
      record { patch = p_in.patch; begins = p_in.begins; ends = from p_in.ends }
    where
      from : (p.high ≡ cur) ⊎ Stands p.high sheet.abscissae → Stands p.high sheet.abscissae
      from (inl at_cur) = subst (λ n. Stands n sheet.abscissae) (sym at_cur) listed
      from (inr there) = there

  -- what is joined up to an abscissa is trimmed
  pub joined_is_trimmed : {M : Type 0} (Has : FacePoint → M → Type 0) (cur : Arrow)
      → Stands cur sheet.abscissae → (ps : List (MarkedPatch M)) → IsJoinedUpTo sheet Has cur ps
      → IsTrimmedList sheet ps
  joined_is_trimmed Has cur listed ps joined =
      record {
        patches = all_follow (λ p p_in. p_in.patch) ps joined.patches;
        trimmed =
            trimmed_if_spaced ps
            (all_follow (λ p p_in. ends_listed cur listed p.region p_in) ps joined.patches)
            joined.spaced;
      }

-- as the contract has it
pub has_trimmed_end : (M : Type 0) → HasTrimmedEnd M
has_trimmed_end M sheet has cur ps listed joined =
    joined_is_trimmed sheet (Passes has) cur listed ps joined
