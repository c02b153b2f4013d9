-- The law of patches: two spaced lists that cover alike hold the same patches; and so do two
-- trimmed lists that put the same plain points under the same marks.
use Rattle.std.proofs.Common.{◌≡◌, sym, ◌∙◌, subst, List, IsTrue}
use Rattle.std.proofs.Common.{IsPermutation}
use Rattle.theory_numbers.specs.Arrows.{Arrow}
use Rattle.theory_numbers.specs.Rationals.{IsAtMost}
use Rattle.theory_numbers.proofs.Fractions.Reduced.{fraction_unique}
use Rattle.theory_numbers.proofs.Fractions.Rationals.{same_from_at_most, at_most_refl, at_most_trans}
use Rattle.theory_numbers.proofs.Fractions.Rationals.{at_most_below_trans, below_at_most_trans}
use Rattle.theory_plane.specs.Sides.{LineSide}
use Rattle.theory_plane.specs.Points.{FacePoint}
use Rattle.theory_plane.specs.Regions.{Region}
use Rattle.theory_lists.specs.Members.{Stands}
use Rattle.theory_patches.specs.Marked.{MarkedPatch, IsPatch}
use Rattle.theory_patches.specs.Sheets.{Sheet}
use Rattle.theory_patches.specs.Laws.{CoverAlike, HaveSamePatches, HasLawOfPatches}
use Rattle.theory_patches.specs.Laws.{HasOneListOfPatches}
use Rattle.theory_lists.proofs.SameMembers.{permuted_if_same_members}
use Rattle.theory_patches.proofs.StandsOnce.{stands_once}
use Rattle.theory_patches.proofs.Spaced.{patch_there}
use Rattle.theory_patches.proofs.SameLines.{same_lines}
use Rattle.theory_patches.proofs.AsLong.{starts_by, ends_by}
use Rattle.theory_patches.proofs.SamePoints.{AreTwoCovers, exchanged, two_covers}
use Rattle.theory_patches.proofs.OneIfTouching.{HaveOneSides, one_if_overlapping}

-- the region with these ends and sides
abbrev region_of : Arrow → Arrow → LineSide → LineSide → Region
region_of low high lower upper =
    record { low = low; high = high; lower = lower; upper = upper }

-- the region with this mark
abbrev marked : {M : Type 0} → Region → M → MarkedPatch M
marked region mark = record { region = region; mark = mark }

-- regions with the same data are equal
same_region : (p q : Region) → p.low ≡ q.low → p.high ≡ q.high → p.lower ≡ q.lower
    → p.upper ≡ q.upper → p ≡ q
same_region p q low high lower upper =
    let whole
    : region_of p.low p.high p.lower p.upper ≡ region_of q.low q.high q.lower q.upper =
    cc
    in
    whole

-- and so are marked patches
same_patch : {M : Type 0} (p q : MarkedPatch M) → p.region ≡ q.region → p.mark ≡ q.mark → p ≡ q
same_patch p q region mark =
    let whole : marked p.region p.mark ≡ marked q.region q.mark = cc in whole

-- q has the mark and the sides of p, and is at least as long
record IsAsLong {M : Type 0} (qs : List (MarkedPatch M)) (p q : MarkedPatch M) : Type 0 where
  pub stands : Stands q qs
  pub same_mark : q.mark ≡ p.mark
  pub sides : HaveOneSides p.region q.region
  pub low : IsAtMost q.region.low p.region.low
  pub high : IsAtMost p.region.high q.region.high

-- such a patch stands in the other list
as_long : {M : Type 0} (sheet : Sheet) (ps qs : List (MarkedPatch M)) → AreTwoCovers sheet ps qs
    → (p : MarkedPatch M) → Stands p ps → (q : MarkedPatch M) × IsAsLong qs p q
as_long sheet ps qs two p at_p =
    let p_in = (patch_there ps two.first.patches p at_p).region in
    let found =
    same_lines sheet ps qs two p at_p p.region.low p.region.high p_in.low_in p_in.high_in p_in.wide
    (at_most_refl p.region.low) (at_most_refl p.region.high)
    in
    let is = found.2 in (
      found.0,
      record {
        stands = is.on.stands;
        same_mark = is.on.same_mark;
        sides = record { lower = is.same_lower; upper = is.same_upper };
        low = starts_by sheet ps qs two p at_p found.0 found.1 is;
        high = ends_by sheet ps qs two p at_p found.0 found.1 is;
      },
    )

-- of two that are each as long as the other the data are the same
same_if_as_long : {M : Type 0} (ps qs : List (MarkedPatch M)) (p q : MarkedPatch M)
    → IsPatch p.region → IsPatch q.region → IsAsLong qs p q
    → IsAtMost p.region.low q.region.low → IsAtMost q.region.high p.region.high → p ≡ q
same_if_as_long ps qs p q p_in q_in long low high =
    same_patch p q
    (same_region p.region q.region
    (fraction_unique p.region.low q.region.low p_in.low_reduced q_in.low_reduced
    (same_from_at_most p.region.low q.region.low low long.low))
    (fraction_unique p.region.high q.region.high p_in.high_reduced q_in.high_reduced
    (same_from_at_most p.region.high q.region.high long.high high))
    long.sides.lower long.sides.upper)
    (sym long.same_mark)

-- the law for spaced lists: each patch is in the other list. One there is at least as long, one
-- here is at least as long as that, and the last is the first, since the two overlap
pub stands_there : {M : Type 0} (sheet : Sheet) (ps qs : List (MarkedPatch M))
    → AreTwoCovers sheet ps qs → (p : MarkedPatch M) → Stands p ps → Stands p qs
stands_there {M} sheet ps qs two p at_p = from (as_long sheet ps qs two p at_p)
  where
    p_in : IsPatch p.region
    p_in = patch_there ps two.first.patches p at_p

    from : (q : MarkedPatch M) × IsAsLong qs p q → Stands p qs
    from (q, q_is) = back (as_long sheet qs ps (exchanged sheet ps qs two) q q_is.stands)
      where
        q_in : IsPatch q.region
        q_in = patch_there qs two.second.patches q q_is.stands

        back : (r : MarkedPatch M) × IsAsLong ps q r → Stands p qs
        back (r, r_is) =
            let r_in = patch_there ps two.first.patches r r_is.stands in
            let low =
            at_most_trans r.region.low q.region.low p.region.low r_in.region.low_in
            q_in.region.low_in p_in.region.low_in r_is.low q_is.low
            in
            let high =
            at_most_trans p.region.high q.region.high r.region.high p_in.region.high_in
            q_in.region.high_in r_in.region.high_in q_is.high r_is.high
            in
            let one : r ≡ p =
            one_if_overlapping sheet two.sheet_in ps two.first r p r_is.stands at_p
            (r_is.same_mark ∙ q_is.same_mark)
            (record {
              lower = sym (q_is.sides.lower ∙ r_is.sides.lower);
              upper = sym (q_is.sides.upper ∙ r_is.sides.upper);
            })
            (at_most_below_trans r.region.low p.region.low p.region.high r_in.region.low_in
            p_in.region.low_in p_in.region.high_in low p_in.region.wide)
            (below_at_most_trans p.region.low p.region.high r.region.high p_in.region.low_in
            p_in.region.high_in r_in.region.high_in p_in.region.wide high)
            in
            let same : p ≡ q =
            same_if_as_long ps qs p q p_in q_in q_is
            (subst (λ x. IsAtMost x.region.low q.region.low) one r_is.low)
            (subst (λ x. IsAtMost q.region.high x.region.high) one r_is.high)
            in
            subst (λ x. Stands x qs) (sym same) q_is.stands

-- ---- the law

-- so they hold the same patches, whatever plain means, and for marks of any type
pub law_of_patches : {M : Type 0} (sheet : Sheet) (IsPlain : FacePoint → Type 0)
    (ps qs : List (MarkedPatch M)) → CoverAlike sheet IsPlain ps qs → HaveSamePatches ps qs
law_of_patches sheet IsPlain ps qs alike p =
    let two = two_covers sheet IsPlain ps qs alike in
    (stands_there sheet ps qs two p, stands_there sheet qs ps (exchanged sheet ps qs two) p)

-- and the one is the other in another order
pub one_list_of_patches : {M : Type 0} (sheet : Sheet) (IsPlain : FacePoint → Type 0)
    (ps qs : List (MarkedPatch M)) → CoverAlike sheet IsPlain ps qs → IsPermutation ps qs
one_list_of_patches sheet IsPlain ps qs alike =
    let same = law_of_patches sheet IsPlain ps qs alike in
    permuted_if_same_members ps qs (stands_once sheet alike.sheet_in ps alike.first)
    (stands_once sheet alike.sheet_in qs alike.second) (λ p. (same p).0) (λ p. (same p).1)

-- the law as the contract has it
pub has_law_of_patches : (M : Type 0) → HasLawOfPatches M
has_law_of_patches M sheet is_plain ps qs alike =
    law_of_patches sheet (λ point. IsTrue (is_plain point)) ps qs alike

-- and so its other clause
pub has_one_list_of_patches : (M : Type 0) → HasOneListOfPatches M
has_one_list_of_patches M sheet is_plain ps qs alike =
    one_list_of_patches sheet (λ point. IsTrue (is_plain point)) ps qs alike
