-- Each patch has in the other list one with its mark and its sides that is at least as long.
use Rattle.std.proofs.Common.{◌≡◌, sym, ◌∙◌, inl, inr, ◌⊎◌, ap, subst, List, [], ◌∷◌, pos, ◌<ℤ◌}
use Rattle.std.specs.List.{AllByRecursion}
use Rattle.theory_numbers.specs.Arrows.{Arrow}
use Rattle.theory_numbers.specs.Rationals.{IsRational, IsBelow, IsAtMost, IsSame}
use Rattle.theory_numbers.proofs.Fractions.Rationals.{below_trans, below_irrefl, number_cases}
use Rattle.theory_numbers.proofs.Fractions.Rationals.{at_most_below_trans, below_at_most_trans}
use Rattle.theory_numbers.proofs.Fractions.Rationals.{at_most_from_below, below_clash, same_sym}
use Rattle.theory_plane.specs.Sides.{clearance_at}
use Rattle.theory_plane.specs.Regions.{Region, IsRegion}
use Rattle.theory_plane.proofs.Regions.{open_between}
use Rattle.theory_lists.specs.Members.{Stands}
use Rattle.theory_patches.specs.Marked.{MarkedPatch, IsPatch}
use Rattle.theory_patches.specs.Sheets.{Sheet}
use Rattle.theory_patches.proofs.NoneBetween.{IsFreeBefore, IsFreeAfter, free_before, free_after}
use Rattle.theory_patches.proofs.NoneBetween.{beyond_end, before_start, at_least_if_not_below}
use Rattle.theory_patches.proofs.NoneBetween.{at_most_from_same}
use Rattle.theory_patches.proofs.Spaced.{patch_there}
use Rattle.theory_patches.proofs.SameLines.{IsOverStretch, same_lines}
use Rattle.theory_patches.proofs.SamePoints.{AreTwoCovers}
use Rattle.theory_patches.proofs.OneIfTouching.{HaveOneSides, one_if_overlapping, one_if_joined}

-- ---- the ends of the patches of a list

-- where they start and end
ends_of : {M : Type 0} → List (MarkedPatch M) → List Arrow
ends_of [] = []
ends_of (q ∷ qs) = q.region.low ∷ q.region.high ∷ ends_of qs

ends_in : {M : Type 0} (qs : List (MarkedPatch M)) → AllByRecursion (λ q. IsPatch q.region) qs
    → AllByRecursion IsRational (ends_of qs)
unfolding ends_of
ends_in [] patches = tt
ends_in (q ∷ qs) patches =
    (patches.0.region.low_in, (patches.0.region.high_in, ends_in qs patches.1))

low_is_end : {M : Type 0} (q : MarkedPatch M) (qs : List (MarkedPatch M)) → Stands q qs
    → Stands q.region.low (ends_of qs)
unfolding ends_of
low_is_end q [] stands = absurd stands
low_is_end q (r ∷ rs) (inl same) = inl (ap (λ s. s.region.low) same)
low_is_end q (r ∷ rs) (inr later) = inr (inr (low_is_end q rs later))

high_is_end : {M : Type 0} (q : MarkedPatch M) (qs : List (MarkedPatch M)) → Stands q qs
    → Stands q.region.high (ends_of qs)
unfolding ends_of
high_is_end q [] stands = absurd stands
high_is_end q (r ∷ rs) (inl same) = inr (inl (ap (λ s. s.region.high) same))
high_is_end q (r ∷ rs) (inr later) = inr (inr (high_is_end q rs later))

-- ---- a patch q over a u of p

module _ {M : Type 0} (sheet : Sheet) (ps qs : List (MarkedPatch M))
    (two : AreTwoCovers sheet ps qs) (p : MarkedPatch M) (at_p : Stands p ps)
    (q : MarkedPatch M) (u : Arrow)
    (q_is : IsOverStretch qs p p.region.low p.region.high q u) where
  p_region : IsRegion p.region
  p_region = (patch_there ps two.first.patches p at_p).region

  q_region : IsRegion q.region
  q_region = (patch_there qs two.second.patches q q_is.on.stands).region

  -- q starts before the end of p, and ends after its start: u lies between
  starts_before_end : IsBelow q.region.low p.region.high
  starts_before_end =
      below_trans q.region.low u p.region.high q_region.low_in q_is.rational p_region.high_in
      q_is.on.over.after q_is.before

  ends_after_start : IsBelow p.region.low q.region.high
  ends_after_start =
      below_trans p.region.low u q.region.high p_region.low_in q_is.rational q_region.high_in
      q_is.after q_is.on.over.before

  -- strictly inside p its sides, which are those of r, stand apart
  side_has_length : (r : Region) → HaveOneSides p.region r → (x : Arrow) → IsRational x
      → IsBelow p.region.low x → IsBelow x p.region.high → pos 0 <ℤ clearance_at r.lower r.upper x
  side_has_length r sides x x_in after before =
      subst (λ l. pos 0 <ℤ clearance_at l r.upper x) sides.lower
      (subst (λ m. pos 0 <ℤ clearance_at p.region.lower m x) sides.upper
      (open_between p.region p_region x x_in after before))

  module _ (s t : Arrow) (r : MarkedPatch M) (v : Arrow) (r_is : IsOverStretch qs p s t r v) where
    r_region : IsRegion r.region
    r_region = (patch_there qs two.second.patches r r_is.on.stands).region

    one_mark : r.mark ≡ q.mark
    one_mark = r_is.on.same_mark ∙ sym q_is.on.same_mark

    one_sides : HaveOneSides r.region q.region
    one_sides =
        record {
          lower = sym r_is.same_lower ∙ q_is.same_lower;
          upper = sym r_is.same_upper ∙ q_is.same_upper;
        }

    sides_of_p : HaveOneSides p.region r.region
    sides_of_p = record { lower = r_is.same_lower; upper = r_is.same_upper }

    overlapping : IsBelow r.region.low q.region.high → IsBelow q.region.low r.region.high → r ≡ q
    overlapping less more =
        one_if_overlapping sheet two.sheet_in qs two.second r q r_is.on.stands q_is.on.stands
        one_mark one_sides less more

    -- r does not start before q and reach to its start: it would be q, or have a seam with it
    not_sooner : IsBelow p.region.low q.region.low → IsBelow r.region.low q.region.low
        → IsAtMost q.region.low r.region.high → ⊥
    not_sooner less sooner reaches =
        below_irrefl q.region.low
        (subst (λ x. IsBelow x.region.low q.region.low)
        (one (number_cases q.region.low r.region.high)) sooner)
      where
        one : (IsBelow q.region.low r.region.high ⊎ IsSame q.region.low r.region.high)
            ⊎ IsBelow r.region.high q.region.low → r ≡ q
        one (inl (inl more)) =
            overlapping
            (below_trans r.region.low q.region.low q.region.high r_region.low_in q_region.low_in
            q_region.high_in sooner q_region.wide)
            more
        one (inl (inr same)) =
            let same_turned = same_sym q.region.low r.region.high same in
            one_if_joined sheet two.sheet_in qs two.second r q r_is.on.stands q_is.on.stands
            one_mark one_sides same_turned
            (side_has_length r.region sides_of_p r.region.high r_region.high_in
            (below_at_most_trans p.region.low q.region.low r.region.high p_region.low_in
            q_region.low_in r_region.high_in less
            (at_most_from_same q.region.low r.region.high same))
            (at_most_below_trans r.region.high q.region.low p.region.high r_region.high_in
            q_region.low_in p_region.high_in
            (at_most_from_same r.region.high q.region.low same_turned) starts_before_end))
        one (inr beyond) = absurd (below_clash r.region.high q.region.low beyond reaches)

    -- nor does it end after q and reach back to its end
    not_later : IsBelow q.region.high p.region.high → IsBelow q.region.high r.region.high
        → IsAtMost r.region.low q.region.high → ⊥
    not_later less later reaches =
        below_irrefl q.region.high
        (subst (λ x. IsBelow q.region.high x.region.high)
        (one (number_cases r.region.low q.region.high)) later)
      where
        turned_sides : HaveOneSides q.region r.region
        turned_sides = record { lower = sym one_sides.lower; upper = sym one_sides.upper }

        one : (IsBelow r.region.low q.region.high ⊎ IsSame r.region.low q.region.high)
            ⊎ IsBelow q.region.high r.region.low → r ≡ q
        one (inl (inl less_r)) =
            overlapping less_r
            (below_trans q.region.low q.region.high r.region.high q_region.low_in q_region.high_in
            r_region.high_in q_region.wide later)
        one (inl (inr same)) =
            sym
            (one_if_joined sheet two.sheet_in qs two.second q r q_is.on.stands r_is.on.stands
            (sym one_mark) turned_sides (same_sym r.region.low q.region.high same)
            (side_has_length q.region
            (record { lower = q_is.same_lower; upper = q_is.same_upper }) q.region.high
            q_region.high_in ends_after_start less))
        one (inr beyond) = absurd (below_clash q.region.high r.region.low beyond reaches)

  -- q does not start after p: before its start there would be another patch with its sides
  pub starts_by : IsAtMost q.region.low p.region.low
  starts_by =
      at_least_if_not_below p.region.low q.region.low
      (λ less.
      none_before less
      (free_before p.region.low q.region.low p_region.low_in q_region.low_in less (ends_of qs)
      (ends_in qs two.second.patches)))
    where
      none_before : IsBelow p.region.low q.region.low
          → (s : Arrow) × IsFreeBefore p.region.low q.region.low (ends_of qs) s → ⊥
      none_before less (s, free) =
          with_other
          (same_lines sheet ps qs two p at_p s q.region.low free.rational q_region.low_in
          free.before free.within
          (at_most_from_below q.region.low p.region.high starts_before_end))
        where
          with_other : (r : MarkedPatch M) × (v : Arrow) × IsOverStretch qs p s q.region.low r v
              → ⊥
          with_other (r, v, r_is) =
              let r_in = (patch_there qs two.second.patches r r_is.on.stands).region in
              not_sooner s q.region.low r v r_is less
              (below_trans r.region.low v q.region.low r_in.low_in r_is.rational q_region.low_in
              r_is.on.over.after r_is.before)
              (beyond_end s q.region.low r.region.high (ends_of qs) free.none
              (high_is_end r qs r_is.on.stands)
              (below_trans s v r.region.high free.rational r_is.rational r_in.high_in r_is.after
              r_is.on.over.before))

  -- nor does it end before p
  pub ends_by : IsAtMost p.region.high q.region.high
  ends_by =
      at_least_if_not_below q.region.high p.region.high
      (λ less.
      none_after less
      (free_after q.region.high p.region.high q_region.high_in p_region.high_in less (ends_of qs)
      (ends_in qs two.second.patches)))
    where
      none_after : IsBelow q.region.high p.region.high
          → (s : Arrow) × IsFreeAfter q.region.high p.region.high (ends_of qs) s → ⊥
      none_after less (s, free) =
          with_other
          (same_lines sheet ps qs two p at_p q.region.high s q_region.high_in free.rational
          free.after (at_most_from_below p.region.low q.region.high ends_after_start) free.within)
        where
          with_other : (r : MarkedPatch M) × (v : Arrow) × IsOverStretch qs p q.region.high s r v
              → ⊥
          with_other (r, v, r_is) =
              let r_in = (patch_there qs two.second.patches r r_is.on.stands).region in
              not_later q.region.high s r v r_is less
              (below_trans q.region.high v r.region.high q_region.high_in r_is.rational r_in.high_in
              r_is.after r_is.on.over.before)
              (before_start q.region.high s r.region.low (ends_of qs) free.none
              (low_is_end r qs r_is.on.stands)
              (below_trans r.region.low v s r_in.low_in r_is.rational free.rational
              r_is.on.over.after r_is.before))
