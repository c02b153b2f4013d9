-- Two patches of one list with one mark and the same sides are one where they overlap, and where
-- one ends at a side of positive length at which the other starts.
use Rattle.std.proofs.Common.{◌≡◌, inl, inr, ◌⊎◌, subst, arith, List, pos, ◌<ℤ◌, ◌≤ℤ◌, Bool, true}
use Rattle.std.proofs.Common.{false, ◌&&◌}
use Rattle.std.proofs.lemmas.Int.{ints}
use Rattle.std.proofs.lemmas.Bool.{and_from}
use Rattle.std.specs.Ordering.{int_eq}
use Rattle.std.specs.Cmp.{signed_Decides}
use Rattle.theory_numbers.specs.Arrows.{Arrow, cross}
use Rattle.theory_numbers.specs.Rationals.{IsRational, IsBelow, IsAtMost, IsSame}
use Rattle.theory_numbers.specs.Intervals.{another}
use Rattle.theory_numbers.specs.Tests.{is_positive}
use Rattle.theory_numbers.proofs.Signs.{test_less}
use Rattle.theory_numbers.proofs.Fractions.Rationals.{below_or_not, at_most_below_trans, below_at_most_trans}
use Rattle.theory_numbers.proofs.Fractions.Rationals.{at_most_refl, at_most_from_below}
use Rattle.theory_numbers.proofs.Fractions.Avoid.{another_is}
use Rattle.theory_plane.specs.Sides.{clearance_at, is_same_side}
use Rattle.theory_plane.specs.Regions.{Region, IsRegion, is_seam, have_same_sides}
use Rattle.theory_plane.proofs.SameSide.{same_side_decides}
use Rattle.theory_plane.proofs.Regions.{open_between}
use Rattle.theory_lists.specs.Members.{Stands}
use Rattle.theory_patches.specs.Marked.{MarkedPatch}
use Rattle.theory_patches.specs.Sheets.{Sheet, IsSheet}
use Rattle.theory_patches.proofs.Spaced.{IsSpacedList, patch_there}
use Rattle.theory_patches.specs.Trimmed.{IsOver, AreSpaced}

-- the region reaches from r to t
record ReachesOver (p : Region) (r t : Arrow) : Type 0 where
  pub from_low : IsAtMost p.low r
  pub to_high : IsAtMost t p.high

-- the two have the same sides
pub record HaveOneSides (p q : Region) : Type 0 where
  pub lower : p.lower ≡ q.lower
  pub upper : p.upper ≡ q.upper

over_inside : (p : Region) → IsRegion p → (s t : Arrow) → IsRational s → IsRational t
    → ReachesOver p s t → (u : Arrow) → IsRational u → IsBelow s u → IsBelow u t → IsOver p u
over_inside p p_in s t s_in t_in reaches u u_in after before =
    record {
      after = at_most_below_trans p.low s u p_in.low_in s_in u_in reaches.from_low after;
      before = below_at_most_trans u t p.high u_in t_in p_in.high_in before reaches.to_high;
    }

module _ {M : Type 0} (sheet : Sheet) (sheet_in : IsSheet sheet) (qs : List (MarkedPatch M))
    (list : IsSpacedList sheet qs) (q r : MarkedPatch M) (at_q : Stands q qs)
    (at_r : Stands r qs) (same_mark : q.mark ≡ r.mark)
    (sides : HaveOneSides q.region r.region) where
  q_in : IsRegion q.region
  q_in = (patch_there qs list.patches q at_q).region

  r_in : IsRegion r.region
  r_in = (patch_there qs list.patches r at_r).region

  -- two patches of one list with the same sides that reach over one stretch are one: at a u of it
  -- that is no abscissa they would touch
  one_over_stretch : (s t : Arrow) → IsRational s → IsRational t → IsBelow s t
      → ReachesOver q.region s t → ReachesOver r.region s t → q ≡ r
  one_over_stretch s t s_in t_in wide reach_q reach_r = from (list.spaced q r at_q at_r same_mark)
    where
      from : (q ≡ r) ⊎ AreSpaced sheet q.region r.region → q ≡ r
      from (inl one) = one
      from (inr spaced) =
          let u = another s t sheet.abscissae in
          let is = another_is s t s_in t_in wide sheet.abscissae sheet_in.abscissae_in in
          let over_q =
          over_inside q.region q_in s t s_in t_in reach_q u is.rational is.after is.before
          in
          let over_r =
          over_inside r.region r_in s t s_in t_in reach_r u is.rational is.after is.before
          in
          let above = open_between q.region q_in u is.rational over_q.after over_q.before in
          let wide_q : pos 0 ≤ℤ clearance_at q.region.lower q.region.upper u =
          omega (arith, ints)
          in
          absurd
          (spaced.apart u is.rational is.apart over_q over_r
          (subst (λ m. pos 0 ≤ℤ clearance_at q.region.lower m u) sides.upper wide_q)
          (subst (λ l. pos 0 ≤ℤ clearance_at l q.region.upper u) sides.lower wide_q))

  -- so are two of which each starts before the other ends
  pub one_if_overlapping : IsBelow q.region.low r.region.high → IsBelow r.region.low q.region.high
      → q ≡ r
  one_if_overlapping less less_r =
      from (below_or_not q.region.low r.region.low) (below_or_not q.region.high r.region.high)
    where
      from : IsBelow q.region.low r.region.low ⊎ IsAtMost r.region.low q.region.low
          → IsBelow q.region.high r.region.high ⊎ IsAtMost r.region.high q.region.high → q ≡ r
      from (inl later) (inl sooner) =
          one_over_stretch r.region.low q.region.high r_in.low_in q_in.high_in less_r
          (record {
            from_low = at_most_from_below q.region.low r.region.low later;
            to_high = at_most_refl q.region.high;
          })
          (record {
            from_low = at_most_refl r.region.low;
            to_high = at_most_from_below q.region.high r.region.high sooner;
          })
      from (inl later) (inr not_sooner) =
          one_over_stretch r.region.low r.region.high r_in.low_in r_in.high_in r_in.wide
          (record {
            from_low = at_most_from_below q.region.low r.region.low later;
            to_high = not_sooner;
          })
          (record {
            from_low = at_most_refl r.region.low;
            to_high = at_most_refl r.region.high;
          })
      from (inr not_later) (inl sooner) =
          one_over_stretch q.region.low q.region.high q_in.low_in q_in.high_in q_in.wide
          (record {
            from_low = at_most_refl q.region.low;
            to_high = at_most_refl q.region.high;
          })
          (record {
            from_low = not_later;
            to_high = at_most_from_below q.region.high r.region.high sooner;
          })
      from (inr not_later) (inr not_sooner) =
          one_over_stretch q.region.low r.region.high q_in.low_in r_in.high_in less
          (record { from_low = at_most_refl q.region.low; to_high = not_sooner })
          (record { from_low = not_later; to_high = at_most_refl r.region.high })

  has_seam : IsSame q.region.high r.region.low
      → pos 0 <ℤ clearance_at q.region.lower q.region.upper q.region.high
      → is_seam q.region r.region ≡ true
  has_seam meet above =
      and_from (int_eq (cross q.region.high r.region.low) (pos 0))
      (have_same_sides q.region r.region
      && is_positive (clearance_at q.region.lower q.region.upper q.region.high))
      ((signed_Decides (cross q.region.high r.region.low) (pos 0)).1 meet)
      (and_from (have_same_sides q.region r.region)
      (is_positive (clearance_at q.region.lower q.region.upper q.region.high))
      (and_from (is_same_side q.region.lower r.region.lower)
      (is_same_side q.region.upper r.region.upper)
      ((same_side_decides q.region.lower r.region.lower).1 sides.lower)
      ((same_side_decides q.region.upper r.region.upper).1 sides.upper))
      (test_less (pos 0) (clearance_at q.region.lower q.region.upper q.region.high) above))

  -- and two of which one ends, at a side of positive length, where the other starts
  pub one_if_joined : IsSame q.region.high r.region.low
      → pos 0 <ℤ clearance_at q.region.lower q.region.upper q.region.high → q ≡ r
  one_if_joined meet above = from (list.spaced q r at_q at_r same_mark)
    where
      clash : {b : Bool} → b ≡ false → b ≡ true → ⊥
      clash none both = cc

      from : (q ≡ r) ⊎ AreSpaced sheet q.region r.region → q ≡ r
      from (inl one) = one
      from (inr spaced) = absurd (clash spaced.no_seam.first_before (has_seam meet above))
