-- A run that goes on with a patch: what the test says, and that the two in one are a patch.
use Rattle.std.proofs.Common.{◌≡◌, sym, subst, inl, inr, ◌⊎◌, pos, ◌<ℤ◌, ◌≤ℤ◌, Bool, true, ◌&&◌}
use Rattle.std.proofs.lemmas.Bool.{and_parts}
use Rattle.std.specs.Cmp.{signed_Decides}
use Rattle.theory_numbers.specs.Arrows.{Arrow, cross}
use Rattle.theory_numbers.specs.Rationals.{IsRational, IsBelow, IsAtMost, IsSame, mediant}
use Rattle.theory_numbers.proofs.Fractions.Rationals.{below_or_not, between_from_low, below_trans}
use Rattle.theory_numbers.proofs.Fractions.Rationals.{below_at_most_trans, at_most_below_trans, at_most_refl}
use Rattle.theory_numbers.proofs.Fractions.Rationals.{at_most_from_below, mediant-IsRational, mediant_between}
use Rattle.theory_plane.specs.Sides.{clearance, clearance_at, is_same_side}
use Rattle.theory_plane.specs.Regions.{Region, have_same_sides}
use Rattle.theory_plane.proofs.SameSide.{same_side_decides}
use Rattle.theory_plane.proofs.Regions.{open_between, region_if_open, uncrossed_to_ends}
use Rattle.theory_patches.specs.Marked.{MarkedPatch, IsPatch}
use Rattle.theory_patches.proofs.NoneBetween.{at_most_from_same}
use Rattle.theory_patches.proofs.OneIfTouching.{HaveOneSides}
use Rattle.theory_joining.specs.Put.{ends_where_begins, goes_on, carried_on}
use Rattle.theory_joining.specs.Laws.{TellsEqual}

-- the test finds the same sides
pub one_sides_from : (p r : Region) → have_same_sides p r ≡ true → HaveOneSides p r
one_sides_from p r answer =
    let parts = and_parts (is_same_side p.lower r.lower) (is_same_side p.upper r.upper) answer in
    record {
      lower = (same_side_decides p.lower r.lower).0 parts.0;
      upper = (same_side_decides p.upper r.upper).0 parts.1;
    }

-- the run begins where the patch ends, and has its sides and its mark
pub record GoesOn {M : Type 0} (p r : MarkedPatch M) : Type 0 where
  pub ends : IsSame p.region.high r.region.low
  pub sides : HaveOneSides p.region r.region
  pub mark : p.mark ≡ r.mark

-- the test says so
pub goes_on_from : {M : Type 0} (same : M → M → Bool) → TellsEqual same → (p r : MarkedPatch M)
    → goes_on same p r ≡ true → GoesOn p r
goes_on_from same tells p r answer =
    let parts =
    and_parts (ends_where_begins p.region r.region && have_same_sides p.region r.region)
    (same p.mark r.mark) answer
    in
    let place =
    and_parts (ends_where_begins p.region r.region) (have_same_sides p.region r.region) parts.0
    in
    record {
      ends = (signed_Decides (cross p.region.high r.region.low) (pos 0)).0 place.0;
      sides = one_sides_from p.region r.region place.1;
      mark = (tells p.mark r.mark).0 parts.1;
    }

-- ---- the two in one

module _ {M : Type 0} (p r : MarkedPatch M) (p_in : IsPatch p.region) (r_in : IsPatch r.region)
    (on : GoesOn p r) where
  low_in : IsRational p.region.low
  low_in = p_in.region.low_in

  joint_in : IsRational p.region.high
  joint_in = p_in.region.high_in

  start_in : IsRational r.region.low
  start_in = r_in.region.low_in

  end_in : IsRational r.region.high
  end_in = r_in.region.high_in

  joint_before_end : IsBelow p.region.high r.region.high
  joint_before_end =
      at_most_below_trans p.region.high r.region.low r.region.high joint_in start_in end_in
      (at_most_from_same p.region.high r.region.low on.ends) r_in.region.wide

  whole : IsBelow p.region.low r.region.high
  whole =
      below_trans p.region.low p.region.high r.region.high low_in joint_in end_in p_in.region.wide
      joint_before_end

  at_end : pos 0 ≤ℤ clearance_at p.region.lower p.region.upper r.region.high
  at_end =
      subst (λ l. pos 0 ≤ℤ clearance_at l p.region.upper r.region.high) (sym on.sides.lower)
      (subst (λ m. pos 0 ≤ℤ clearance_at r.region.lower m r.region.high) (sym on.sides.upper)
      (uncrossed_to_ends r.region r_in.region r.region.high end_in
      (at_most_from_below r.region.low r.region.high r_in.region.wide)
      (at_most_refl r.region.high)))

  -- the sides stand apart at each number strictly between the ends
  open_through : (u : Arrow) → IsRational u → IsBelow p.region.low u → IsBelow u r.region.high
      → pos 0 <ℤ clearance_at p.region.lower p.region.upper u
  open_through u u_in after before = from (below_or_not u p.region.high)
    where
      from : IsBelow u p.region.high ⊎ IsAtMost p.region.high u
          → pos 0 <ℤ clearance_at p.region.lower p.region.upper u
      from (inl less) = open_between p.region p_in.region u u_in after less
      from (inr more) =
          let m = mediant p.region.low p.region.high in
          let m_in = mediant-IsRational p.region.low p.region.high low_in joint_in in
          let inside = mediant_between p.region.low p.region.high p_in.region.wide in
          let m_before = below_at_most_trans m p.region.high u m_in joint_in u_in inside.1 more in
          between_from_low (clearance p.region.lower p.region.upper) m u r.region.high m_before
          before (below_trans m u r.region.high m_in u_in end_in m_before before)
          (open_between p.region p_in.region m m_in inside.0 inside.1) at_end

  -- so the patch carried on is a patch
  pub carried_on_is_patch : IsPatch (carried_on p r).region
  carried_on_is_patch =
      record {
        region =
            region_if_open (carried_on p r).region low_in end_in p_in.region.lower_in
            p_in.region.upper_in whole open_through;
        low_reduced = p_in.low_reduced;
        high_reduced = r_in.high_reduced;
        lower_reduced = p_in.lower_reduced;
        upper_reduced = p_in.upper_reduced;
      }

  -- it ends beyond the joint
  pub ends_beyond_joint : IsBelow p.region.high r.region.high
  ends_beyond_joint = joint_before_end
