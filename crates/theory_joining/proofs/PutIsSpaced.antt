-- Runs of a slab that are put to a spaced list leave it spaced.
use Rattle.std.proofs.Common.{◌≡◌, refl, sym, ◌∙◌, subst, inl, inr, ◌⊎◌, arith, pos, ◌≤ℤ◌, Bool}
use Rattle.std.proofs.Common.{true}
use Rattle.std.proofs.Common.{false, ◌&&◌, if◌then◌else◌, List, [], ◌∷◌}
use Rattle.std.proofs.lemmas.Int.{ints}
use Rattle.std.proofs.lemmas.Bool.{and_parts, and_from, false_from_ne_true}
use Rattle.std.specs.Ordering.{int_eq}
use Rattle.std.specs.Cmp.{signed_Decides}
use Rattle.std.specs.List.{AllByRecursion}
use Rattle.theory_numbers.specs.Arrows.{Arrow, cross}
use Rattle.theory_numbers.specs.Rationals.{IsRational, IsBelow, IsAtMost, IsSame}
use Rattle.theory_numbers.specs.Tests.{is_positive}
use Rattle.theory_numbers.proofs.Fractions.Rationals.{number_cases, same_sym, same_trans}
use Rattle.theory_numbers.proofs.Fractions.Rationals.{below_at_most_trans, at_most_below_trans, at_most_refl}
use Rattle.theory_plane.specs.Sides.{clearance_at}
use Rattle.theory_plane.specs.Regions.{Region, have_same_sides, is_seam}
use Rattle.theory_lists.specs.Members.{Stands, AllOfTwo}
use Rattle.theory_lists.proofs.Members.{all_stands, all_follow, all_both}
use Rattle.theory_patches.specs.Marked.{MarkedPatch}
use Rattle.theory_patches.specs.Sheets.{Sheet, IsNoAbscissa}
use Rattle.theory_patches.proofs.NoneBetween.{at_most_from_same}
use Rattle.theory_patches.proofs.Spaced.{spaced_sym}
use Rattle.theory_patches.specs.Trimmed.{IsOver}
use Rattle.theory_joining.specs.Runs.{IsSlab, IsRunOver, AreApartIfAlike}
use Rattle.theory_joining.specs.Joined.{IsPatchUpTo, AreSpacedIfAlike}
use Rattle.theory_joining.specs.Put.{ends_where_begins, goes_on, carried_on, put, ArePutTo}
use Rattle.std.proofs.Common.{IsPermutation}
use Rattle.theory_lists.proofs.InAnyOrder.{all_permuted, two_permuted}
use Rattle.theory_joining.specs.Laws.{TellsEqual}
use Rattle.theory_joining.proofs.GoesOn.{GoesOn, goes_on_from, carried_on_is_patch}
use Rattle.theory_joining.proofs.MarksOfPut.{all_put}

clash : {b : Bool} → b ≡ false → b ≡ true → ⊥
clash none both = cc

-- where the second does not begin at the end of the first they have no seam
no_seam_elsewhere : (p q : Region) → (IsSame p.high q.low → ⊥) → is_seam p q ≡ false
no_seam_elsewhere p q apart =
    false_from_ne_true (is_seam p q)
    (λ answer.
    apart
    ((signed_Decides (cross p.high q.low) (pos 0)).0
    (and_parts (int_eq (cross p.high q.low) (pos 0))
    (have_same_sides p q && is_positive (clearance_at p.lower p.upper p.high)) answer).0))

-- with a run of its mark that does not go on with it a patch has no seam
no_seam_if_not_on : {M : Type 0} (same : M → M → Bool) → TellsEqual same → (p r : MarkedPatch M)
    → goes_on same p r ≡ false → p.mark ≡ r.mark → is_seam p.region r.region ≡ false
no_seam_if_not_on same tells p r not_on alike =
    false_from_ne_true (is_seam p.region r.region)
    (λ answer.
    let parts =
    and_parts (ends_where_begins p.region r.region)
    (have_same_sides p.region r.region
    && is_positive (clearance_at p.region.lower p.region.upper p.region.high))
    answer
    in
    let sides =
    and_parts (have_same_sides p.region r.region)
    (is_positive (clearance_at p.region.lower p.region.upper p.region.high)) parts.1
    in
    clash not_on
    (and_from (ends_where_begins p.region r.region && have_same_sides p.region r.region)
    (same p.mark r.mark)
    (and_from (ends_where_begins p.region r.region) (have_same_sides p.region r.region) parts.0
    sides.0)
    ((tells p.mark r.mark).1 alike)))

-- the same, seen from the other
pub spaced_if_alike_sym : {M : Type 0} (sheet : Sheet) (p q : MarkedPatch M)
    → AreSpacedIfAlike sheet p q → AreSpacedIfAlike sheet q p
spaced_if_alike_sym sheet p q spaced alike =
    spaced_sym sheet p.region q.region (spaced (sym alike))

module _ (sheet : Sheet) (cur next : Arrow) (slab : IsSlab sheet cur next) where
  -- a patch up to the end of the slab begins before it
  begins_before : (p : Region) → IsPatchUpTo sheet next p → IsBelow p.low next
  begins_before p p_in =
      below_at_most_trans p.low p.high next p_in.patch.region.low_in p_in.patch.region.high_in
      slab.end_in p_in.patch.region.wide p_in.within

  -- so it has no seam with what ends there
  no_seam_behind : (r p : Region) → r.high ≡ next → IsPatchUpTo sheet next p
      → is_seam r p ≡ false
  no_seam_behind r p ends p_in =
      no_seam_elsewhere r p
      (λ same.
      let before = begins_before p p_in in
      let turned : IsSame p.low next =
      subst (λ n. IsSame p.low n) ends (same_sym r.high p.low same)
      in
      omega (arith, ints))

  module _ {M : Type 0} (same : M → M → Bool) (tells : TellsEqual same) (r : MarkedPatch M)
      (r_is : IsRunOver cur next r.region) where
    -- a patch with which the run does not go on is spaced from it
    spaced_beside : (p : MarkedPatch M) → goes_on same p r ≡ false
        → IsPatchUpTo sheet next p.region → AreApartIfAlike sheet p r → AreSpacedIfAlike sheet p r
    spaced_beside p not_on p_in apart alike =
        record {
          apart = apart alike;
          no_seam =
              record {
                first_before = no_seam_if_not_on same tells p r not_on alike;
                second_before = no_seam_behind r.region p.region r_is.ends p_in;
              };
        }

    -- a patch that is spaced from one and apart from the run that goes on with it is spaced from
    -- the two in one: on the line between them nothing is asked
    spaced_from_carried : (x p : MarkedPatch M) → IsPatchUpTo sheet next x.region
        → IsPatchUpTo sheet next p.region → GoesOn p r → AreSpacedIfAlike sheet x p
        → AreApartIfAlike sheet x r → AreSpacedIfAlike sheet x (carried_on p r)
    spaced_from_carried x p x_in p_in on spaced apart alike =
        record {
          apart =
              λ u u_in off over_x over first second.
              from u u_in off over_x over first second (number_cases u p.region.high);
          no_seam =
              record {
                first_before = (spaced alike).no_seam.first_before;
                second_before =
                    no_seam_behind (carried_on p r).region x.region r_is.ends x_in;
              };
        }
      where
        from : (u : Arrow) → IsRational u → IsNoAbscissa sheet u → IsOver x.region u
            → IsOver (carried_on p r).region u
            → pos 0 ≤ℤ clearance_at x.region.lower p.region.upper u
            → pos 0 ≤ℤ clearance_at p.region.lower x.region.upper u
            → (IsBelow u p.region.high ⊎ IsSame u p.region.high) ⊎ IsBelow p.region.high u → ⊥
        from u u_in off over_x over first second (inl (inl less)) =
            (spaced alike).apart u u_in off over_x
            (record { after = over.after; before = less }) first second
        from u u_in off over_x over first second (inl (inr at)) =
            all_stands (λ a. IsSame a u → ⊥) cur sheet.abscissae off slab.begins
            (subst (λ n. IsSame n u) r_is.begins
            (same_sym u r.region.low
            (same_trans u p.region.high r.region.low p_in.patch.region.high_in at on.ends)))
        from u u_in off over_x over first second (inr more) =
            apart (alike ∙ on.mark) u u_in off over_x
            (record {
              after =
                  at_most_below_trans r.region.low p.region.high u r_is.patch.region.low_in
                  p_in.patch.region.high_in u_in
                  (at_most_from_same r.region.low p.region.high
                  (same_sym p.region.high r.region.low on.ends))
                  more;
              before = over.before;
            })
            (subst (λ m. pos 0 ≤ℤ clearance_at x.region.lower m u) on.sides.upper first)
            (subst (λ l. pos 0 ≤ℤ clearance_at l x.region.upper u) on.sides.lower second)

    -- a patch that is carried on is a patch up to the end of the slab
    carried_up_to : (p : MarkedPatch M) → IsPatchUpTo sheet next p.region → GoesOn p r
        → IsPatchUpTo sheet next (carried_on p r).region
    carried_up_to p p_in on =
        record {
          patch = carried_on_is_patch p r p_in.patch r_is.patch on;
          begins = p_in.begins;
          ends = inl r_is.ends;
          within = subst (λ n. IsAtMost n next) (sym r_is.ends) (at_most_refl next);
        }

    run_up_to : IsPatchUpTo sheet next r.region
    run_up_to =
        record {
          patch = r_is.patch;
          begins = subst (λ n. Stands n sheet.abscissae) (sym r_is.begins) slab.begins;
          ends = inl r_is.ends;
          within = subst (λ n. IsAtMost n next) (sym r_is.ends) (at_most_refl next);
        }

    -- the patches reach up to the end of the slab after the put
    pub put_up_to : (ps : List (MarkedPatch M))
        → AllByRecursion (λ p. IsPatchUpTo sheet next p.region) ps
        → AllByRecursion (λ p. IsPatchUpTo sheet next p.region) (put same r ps)
    put_up_to ps patches =
        all_put same r (λ p. IsPatchUpTo sheet next p.region)
        (λ p p_in on. carried_up_to p p_in (goes_on_from same tells p r on)) run_up_to ps patches

    -- another run that is apart from the list and from this one is apart from the new list
    pub put_stays_apart : (s : MarkedPatch M) → IsRunOver cur next s.region
        → AreApartIfAlike sheet r s → (ps : List (MarkedPatch M))
        → AllByRecursion (λ p. AreApartIfAlike sheet p s) ps
        → AllByRecursion (λ p. AreApartIfAlike sheet p s) (put same r ps)
    put_stays_apart s s_is apart ps all =
        all_put same r (λ p. AreApartIfAlike sheet p s)
        (λ p p_apart on. carried (goes_on_from same tells p r on)) apart ps all
      where
        carried : {p : MarkedPatch M} → GoesOn p r → AreApartIfAlike sheet (carried_on p r) s
        carried {p} on alike u u_in off over over_s first second =
            apart (sym on.mark ∙ alike) u u_in off
            (record {
              after =
                  subst (λ n. IsBelow n u) (s_is.begins ∙ sym r_is.begins) over_s.after;
              before = over.before;
            })
            over_s
            (subst (λ l. pos 0 ≤ℤ clearance_at l s.region.upper u) on.sides.lower first)
            (subst (λ m. pos 0 ≤ℤ clearance_at s.region.lower m u) on.sides.upper second)

    -- one patch of a list against the list after the put
    spaced_from_put : (x : MarkedPatch M) → IsPatchUpTo sheet next x.region
        → goes_on same x r ≡ false → AreApartIfAlike sheet x r → (ps : List (MarkedPatch M))
        → AllByRecursion (λ p. IsPatchUpTo sheet next p.region) ps
        → AllByRecursion (AreSpacedIfAlike sheet x) ps
        → AllByRecursion (AreSpacedIfAlike sheet x) (put same r ps)
    spaced_from_put x x_in not_on apart ps patches spaced =
        all_follow (λ p both. both.1) (put same r ps)
        (all_put same r (λ p. IsPatchUpTo sheet next p.region × AreSpacedIfAlike sheet x p)
        (λ p both on.
        let goes = goes_on_from same tells p r on in
        (carried_up_to p both.0 goes, spaced_from_carried x p x_in both.0 goes both.1 apart))
        (run_up_to, spaced_beside x not_on x_in apart) ps (all_both _ _ ps patches spaced))

    -- the patch carried on against the others
    carried_spaced : (p : MarkedPatch M) → IsPatchUpTo sheet next p.region → GoesOn p r
        → (ps : List (MarkedPatch M)) → AllByRecursion (λ x. IsPatchUpTo sheet next x.region) ps
        → AllByRecursion (λ x. AreApartIfAlike sheet x r) ps
        → AllByRecursion (AreSpacedIfAlike sheet p) ps
        → AllByRecursion (AreSpacedIfAlike sheet (carried_on p r)) ps
    carried_spaced p p_in on ps patches apart spaced =
        all_follow
        (λ x is.
        spaced_if_alike_sym sheet x (carried_on p r)
        (spaced_from_carried x p is.0 p_in on (spaced_if_alike_sym sheet p x is.1.1) is.1.0))
        ps (all_both _ _ ps patches (all_both _ _ ps apart spaced))

    -- the list stays spaced
    pub put_is_spaced : (ps : List (MarkedPatch M))
        → AllByRecursion (λ p. IsPatchUpTo sheet next p.region) ps
        → AllByRecursion (λ p. AreApartIfAlike sheet p r) ps
        → AllOfTwo (AreSpacedIfAlike sheet) ps → AllOfTwo (AreSpacedIfAlike sheet) (put same r ps)
    put_is_spaced [] patches apart spaced = (tt, tt)
    put_is_spaced (p ∷ ps) patches apart spaced =
        from (goes_on same p r) refl (put_is_spaced ps patches.1 apart.1 spaced.1)
      where
        from : (b : Bool) → goes_on same p r ≡ b → AllOfTwo (AreSpacedIfAlike sheet) (put same r ps)
            → AllOfTwo (AreSpacedIfAlike sheet)
            (if b then carried_on p r ∷ ps else p ∷ put same r ps)
        from true on rest = (
          carried_spaced p patches.0 (goes_on_from same tells p r on) ps patches.1 apart.1 spaced.0,
          spaced.1,
        )
        from false not_on rest = (
          spaced_from_put p patches.0 not_on apart.0 ps patches.1 spaced.0,
          rest,
        )

  -- ---- all runs of a slab

  module _ {M : Type 0} (same : M → M → Bool) (tells : TellsEqual same) where
    -- the patches reach up to the end of the slab after all puts
    pub runs_up_to : (rs : List (MarkedPatch M))
        → AllByRecursion (λ r. IsRunOver cur next r.region) rs → (ps qs : List (MarkedPatch M))
        → ArePutTo same rs ps qs → AllByRecursion (λ p. IsPatchUpTo sheet next p.region) ps
        → AllByRecursion (λ p. IsPatchUpTo sheet next p.region) qs
    runs_up_to [] runs ps qs are_put patches =
        all_permuted (λ p. IsPatchUpTo sheet next p.region) ps qs are_put patches
    runs_up_to (r ∷ rs) runs ps qs (ms, permuted, are_put) patches =
        runs_up_to rs runs.1 ms qs are_put
        (all_permuted (λ p. IsPatchUpTo sheet next p.region) (put same r ps) ms permuted
        (put_up_to same tells r runs.0 ps patches))

    -- runs that are apart from each other and from the list are apart after one of them is put
    still_apart : (r : MarkedPatch M) → IsRunOver cur next r.region
        → (ps ms : List (MarkedPatch M)) → IsPermutation (put same r ps) ms
        → (rs : List (MarkedPatch M)) → AllByRecursion (λ s. IsRunOver cur next s.region) rs
        → AllByRecursion (AreApartIfAlike sheet r) rs
        → AllByRecursion (λ s. AllByRecursion (λ p. AreApartIfAlike sheet p s) ps) rs
        → AllByRecursion (λ s. AllByRecursion (λ p. AreApartIfAlike sheet p s) ms) rs
    still_apart r r_is ps ms permuted rs runs apart from_list =
        all_follow
        (λ s is.
        all_permuted (λ p. AreApartIfAlike sheet p s) (put same r ps) ms permuted
        (put_stays_apart same tells r r_is s is.0 is.1.0 ps is.1.1))
        rs (all_both _ _ rs runs (all_both _ _ rs apart from_list))

    -- so the list stays spaced
    pub runs_stay_spaced : (rs : List (MarkedPatch M))
        → AllByRecursion (λ r. IsRunOver cur next r.region) rs
        → AllOfTwo (AreApartIfAlike sheet) rs → (ps qs : List (MarkedPatch M))
        → ArePutTo same rs ps qs → AllByRecursion (λ p. IsPatchUpTo sheet next p.region) ps
        → AllByRecursion (λ s. AllByRecursion (λ p. AreApartIfAlike sheet p s) ps) rs
        → AllOfTwo (AreSpacedIfAlike sheet) ps → AllOfTwo (AreSpacedIfAlike sheet) qs
    runs_stay_spaced [] runs apart ps qs are_put patches from_list spaced =
        two_permuted (AreSpacedIfAlike sheet) (λ p q two. spaced_if_alike_sym sheet p q two) ps qs
        are_put spaced
    runs_stay_spaced (r ∷ rs) runs apart ps qs (ms, permuted, are_put) patches from_list spaced =
        runs_stay_spaced rs runs.1 apart.1 ms qs are_put
        (all_permuted (λ p. IsPatchUpTo sheet next p.region) (put same r ps) ms permuted
        (put_up_to same tells r runs.0 ps patches))
        (still_apart r runs.0 ps ms permuted rs runs.1 apart.0 from_list.1)
        (two_permuted (AreSpacedIfAlike sheet) (λ p q two. spaced_if_alike_sym sheet p q two)
        (put same r ps) ms permuted
        (put_is_spaced same tells r runs.0 ps patches from_list.0 spaced))
