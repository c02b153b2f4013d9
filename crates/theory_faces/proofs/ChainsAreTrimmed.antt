-- The chains of the runs of slabs that ascend are trimmed; no two of one face contain a point whose
-- abscissa is none of the sheet's; and there they mark what the runs mark.
use Rattle.std.proofs.Common.{◌≡◌, sym, ◌∙◌, ap, subst, inl, inr, ◌⊎◌, ⊎_elim, pos, ◌≤ℤ◌, true}
use Rattle.std.proofs.Common.{List, [], ◌∷◌, IsPermutation}
use Rattle.std.specs.List.{AllByRecursion}
use Rattle.std.proofs.lemmas.List.Sorted.{IsPermutation-sym}
use Rattle.theory_numbers.specs.Arrows.{Arrow}
use Rattle.theory_numbers.specs.Rationals.{IsRational, IsBelow, IsSame}
use Rattle.theory_numbers.proofs.Fractions.Rationals.{number_cases, same_sym, at_most_below_trans}
use Rattle.theory_plane.specs.Sides.{LineSide, clearance_at}
use Rattle.theory_plane.specs.Points.{FacePoint, IsFacePoint, abscissa_of}
use Rattle.theory_plane.specs.Regions.{Region, is_inside}
use Rattle.theory_lists.specs.Members.{AllOfTwo}
use Rattle.theory_lists.proofs.Members.{all_stands, all_follow, all_both}
use Rattle.theory_lists.proofs.InAnyOrder.{all_permuted, two_permuted}
use Rattle.theory_patches.specs.Marked.{IsPatch}
use Rattle.theory_patches.specs.Sheets.{Sheet, IsNoAbscissa, IsMarkedAt}
use Rattle.theory_patches.specs.Trimmed.{IsTrimmedList}
use Rattle.theory_patches.proofs.NoneBetween.{at_most_from_same}
use Rattle.theory_patches.proofs.TrimmedInAnyOrder.{marked_permuted}
use Rattle.theory_joining.specs.Runs.{AreApartIfAlike}
use Rattle.theory_joining.specs.Joined.{AreSpacedIfAlike}
use Rattle.theory_joining.specs.Put.{carried_on}
use Rattle.theory_joining.proofs.GoesOn.{GoesOn, carried_on_is_patch}
use Rattle.theory_joining.proofs.MarksOfPut.{inside_parts, inside_from}
use Rattle.theory_joining.proofs.JoinedIsTrimmed.{HasListedEnds, trimmed_if_spaced}
use Rattle.theory_faces.specs.Strips.{Mark, Strip}
use Rattle.theory_faces.specs.Chains.{chains, AreInOrder}
use Rattle.theory_faces.proofs.ChainsKeep.{chains_all, chains_two, SeesParts, chains_are_closed}
use Rattle.theory_faces.proofs.ChainsKeep.{chains_are_patches, chains_mark, chains_mark_no_more}
use Rattle.theory_faces.proofs.NoSeamInOrder.{AreInTurn, IsInTurn, IsNotAfter}
use Rattle.theory_faces.proofs.NoSeamInOrder.{in_turn_if_in_order, none_has_seam, key_sym, key_trans}
use Rattle.theory_faces.proofs.NoSeamInOrder.{HaveNoSeamIfAlike}
use Rattle.theory_faces.proofs.Slabs.SlabAfterSlab.{AreApartAt}

module _ (sheet : Sheet) where
  -- the strip begins and ends at an abscissa
  abbrev pub IsListed : Strip → Type 0
  IsListed p = HasListedEnds sheet p.region

  -- two in one do too
  pub carried_listed : (p q : Strip) → IsListed p → IsListed q → GoesOn p q
      → IsListed (carried_on p q)
  carried_listed p q p_in q_in on =
      record {
        patch = carried_on_is_patch p q p_in.patch q_in.patch on;
        begins = p_in.begins;
        ends = q_in.ends;
      }

  -- what lies over two in one, and is no abscissa, lies over one of the two
  over_one : (p q : Strip) → IsListed p → IsListed q → GoesOn p q → (u : Arrow) → IsRational u
      → IsNoAbscissa sheet u → IsBelow p.region.low u → IsBelow u q.region.high
      → IsBelow u p.region.high ⊎ IsBelow q.region.low u
  over_one p q p_in q_in on u u_in off after before = from (number_cases u p.region.high)
    where
      from : (IsBelow u p.region.high ⊎ IsSame u p.region.high) ⊎ IsBelow p.region.high u
          → IsBelow u p.region.high ⊎ IsBelow q.region.low u
      from (inl (inl less)) = inl less
      from (inl (inr at)) =
          absurd
          (all_stands (λ a. IsSame a u → ⊥) p.region.high sheet.abscissae off p_in.ends
          (same_sym u p.region.high at))
      from (inr more) =
          inr
          (at_most_below_trans q.region.low p.region.high u q_in.patch.region.low_in
          p_in.patch.region.high_in u_in
          (at_most_from_same q.region.low p.region.high
          (same_sym p.region.high q.region.low on.ends)) more)

  -- ---- apart

  apart_sees : SeesParts IsListed (AreApartIfAlike sheet)
  apart_sees =
      record {
        known = carried_listed;
        behind =
            λ x p q p_in q_in on from_p from_q alike u u_in off over_x over first second.
            ⊎_elim
            (λ less.
            from_p alike u u_in off over_x (record { after = over.after; before = less }) first
            second)
            (λ more.
            from_q (alike ∙ on.mark) u u_in off over_x
            (record { after = more; before = over.before })
            (subst (λ m. pos 0 ≤ℤ clearance_at x.region.lower m u) on.sides.upper first)
            (subst (λ l. pos 0 ≤ℤ clearance_at l x.region.upper u) on.sides.lower second))
            (over_one p q p_in q_in on u u_in off over.after over.before);
        before =
            λ p q y p_in q_in on from_p from_q alike u u_in off over over_y first second.
            ⊎_elim
            (λ less.
            from_p alike u u_in off (record { after = over.after; before = less }) over_y first
            second)
            (λ more.
            from_q (sym on.mark ∙ alike) u u_in off
            (record { after = more; before = over.before }) over_y
            (subst (λ l. pos 0 ≤ℤ clearance_at l y.region.upper u) on.sides.lower first)
            (subst (λ m. pos 0 ≤ℤ clearance_at y.region.lower m u) on.sides.upper second))
            (over_one p q p_in q_in on u u_in off over.after over.before);
      }

  -- ---- in turn and in order

  turn_sees : SeesParts IsListed IsInTurn
  turn_sees =
      record {
        known = carried_listed;
        behind = λ x p q p_in q_in on from_p from_q. from_p;
        before =
            λ p q y p_in q_in on from_p from_q key.
            from_q
            (key_trans q p y
            (sym (ap (λ m. m.face) on.mark), (sym on.sides.lower, sym on.sides.upper)) key);
      }

  order_sees : SeesParts IsListed IsNotAfter
  order_sees =
      record {
        known = carried_listed;
        behind = λ x p q p_in q_in on from_p from_q. from_p;
        before = λ p q y p_in q_in on from_p from_q. from_p;
      }

  -- ---- no common points

  module _ (point : FacePoint) (point_in : IsFacePoint point)
      (off : IsNoAbscissa sheet (abscissa_of point)) where
    in_one : (p q : Strip) → IsListed p → IsListed q → GoesOn p q
        → is_inside (carried_on p q).region point ≡ true
        → (is_inside p.region point ≡ true) ⊎ (is_inside q.region point ≡ true)
    in_one p q p_in q_in on inside =
        let is = inside_parts (carried_on p q).region point inside in
        ⊎_elim (λ less. inl (inside_from p.region point is.after less is.sides))
        (λ more.
        inr
        (subst (λ l. is_inside (region_with q.region.low q.region.high l q.region.upper) point ≡ true)
        on.sides.lower
        (subst
        (λ m. is_inside (region_with q.region.low q.region.high p.region.lower m) point ≡ true)
        on.sides.upper
        (inside_from (region_with q.region.low q.region.high p.region.lower p.region.upper) point
        more is.before is.sides))))
        (over_one p q p_in q_in on (abscissa_of point) point_in off is.after is.before)
      where
        region_with : Arrow → Arrow → LineSide → LineSide → Region
        region_with low high lower upper =
            record { low = low; high = high; lower = lower; upper = upper }

    apart_at_sees : SeesParts IsListed (AreApartAt point)
    apart_at_sees =
        record {
          known = carried_listed;
          behind =
              λ x p q p_in q_in on from_p from_q same at_x at.
              ⊎_elim (λ first. from_p same at_x first)
              (λ second. from_q (same ∙ ap (λ m. m.face) on.mark) at_x second)
              (in_one p q p_in q_in on at);
          before =
              λ p q y p_in q_in on from_p from_q same at at_y.
              ⊎_elim (λ first. from_p same first at_y)
              (λ second. from_q (sym (ap (λ m. m.face) on.mark) ∙ same) second at_y)
              (in_one p q p_in q_in on at);
        }

  -- ---- all chains

  module _ (runs sorted : List Strip) (permuted : IsPermutation runs sorted)
      (listed : AllByRecursion IsListed runs) where
    sorted_listed : AllByRecursion IsListed sorted
    sorted_listed = all_permuted IsListed runs sorted permuted listed

    sorted_patches : AllByRecursion (λ p. IsPatch p.region) sorted
    sorted_patches = all_follow (λ p p_in. p_in.patch) sorted sorted_listed

    -- what holds of each run, also of two in one, holds of each chain
    pub each_chain : (P : Strip → Type 0)
        → ((p q : Strip) → IsListed p → IsListed q → GoesOn p q → P p → P q → P (carried_on p q))
        → AllByRecursion P runs → AllByRecursion P (chains sorted)
    each_chain P together all =
        chains_all IsListed P carried_listed together sorted sorted_listed
        (all_permuted P runs sorted permuted all)

    chains_listed : AllByRecursion IsListed (chains sorted)
    chains_listed =
        each_chain IsListed (λ p q p_in q_in on at_p at_q. carried_listed p q p_in q_in on) listed

    -- the chains are trimmed
    pub chains_are_trimmed : AllOfTwo (AreApartIfAlike sheet) runs → AllOfTwo AreInTurn runs
        → AreInOrder sorted → IsTrimmedList sheet (chains sorted)
    chains_are_trimmed apart turns order =
        let patches = chains_are_patches sorted sorted_patches in
        let turned : AllOfTwo IsInTurn sorted =
        in_turn sorted sorted_patches
        (two_permuted AreInTurn turn_back runs sorted permuted turns) order
        in
        record {
          patches = patches;
          trimmed =
              trimmed_if_spaced sheet (chains sorted) chains_listed
              (spaced (chains sorted)
              (chains_two IsListed (AreApartIfAlike sheet) apart_sees sorted sorted_listed
              (two_permuted (AreApartIfAlike sheet)
              (λ p q two alike u u_in off over_q over_p first second.
              two (sym alike) u u_in off over_p over_q second first)
              runs sorted permuted apart))
              (none_has_seam (chains sorted) patches
              (chains_two IsListed IsInTurn turn_sees sorted sorted_listed turned)
              (chains_two IsListed IsNotAfter order_sees sorted sorted_listed order)
              (chains_are_closed sorted)));
        }
      where
        turn_back : (p q : Strip) → AreInTurn p q → AreInTurn q p
        turn_back p q turn key =
            ⊎_elim (λ first. inr first) (λ second. inl second) (turn (key_sym q p key))

        in_turn : (ps : List Strip) → AllByRecursion (λ p. IsPatch p.region) ps
            → AllOfTwo AreInTurn ps → AllOfTwo IsNotAfter ps → AllOfTwo IsInTurn ps
        in_turn [] patches turns order = tt
        in_turn (p ∷ ps) patches turns order = (
          all_follow
              (λ q at. in_turn_if_in_order p q patches.0 at.0 at.1.0 at.1.1) ps
              (all_both (λ q. IsPatch q.region) _ ps patches.1
              (all_both (AreInTurn p) (IsNotAfter p) ps turns.0 order.0)),
          in_turn ps patches.1 turns.1 order.1,
        )

        spaced : (ps : List Strip) → AllOfTwo (AreApartIfAlike sheet) ps
            → AllOfTwo HaveNoSeamIfAlike ps → AllOfTwo (AreSpacedIfAlike sheet) ps
        spaced [] apart none = tt
        spaced (p ∷ ps) apart none = (
          all_follow
              (λ q at alike. record { apart = at.0 alike; no_seam = at.1 alike }) ps
              (all_both (AreApartIfAlike sheet p) (HaveNoSeamIfAlike p) ps apart.0 none.0),
          spaced ps apart.1 none.1,
        )

    module _ (point : FacePoint) (point_in : IsFacePoint point)
        (off : IsNoAbscissa sheet (abscissa_of point)) where
      -- no two of one face contain the point
      pub chains_apart_at : AllOfTwo (AreApartAt point) runs
          → AllOfTwo (AreApartAt point) (chains sorted)
      chains_apart_at apart =
          chains_two IsListed (AreApartAt point) (apart_at_sees point point_in off) sorted
          sorted_listed
          (two_permuted (AreApartAt point) (λ p q two same at_q at_p. two (sym same) at_p at_q) runs
          sorted permuted apart)

      -- they mark there what the runs mark
      pub chains_have_marks : (mark : Mark) → IsMarkedAt runs point mark
          → IsMarkedAt (chains sorted) point mark
      chains_have_marks mark marked =
          chains_mark point point_in mark sorted sorted_patches
          (marked_permuted runs sorted permuted point mark marked)

      -- and nothing else
      pub chains_have_no_more : (mark : Mark) → IsMarkedAt (chains sorted) point mark
          → IsMarkedAt runs point mark
      chains_have_no_more mark marked =
          marked_permuted sorted runs (IsPermutation-sym runs sorted permuted) point mark
          (chains_mark_no_more point point_in mark sorted sorted_patches
          (all_follow
          (λ p p_in.
          all_stands (λ a. IsSame a (abscissa_of point) → ⊥) p.region.low sheet.abscissae off
          p_in.begins) sorted sorted_listed)
          marked)
