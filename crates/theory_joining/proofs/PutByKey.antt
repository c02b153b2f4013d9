-- What a put does, for who looks a patch up by its sides and its mark: it carries on the one patch
-- that the run goes on with, or adds the run where there is none.
use Rattle.std.proofs.Common.{◌≡◌, refl, sym, ◌∙◌, ap, subst, inl, inr, ◌⊎◌, arith, pos, ◌≤ℤ◌}
use Rattle.std.proofs.Common.{Bool, true, false, if◌then◌else◌, List, [], ◌∷◌, ◌++◌}
use Rattle.std.proofs.lemmas.Int.{ints}
use Rattle.std.proofs.lemmas.Bool.{false_from_ne_true}
use Rattle.std.specs.List.{AllByRecursion}
use Rattle.theory_numbers.specs.Arrows.{Arrow}
use Rattle.theory_numbers.specs.Rationals.{IsRational, IsBelow, IsAtMost, IsSame}
use Rattle.theory_numbers.specs.Intervals.{another}
use Rattle.theory_numbers.proofs.Fractions.Avoid.{another_is, IsAnother}
use Rattle.theory_numbers.proofs.Fractions.Rationals.{below_or_not, at_most_below_trans}
use Rattle.theory_numbers.proofs.Fractions.Rationals.{below_at_most_trans, at_most_refl, at_most_from_below}
use Rattle.theory_numbers.proofs.Fractions.Rationals.{same_sym, same_trans}
use Rattle.theory_plane.specs.Sides.{clearance_at}
use Rattle.theory_plane.proofs.Regions.{open_between}
use Rattle.theory_lists.specs.Members.{AllOfTwo}
use Rattle.theory_lists.proofs.Members.{all_stands}
use Rattle.theory_lists.proofs.SameMembers.{stands_between}
use Rattle.theory_patches.specs.Marked.{MarkedPatch, IsPatch}
use Rattle.theory_patches.specs.Sheets.{Sheet, IsSheet}
use Rattle.theory_patches.proofs.NoneBetween.{at_most_from_same}
use Rattle.theory_patches.specs.Trimmed.{IsOver}
use Rattle.theory_joining.specs.Joined.{AreSpacedIfAlike}
use Rattle.theory_joining.specs.Put.{goes_on, carried_on, put}
use Rattle.theory_joining.specs.Laws.{TellsEqual}
use Rattle.theory_joining.proofs.GoesOn.{GoesOn, goes_on_from}

-- where the run goes on with no patch it is added
pub put_adds : {M : Type 0} (same : M → M → Bool) (r : MarkedPatch M) (ps : List (MarkedPatch M))
    → AllByRecursion (λ p. goes_on same p r ≡ false) ps → put same r ps ≡ ps ++ r ∷ []
put_adds same r [] none = refl
put_adds same r (p ∷ ps) none = from (goes_on same p r) none.0 (put_adds same r ps none.1)
  where
    from : (b : Bool) → b ≡ false → put same r ps ≡ ps ++ r ∷ []
        → (if b then carried_on p r ∷ ps else p ∷ put same r ps) ≡ p ∷ (ps ++ r ∷ [])
    from true none_there rest = cc
    from false none_there rest = ap (λ qs. p ∷ qs) rest

-- where it goes on with a patch, and with none before it, that one is carried on
pub put_carries_on : {M : Type 0} (same : M → M → Bool) (p r : MarkedPatch M)
    (front back : List (MarkedPatch M)) → goes_on same p r ≡ true
    → AllByRecursion (λ q. goes_on same q r ≡ false) front
    → put same r (front ++ p ∷ back) ≡ front ++ carried_on p r ∷ back
put_carries_on same p r [] back on none =
    ap (λ b. if b then carried_on p r ∷ back else p ∷ put same r back) on
put_carries_on same p r (q ∷ front) back on none =
    from (goes_on same q r) none.0 (put_carries_on same p r front back on none.1)
  where
    from : (b : Bool) → b ≡ false
        → put same r (front ++ p ∷ back) ≡ front ++ carried_on p r ∷ back
        → (if b then carried_on q r ∷ (front ++ p ∷ back) else q ∷ put same r (front ++ p ∷ back))
        ≡ q ∷ (front ++ carried_on p r ∷ back)
    from true none_there rest = cc
    from false none_there rest = ap (λ qs. q ∷ qs) rest

-- ---- a run goes on with one patch of a spaced list at most

module _ {M : Type 0} (sheet : Sheet) (sheet_in : IsSheet sheet) (p q r : MarkedPatch M)
    (p_in : IsPatch p.region) (q_in : IsPatch q.region) (p_on : GoesOn p r) (q_on : GoesOn q r)
    (r_in : IsPatch r.region) (spaced : AreSpacedIfAlike sheet p q) where
  one_end : IsSame p.region.high q.region.high
  one_end =
      same_trans p.region.high r.region.low q.region.high r_in.region.low_in p_on.ends
      (same_sym q.region.high r.region.low q_on.ends)

  -- over a stretch that ends where both end they would touch
  touch : (s : Arrow) → IsRational s → IsBelow s p.region.high → IsAtMost p.region.low s
      → IsAtMost q.region.low s → ⊥
  touch s s_in wide from_p from_q =
      let u = another s p.region.high sheet.abscissae in
      let is : IsAnother s p.region.high sheet.abscissae u =
      another_is s p.region.high s_in p_in.region.high_in wide sheet.abscissae
      sheet_in.abscissae_in
      in
      let over_p : IsOver p.region u =
      record {
        after =
            at_most_below_trans p.region.low s u p_in.region.low_in s_in is.rational from_p
            is.after;
        before = is.before;
      }
      in
      let over_q : IsOver q.region u =
      record {
        after =
            at_most_below_trans q.region.low s u q_in.region.low_in s_in is.rational from_q
            is.after;
        before =
            below_at_most_trans u p.region.high q.region.high is.rational p_in.region.high_in
            q_in.region.high_in is.before
            (at_most_from_same p.region.high q.region.high one_end);
      }
      in
      let above = open_between p.region p_in.region u is.rational over_p.after over_p.before in
      let weak : pos 0 ≤ℤ clearance_at p.region.lower p.region.upper u = omega (arith, ints) in
      (spaced (p_on.mark ∙ sym q_on.mark)).apart u is.rational is.apart over_p over_q
      (subst (λ m. pos 0 ≤ℤ clearance_at p.region.lower m u)
      (p_on.sides.upper ∙ sym q_on.sides.upper) weak)
      (subst (λ l. pos 0 ≤ℤ clearance_at l p.region.upper u)
      (p_on.sides.lower ∙ sym q_on.sides.lower) weak)

  -- so it does not go on with two
  pub goes_on_with_one : ⊥
  goes_on_with_one = from (below_or_not p.region.low q.region.low)
    where
      from : IsBelow p.region.low q.region.low ⊎ IsAtMost q.region.low p.region.low → ⊥
      from (inl sooner) =
          touch q.region.low q_in.region.low_in
          (below_at_most_trans q.region.low q.region.high p.region.high q_in.region.low_in
          q_in.region.high_in p_in.region.high_in q_in.region.wide
          (at_most_from_same q.region.high p.region.high
          (same_sym p.region.high q.region.high one_end)))
          (at_most_from_below p.region.low q.region.low sooner) (at_most_refl q.region.low)
      from (inr later) =
          touch p.region.low p_in.region.low_in p_in.region.wide (at_most_refl p.region.low) later

-- ---- so whoever has found the one has all that a put does

module _ {M : Type 0} (sheet : Sheet) (sheet_in : IsSheet sheet) (same : M → M → Bool)
    (tells : TellsEqual same) (p r : MarkedPatch M) (r_in : IsPatch r.region)
    (on : goes_on same p r ≡ true) where
  none_in_front : (front back : List (MarkedPatch M))
      → AllByRecursion (λ q. IsPatch q.region) (front ++ p ∷ back)
      → AllOfTwo (AreSpacedIfAlike sheet) (front ++ p ∷ back)
      → AllByRecursion (λ q. goes_on same q r ≡ false) front
  none_in_front [] back patches spaced = tt
  none_in_front (q ∷ front) back patches spaced = (
    false_from_ne_true (goes_on same q r)
        (λ answer.
        goes_on_with_one sheet sheet_in q p r patches.0
        (all_stands (λ x. IsPatch x.region) p (front ++ p ∷ back) patches.1
        (stands_between p front back))
        (goes_on_from same tells q r answer) (goes_on_from same tells p r on) r_in
        (all_stands (AreSpacedIfAlike sheet q) p (front ++ p ∷ back) spaced.0
        (stands_between p front back))),
    none_in_front front back patches.1 spaced.1,
  )

  -- the put carries on this patch, wherever it stands in the list
  pub put_carries_on_the_one : (front back : List (MarkedPatch M))
      → AllByRecursion (λ q. IsPatch q.region) (front ++ p ∷ back)
      → AllOfTwo (AreSpacedIfAlike sheet) (front ++ p ∷ back)
      → put same r (front ++ p ∷ back) ≡ front ++ carried_on p r ∷ back
  put_carries_on_the_one front back patches spaced =
      put_carries_on same p r front back on (none_in_front front back patches spaced)
