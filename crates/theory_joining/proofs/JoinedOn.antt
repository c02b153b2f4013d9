-- The step: what is joined up to the beginning of a slab is joined up to its end once the runs of
-- the slab are put to it.
use Rattle.std.proofs.Common.{◌≡◌, ◌↔◌, sym, subst, inl, inr, ◌⊎◌, Bool, List}
use Rattle.std.specs.List.{AllByRecursion}
use Rattle.std.proofs.Common.{[], ◌∷◌}
use Rattle.std.proofs.lemmas.List.Sorted.{IsPermutation-refl}
use Rattle.theory_numbers.specs.Arrows.{Arrow}
use Rattle.theory_numbers.specs.Rationals.{IsRational, IsBelow, IsSame}
use Rattle.theory_numbers.proofs.Fractions.Rationals.{number_cases, below_clash}
use Rattle.theory_numbers.proofs.Fractions.Rationals.{below_at_most_trans, at_most_trans, at_most_from_below}
use Rattle.theory_plane.specs.Points.{FacePoint, IsFacePoint, abscissa_of}
use Rattle.theory_plane.specs.Regions.{Region}
use Rattle.theory_lists.specs.Members.{Stands}
use Rattle.theory_lists.proofs.Members.{all_stands, all_follow}
use Rattle.theory_patches.specs.Marked.{MarkedPatch, IsPatch}
use Rattle.theory_patches.specs.Sheets.{Sheet, IsSheet, IsOffCuts, IsMarkedAt}
use Rattle.theory_joining.specs.Runs.{IsSlab, IsRunOver, AreApartIfAlike, AreRunsOver}
use Rattle.theory_joining.specs.Joined.{IsPatchUpTo, IsJoinedUpTo}
use Rattle.theory_joining.specs.Put.{put, put_all, ArePutTo}
use Rattle.theory_joining.specs.Laws.{TellsEqual, Passes, HasStep, HasStepInAnyOrder}
use Rattle.theory_joining.proofs.MarksOfPut.{inside_parts, runs_add_marks, runs_add_no_more}
use Rattle.theory_joining.proofs.PutIsSpaced.{runs_up_to, runs_stay_spaced}

module _ (sheet : Sheet) (sheet_in : IsSheet sheet) (cur next : Arrow)
    (slab : IsSlab sheet cur next) where
  cur_in : IsRational cur
  cur_in = all_stands IsRational cur sheet.abscissae sheet_in.abscissae_in slab.begins

  -- what reaches up to the beginning reaches up to the end
  up_to_end : (p : Region) → IsPatchUpTo sheet cur p → IsPatchUpTo sheet next p
  up_to_end p p_in =
      record {
        patch = p_in.patch;
        begins = p_in.begins;
        ends = inr (end_listed p_in.ends);
        within =
            at_most_trans p.high cur next p_in.patch.region.high_in cur_in slab.end_in p_in.within
            (at_most_from_below cur next slab.wide);
      }
    where
      end_listed : (p.high ≡ cur) ⊎ Stands p.high sheet.abscissae → Stands p.high sheet.abscissae
      end_listed (inl at_cur) =
          subst (λ n. Stands n sheet.abscissae) (sym at_cur) slab.begins
      end_listed (inr listed) = listed

  -- and has nothing inside in common with a run of the slab
  apart_before : {M : Type 0} (p r : MarkedPatch M) → IsPatchUpTo sheet cur p.region
      → IsRunOver cur next r.region → AreApartIfAlike sheet p r
  apart_before p r p_in r_is alike u u_in off over_p over_r first second =
      below_clash cur u (subst (λ n. IsBelow n u) r_is.begins over_r.after)
      (at_most_from_below u cur
      (below_at_most_trans u p.region.high cur u_in p_in.patch.region.high_in cur_in over_p.before
      p_in.within))

  module _ {M : Type 0} (Has : FacePoint → M → Type 0) (same : M → M → Bool)
      (tells : TellsEqual same) (ps rs qs : List (MarkedPatch M))
      (joined : IsJoinedUpTo sheet Has cur ps) (runs : AreRunsOver sheet Has cur next rs)
      (are_put : ArePutTo same rs ps qs) where
    patches : AllByRecursion (λ p. IsPatch p.region) ps
    patches = all_follow (λ p p_in. p_in.patch) ps joined.patches

    are_runs : AllByRecursion (λ r. IsPatch r.region) rs
    are_runs = all_follow (λ r r_is. r_is.patch) rs runs.runs

    patches_up_to : AllByRecursion (λ p. IsPatchUpTo sheet next p.region) ps
    patches_up_to = all_follow (λ p p_in. up_to_end p.region p_in) ps joined.patches

    from_list : AllByRecursion (λ r. AllByRecursion (λ p. AreApartIfAlike sheet p r) ps) rs
    from_list =
        all_follow
        (λ r r_is. all_follow (λ p p_in. apart_before p r p_in r_is) ps joined.patches) rs runs.runs

    module _ (point : FacePoint) (point_in : IsFacePoint point) (off : IsOffCuts sheet point)
        (mark : M) where
      not_at_cur : IsSame cur (abscissa_of point) → ⊥
      not_at_cur =
          all_stands (λ a. IsSame a (abscissa_of point) → ⊥) cur sheet.abscissae off.no_abscissa
          slab.begins

      -- before the slab the runs mark nothing, in it the list marks nothing
      run_is_after : IsMarkedAt rs point mark → IsBelow cur (abscissa_of point)
      run_is_after (r, stands, has_mark, inside) =
          let r_is = all_stands (λ s. IsRunOver cur next s.region) r rs runs.runs stands in
          subst (λ n. IsBelow n (abscissa_of point)) r_is.begins
          (inside_parts r.region point inside).after

      patch_is_before : IsMarkedAt ps point mark → IsBelow (abscissa_of point) cur
      patch_is_before (p, stands, has_mark, inside) =
          let p_in =
          all_stands (λ q. IsPatchUpTo sheet cur q.region) p ps joined.patches stands
          in
          below_at_most_trans (abscissa_of point) p.region.high cur point_in
          p_in.patch.region.high_in cur_in (inside_parts p.region point inside).before p_in.within

      no_more : IsMarkedAt qs point mark
          → IsMarkedAt rs point mark ⊎ IsMarkedAt ps point mark
      no_more =
          runs_add_no_more point point_in mark same tells rs are_runs
          (all_follow
          (λ r r_is at.
          not_at_cur (subst (λ n. IsSame n (abscissa_of point)) r_is.begins at))
          rs runs.runs)
          ps qs are_put patches

      all_there : IsMarkedAt rs point mark ⊎ IsMarkedAt ps point mark
          → IsMarkedAt qs point mark
      all_there = runs_add_marks point point_in mark same tells rs are_runs ps qs are_put patches

      marks_before_end : IsBelow (abscissa_of point) next
          → IsMarkedAt qs point mark ↔ Has point mark
      marks_before_end before = (λ marked. to (no_more marked), λ has. back has)
        where
          to : IsMarkedAt rs point mark ⊎ IsMarkedAt ps point mark → Has point mark
          to (inl in_run) =
              (runs.marks point point_in off
              (record { after = run_is_after in_run; before = before }) mark).0
              in_run
          to (inr in_patch) =
              (joined.marks point point_in off (patch_is_before in_patch) mark).0 in_patch

          from : Has point mark
              → (IsBelow cur (abscissa_of point) ⊎ IsSame cur (abscissa_of point))
              ⊎ IsBelow (abscissa_of point) cur
              → IsMarkedAt rs point mark ⊎ IsMarkedAt ps point mark
          from has (inl (inl after)) =
              inl
              ((runs.marks point point_in off (record { after = after; before = before }) mark).1
              has)
          from has (inl (inr at)) = absurd (not_at_cur at)
          from has (inr earlier) = inr ((joined.marks point point_in off earlier mark).1 has)

          back : Has point mark → IsMarkedAt qs point mark
          back has = all_there (from has (number_cases cur (abscissa_of point)))

    -- the step, for marks of any type and any relation of points and marks, in whatever order the
    -- patches stand after each put
    pub joined_in_any_order : IsJoinedUpTo sheet Has next qs
    joined_in_any_order =
        record {
          patches =
              runs_up_to sheet cur next slab same tells rs runs.runs ps qs are_put patches_up_to;
          spaced =
              runs_stay_spaced sheet cur next slab same tells rs runs.runs runs.apart ps qs are_put
              patches_up_to from_list joined.spaced;
          marks =
              λ point point_in off before mark.
              marks_before_end point point_in off mark before;
        }

-- all runs are put to a list one by one
put_all_is_put : {M : Type 0} (same : M → M → Bool) (rs ps : List (MarkedPatch M))
    → ArePutTo same rs ps (put_all same rs ps)
put_all_is_put same [] ps = IsPermutation-refl ps
put_all_is_put same (r ∷ rs) ps =
    (put same r ps, IsPermutation-refl (put same r ps), put_all_is_put same rs (put same r ps))

-- so it is with the list to which all runs are put
pub joined_on : {M : Type 0} (sheet : Sheet) → IsSheet sheet → (cur next : Arrow)
    → IsSlab sheet cur next → (Has : FacePoint → M → Type 0) (same : M → M → Bool)
    → TellsEqual same → (ps rs : List (MarkedPatch M)) → IsJoinedUpTo sheet Has cur ps
    → AreRunsOver sheet Has cur next rs → IsJoinedUpTo sheet Has next (put_all same rs ps)
joined_on sheet sheet_in cur next slab Has same tells ps rs joined runs =
    joined_in_any_order sheet sheet_in cur next slab Has same tells ps rs (put_all same rs ps)
    joined runs (put_all_is_put same rs ps)

-- the step as the contract has it
pub has_step : (M : Type 0) → HasStep M
has_step M sheet has same cur next ps rs sheet_in tells slab joined runs =
    joined_on sheet sheet_in cur next slab (Passes has) same tells ps rs joined runs

-- and its other clause
pub has_step_in_any_order : (M : Type 0) → HasStepInAnyOrder M
has_step_in_any_order M sheet has same cur next ps rs qs sheet_in tells slab joined runs are_put =
    joined_in_any_order sheet sheet_in cur next slab (Passes has) same tells ps rs qs joined runs
    are_put
