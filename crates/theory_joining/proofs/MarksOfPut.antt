-- Off the line on which they begin, runs that are put to a list add to its marks what they mark,
-- and nothing else.
use Rattle.std.proofs.Common.{◌≡◌, refl, sym, ap₂, inl, inr, ◌⊎◌, ⊎_elim, pos}
use Rattle.std.proofs.Common.{Bool, true, false, ◌&&◌, if◌then◌else◌, List, [], ◌∷◌, ◌∙◌}
use Rattle.std.proofs.lemmas.Bool.{and_parts, and_from}
use Rattle.std.specs.List.{AllByRecursion}
use Rattle.theory_numbers.specs.Arrows.{cross}
use Rattle.theory_numbers.specs.Rationals.{IsBelow, IsSame, is_below}
use Rattle.theory_numbers.proofs.Signs.{test_less, less_from}
use Rattle.theory_numbers.proofs.Fractions.Rationals.{below_trans, number_cases, same_sym, same_trans}
use Rattle.theory_numbers.proofs.Fractions.Rationals.{at_most_below_trans}
use Rattle.theory_plane.specs.Points.{FacePoint, IsFacePoint, abscissa_of, is_above_side}
use Rattle.theory_plane.specs.Points.{is_under_side}
use Rattle.theory_plane.specs.Regions.{Region, is_inside, is_spanned}
use Rattle.theory_patches.specs.Marked.{MarkedPatch, IsPatch}
use Rattle.theory_patches.specs.Sheets.{IsMarkedAt}
use Rattle.theory_patches.proofs.NoneBetween.{at_most_from_same}
use Rattle.theory_patches.proofs.MarkedAt.{Marks, marked_first, marked_later, marked_cases}
use Rattle.theory_patches.proofs.MarkedAt.{none_marked}
use Rattle.theory_joining.specs.Put.{goes_on, carried_on, put, ArePutTo}
use Rattle.std.proofs.lemmas.List.Sorted.{IsPermutation-sym}
use Rattle.theory_lists.proofs.InAnyOrder.{all_permuted}
use Rattle.theory_patches.proofs.TrimmedInAnyOrder.{marked_permuted}
use Rattle.theory_joining.specs.Laws.{TellsEqual}
use Rattle.theory_joining.proofs.GoesOn.{GoesOn, goes_on_from, carried_on_is_patch}
use Rattle.theory_joining.proofs.GoesOn.{ends_beyond_joint}

-- the point lies between the sides of the region
abbrev pub is_between_sides : Region → FacePoint → Bool
is_between_sides p point = is_above_side p.lower point && is_under_side p.upper point

-- it lies inside where its abscissa lies between the ends and it lies between the sides
pub inside_from : (p : Region) (point : FacePoint) → IsBelow p.low (abscissa_of point)
    → IsBelow (abscissa_of point) p.high → is_between_sides p point ≡ true
    → is_inside p point ≡ true
inside_from p point after before sides =
    and_from (is_spanned p (abscissa_of point)) (is_between_sides p point)
    (and_from (is_below p.low (abscissa_of point)) (is_below (abscissa_of point) p.high)
    (test_less (pos 0) (cross p.low (abscissa_of point)) after)
    (test_less (pos 0) (cross (abscissa_of point) p.high) before))
    sides

-- and only there
pub record IsInsideBy (p : Region) (point : FacePoint) : Type 0 where
  pub after : IsBelow p.low (abscissa_of point)
  pub before : IsBelow (abscissa_of point) p.high
  pub sides : is_between_sides p point ≡ true

-- a point inside a region lies between its ends and between its sides
pub inside_parts : (p : Region) (point : FacePoint) → is_inside p point ≡ true
    → IsInsideBy p point
inside_parts p point answer =
    let parts = and_parts (is_spanned p (abscissa_of point)) (is_between_sides p point) answer in
    let ends =
    and_parts (is_below p.low (abscissa_of point)) (is_below (abscissa_of point) p.high) parts.0
    in
    record {
      after = less_from (pos 0) (cross p.low (abscissa_of point)) ends.0;
      before = less_from (pos 0) (cross (abscissa_of point) p.high) ends.1;
      sides = parts.1;
    }

module _ {M : Type 0} (point : FacePoint) (point_in : IsFacePoint point) (mark : M) where
  -- ---- a patch that is carried on

  module _ (p r : MarkedPatch M) (p_in : IsPatch p.region) (r_in : IsPatch r.region)
      (on : GoesOn p r) where
    same_sides : is_between_sides p.region point ≡ is_between_sides r.region point
    same_sides =
        ap₂ (λ l m. is_above_side l point && is_under_side m point) on.sides.lower on.sides.upper

    -- marks what it marked
    carried_marks_old : Marks p point mark → Marks (carried_on p r) point mark
    carried_marks_old marks =
        let is = inside_parts p.region point marks.inside in
        record {
          has_mark = marks.has_mark;
          inside =
              inside_from (carried_on p r).region point is.after
              (below_trans (abscissa_of point) p.region.high r.region.high point_in
              p_in.region.high_in r_in.region.high_in is.before
              (ends_beyond_joint p r p_in r_in on))
              is.sides;
        }

    -- and what the run marks
    carried_marks_new : Marks r point mark → Marks (carried_on p r) point mark
    carried_marks_new marks =
        let is = inside_parts r.region point marks.inside in
        record {
          has_mark = on.mark ∙ marks.has_mark;
          inside =
              inside_from (carried_on p r).region point
              (below_trans p.region.low p.region.high (abscissa_of point) p_in.region.low_in
              p_in.region.high_in point_in p_in.region.wide
              (at_most_below_trans p.region.high r.region.low (abscissa_of point)
              p_in.region.high_in r_in.region.low_in point_in
              (at_most_from_same p.region.high r.region.low on.ends) is.after))
              is.before (same_sides ∙ is.sides);
        }

    -- and nothing else, but on the line between them
    carried_marks_no_more : (IsSame r.region.low (abscissa_of point) → ⊥)
        → Marks (carried_on p r) point mark → Marks p point mark ⊎ Marks r point mark
    carried_marks_no_more off marks = from (number_cases (abscissa_of point) p.region.high)
      where
        is : IsInsideBy (carried_on p r).region point
        is = inside_parts (carried_on p r).region point marks.inside

        from : (IsBelow (abscissa_of point) p.region.high
            ⊎ IsSame (abscissa_of point) p.region.high)
            ⊎ IsBelow p.region.high (abscissa_of point)
            → Marks p point mark ⊎ Marks r point mark
        from (inl (inl less)) =
            inl
            (record {
              has_mark = marks.has_mark;
              inside = inside_from p.region point is.after less is.sides;
            })
        from (inl (inr at)) =
            absurd
            (off
            (same_sym (abscissa_of point) r.region.low
            (same_trans (abscissa_of point) p.region.high r.region.low p_in.region.high_in at
            on.ends)))
        from (inr more) =
            inr
            (record {
              has_mark = sym on.mark ∙ marks.has_mark;
              inside =
                  inside_from r.region point
                  (at_most_below_trans r.region.low p.region.high (abscissa_of point)
                  r_in.region.low_in p_in.region.high_in point_in
                  (at_most_from_same r.region.low p.region.high
                  (same_sym p.region.high r.region.low on.ends)) more)
                  is.before (sym same_sides ∙ is.sides);
            })

  -- ---- one run

  module _ (same : M → M → Bool) (tells : TellsEqual same) (r : MarkedPatch M)
      (r_in : IsPatch r.region) where
    -- the list keeps its marks and has those of the run
    put_marks : (ps : List (MarkedPatch M)) → AllByRecursion (λ p. IsPatch p.region) ps
        → Marks r point mark ⊎ IsMarkedAt ps point mark → IsMarkedAt (put same r ps) point mark
    put_marks [] patches (inl new) = marked_first point mark r [] new
    put_marks [] patches (inr old) = absurd (none_marked point mark old)
    put_marks (p ∷ ps) patches marks =
        from (goes_on same p r) (goes_on_from same tells p r) (put_marks ps patches.1)
        (⊎_elim (λ new. inl new) (λ old. inr (marked_cases point mark p ps old)) marks)
      where
        from : (b : Bool) → (b ≡ true → GoesOn p r)
            → (Marks r point mark ⊎ IsMarkedAt ps point mark
            → IsMarkedAt (put same r ps) point mark)
            → Marks r point mark ⊎ (Marks p point mark ⊎ IsMarkedAt ps point mark)
            → IsMarkedAt (if b then carried_on p r ∷ ps else p ∷ put same r ps) point mark
        from true on rest (inl new) =
            marked_first point mark (carried_on p r) ps
            (carried_marks_new p r patches.0 r_in (on refl) new)
        from true on rest (inr (inl first)) =
            marked_first point mark (carried_on p r) ps
            (carried_marks_old p r patches.0 r_in (on refl) first)
        from true on rest (inr (inr later)) = marked_later point mark (carried_on p r) ps later
        from false on rest (inl new) = marked_later point mark p (put same r ps) (rest (inl new))
        from false on rest (inr (inl first)) = marked_first point mark p (put same r ps) first
        from false on rest (inr (inr later)) =
            marked_later point mark p (put same r ps) (rest (inr later))

    -- and no more, but on the line on which the run begins
    put_marks_no_more : (IsSame r.region.low (abscissa_of point) → ⊥) → (ps : List (MarkedPatch M))
        → AllByRecursion (λ p. IsPatch p.region) ps → IsMarkedAt (put same r ps) point mark
        → Marks r point mark ⊎ IsMarkedAt ps point mark
    put_marks_no_more off [] patches marked = marked_cases point mark r [] marked
    put_marks_no_more off (p ∷ ps) patches marked =
        from (goes_on same p r) (goes_on_from same tells p r) (put_marks_no_more off ps patches.1)
        marked
      where
        after_first : Marks r point mark ⊎ IsMarkedAt ps point mark
            → Marks r point mark ⊎ IsMarkedAt (p ∷ ps) point mark
        after_first (inl new) = inl new
        after_first (inr old) = inr (marked_later point mark p ps old)

        of_first : Marks p point mark ⊎ Marks r point mark
            → Marks r point mark ⊎ IsMarkedAt (p ∷ ps) point mark
        of_first (inl old) = inr (marked_first point mark p ps old)
        of_first (inr new) = inl new

        of_cases_on : GoesOn p r → Marks (carried_on p r) point mark ⊎ IsMarkedAt ps point mark
            → Marks r point mark ⊎ IsMarkedAt (p ∷ ps) point mark
        of_cases_on on (inl first) =
            of_first (carried_marks_no_more p r patches.0 r_in on off first)
        of_cases_on on (inr later) = inr (marked_later point mark p ps later)

        of_cases : (IsMarkedAt (put same r ps) point mark
            → Marks r point mark ⊎ IsMarkedAt ps point mark)
            → Marks p point mark ⊎ IsMarkedAt (put same r ps) point mark
            → Marks r point mark ⊎ IsMarkedAt (p ∷ ps) point mark
        of_cases rest (inl first) = inr (marked_first point mark p ps first)
        of_cases rest (inr later) = after_first (rest later)

        from : (b : Bool) → (b ≡ true → GoesOn p r)
            → (IsMarkedAt (put same r ps) point mark
            → Marks r point mark ⊎ IsMarkedAt ps point mark)
            → IsMarkedAt (if b then carried_on p r ∷ ps else p ∷ put same r ps) point mark
            → Marks r point mark ⊎ IsMarkedAt (p ∷ ps) point mark
        from true on rest marked =
            of_cases_on (on refl) (marked_cases point mark (carried_on p r) ps marked)
        from false on rest marked =
            of_cases rest (marked_cases point mark p (put same r ps) marked)

-- ---- all of a list after a put

-- what holds of the run and of each patch, also of one that is carried on, holds of the new list
pub all_put : {M : Type 0} (same : M → M → Bool) (r : MarkedPatch M) (P : MarkedPatch M → Type 0)
    → ((p : MarkedPatch M) → P p → goes_on same p r ≡ true → P (carried_on p r)) → P r
    → (ps : List (MarkedPatch M)) → AllByRecursion P ps → AllByRecursion P (put same r ps)
all_put same r P carried run [] all = (run, tt)
all_put {M} same r P carried run (p ∷ ps) all =
    from (goes_on same p r) (carried p all.0) (all_put same r P carried run ps all.1)
  where
    from : (b : Bool) → (b ≡ true → P (carried_on p r)) → AllByRecursion P (put same r ps)
        → AllByRecursion P (if b then carried_on p r ∷ ps else p ∷ put same r ps)
    from true on rest = (on refl, all.1)
    from false on rest = (all.0, rest)

-- a list of patches stays one
pub put_patches : {M : Type 0} (same : M → M → Bool) → TellsEqual same → (r : MarkedPatch M)
    → IsPatch r.region → (ps : List (MarkedPatch M)) → AllByRecursion (λ p. IsPatch p.region) ps
    → AllByRecursion (λ p. IsPatch p.region) (put same r ps)
put_patches same tells r r_in ps patches =
    all_put same r (λ p. IsPatch p.region)
    (λ p p_in on. carried_on_is_patch p r p_in r_in (goes_on_from same tells p r on)) r_in ps
    patches

-- ---- all runs of a slab

module _ {M : Type 0} (point : FacePoint) (point_in : IsFacePoint point) (mark : M)
    (same : M → M → Bool) (tells : TellsEqual same) where
  -- the list keeps its marks and has those of the runs
  pub runs_add_marks : (rs : List (MarkedPatch M)) → AllByRecursion (λ r. IsPatch r.region) rs
      → (ps qs : List (MarkedPatch M)) → ArePutTo same rs ps qs
      → AllByRecursion (λ p. IsPatch p.region) ps
      → IsMarkedAt rs point mark ⊎ IsMarkedAt ps point mark → IsMarkedAt qs point mark
  runs_add_marks [] runs ps qs are_put patches (inl new) = absurd (none_marked point mark new)
  runs_add_marks [] runs ps qs are_put patches (inr old) =
      marked_permuted ps qs are_put point mark old
  runs_add_marks (r ∷ rs) runs ps qs (ms, permuted, are_put) patches marks =
      runs_add_marks rs runs.1 ms qs are_put
      (all_permuted (λ p. IsPatch p.region) (put same r ps) ms permuted
      (put_patches same tells r runs.0 ps patches))
      (from marks)
    where
      there : Marks r point mark ⊎ IsMarkedAt ps point mark → IsMarkedAt ms point mark
      there marked =
          marked_permuted (put same r ps) ms permuted point mark
          (put_marks point point_in mark same tells r runs.0 ps patches marked)

      of_runs : Marks r point mark ⊎ IsMarkedAt rs point mark
          → IsMarkedAt rs point mark ⊎ IsMarkedAt ms point mark
      of_runs (inl first) = inr (there (inl first))
      of_runs (inr later) = inl later

      from : IsMarkedAt (r ∷ rs) point mark ⊎ IsMarkedAt ps point mark
          → IsMarkedAt rs point mark ⊎ IsMarkedAt ms point mark
      from (inl new) = of_runs (marked_cases point mark r rs new)
      from (inr old) = inr (there (inr old))

  -- and no more, but on the line on which the runs begin
  pub runs_add_no_more : (rs : List (MarkedPatch M)) → AllByRecursion (λ r. IsPatch r.region) rs
      → AllByRecursion (λ r. IsSame r.region.low (abscissa_of point) → ⊥) rs
      → (ps qs : List (MarkedPatch M)) → ArePutTo same rs ps qs
      → AllByRecursion (λ p. IsPatch p.region) ps → IsMarkedAt qs point mark
      → IsMarkedAt rs point mark ⊎ IsMarkedAt ps point mark
  runs_add_no_more [] runs off ps qs are_put patches marked =
      inr (marked_permuted qs ps (IsPermutation-sym ps qs are_put) point mark marked)
  runs_add_no_more (r ∷ rs) runs off ps qs (ms, permuted, are_put) patches marked =
      from
      (runs_add_no_more rs runs.1 off.1 ms qs are_put
      (all_permuted (λ p. IsPatch p.region) (put same r ps) ms permuted
      (put_patches same tells r runs.0 ps patches))
      marked)
    where
      of_put : Marks r point mark ⊎ IsMarkedAt ps point mark
          → IsMarkedAt (r ∷ rs) point mark ⊎ IsMarkedAt ps point mark
      of_put (inl new) = inl (marked_first point mark r rs new)
      of_put (inr old) = inr old

      from : IsMarkedAt rs point mark ⊎ IsMarkedAt ms point mark
          → IsMarkedAt (r ∷ rs) point mark ⊎ IsMarkedAt ps point mark
      from (inl later) = inl (marked_later point mark r rs later)
      from (inr there) =
          of_put
          (put_marks_no_more point point_in mark same tells r runs.0 off.0 ps patches
          (marked_permuted ms (put same r ps) (IsPermutation-sym (put same r ps) ms permuted) point
          mark there))
