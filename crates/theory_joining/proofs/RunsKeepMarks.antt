-- Off the cuts the runs of the cells of a slab mark what the cells mark.
use Rattle.std.proofs.Common.{◌≡◌, refl, sym, ◌∙◌, subst, inl, inr, ◌⊎◌, ⊎_elim}
use Rattle.std.proofs.Common.{Bool, true, false, if◌then◌else◌, List, [], ◌∷◌}
use Rattle.std.proofs.lemmas.Bool.{and_parts, and_from}
use Rattle.std.specs.List.{AllByRecursion}
use Rattle.theory_numbers.specs.Arrows.{Arrow}
use Rattle.theory_numbers.specs.Rationals.{IsRational, IsBelow, IsSame}
use Rattle.theory_numbers.proofs.Fractions.Rationals.{below_trans, number_cases, same_sym}
use Rattle.theory_plane.specs.Sides.{LineSide, IsLineSide, value_on}
use Rattle.theory_plane.specs.Points.{FacePoint, IsFacePoint, abscissa_of, ordinate_of}
use Rattle.theory_plane.specs.Points.{is_above_side, is_under_side, is_on_side}
use Rattle.theory_plane.specs.Regions.{IsRegion}
use Rattle.theory_plane.proofs.Points.{above_is, under_is, on_is}
use Rattle.theory_plane.proofs.Clearance as clearances
use Rattle.theory_patches.specs.Marked.{MarkedPatch}
use Rattle.theory_patches.specs.Sheets.{Sheet, IsOffCuts, IsMarkedAt}
use Rattle.theory_patches.proofs.MarkedAt.{Marks, marked_first, marked_later, marked_cases}
use Rattle.theory_patches.proofs.MarkedAt.{none_marked}
use Rattle.theory_joining.specs.Runs.{IsRunOver, IsInSlab}
use Rattle.theory_joining.specs.Cells.{IsClearOver, IsOfCuts, is_one_run}
use Rattle.theory_joining.specs.Cells.{raised, lay_under, runs_of}
use Rattle.theory_joining.specs.Laws.{TellsEqual}
use Rattle.theory_joining.proofs.MarksOfPut.{inside_from, inside_parts, IsInsideBy}
use Rattle.theory_joining.proofs.RunsStayApart.{run_is_open, clear_of_upper, runs_are_runs}
use Rattle.theory_joining.proofs.RunsMerge.{AreOneRun, one_run_from}

module _ (cur next : Arrow) {M : Type 0} (same : M → M → Bool) (tells : TellsEqual same) where
  module _ (point : FacePoint) (point_in : IsFacePoint point)
      (inside : IsInSlab cur next point) (mark : M) where
    abbrev u : Arrow
    u = abscissa_of point

    abbrev v : Arrow
    v = ordinate_of point

    value_in : (l : LineSide) → IsLineSide l → IsRational (value_on l u)
    value_in l l_in = clearances.value_on-IsRational l u l_in point_in

    -- what lies above the higher of two lines lies above the lower one
    above_lower : (l m : LineSide) → IsLineSide l → IsLineSide m → IsClearOver cur next l m
        → is_above_side m point ≡ true → is_above_side l point ≡ true
    above_lower l m l_in m_in clear above =
        (above_is l point point_in).1
        (below_trans (value_on l u) (value_on m u) v (value_in l l_in) (value_in m m_in) point_in
        ((clearances.higher_is l m u point_in).1 (clear u point_in inside.after inside.before))
        ((above_is m point point_in).0 above))

    -- and what lies under the lower one lies under the higher
    under_higher : (l m : LineSide) → IsLineSide l → IsLineSide m → IsClearOver cur next l m
        → is_under_side l point ≡ true → is_under_side m point ≡ true
    under_higher l m l_in m_in clear under =
        (under_is m point point_in).1
        (below_trans v (value_on l u) (value_on m u) point_in (value_in l l_in) (value_in m m_in)
        ((under_is l point point_in).0 under)
        ((clearances.higher_is l m u point_in).1 (clear u point_in inside.after inside.before)))

    -- a point that is not on a side is under it or above it
    under_or_above : (l : LineSide) → (is_on_side l point ≡ true → ⊥)
        → (is_under_side l point ≡ true) ⊎ (is_above_side l point ≡ true)
    under_or_above l off = from (number_cases v (value_on l u))
      where
        from : (IsBelow v (value_on l u) ⊎ IsSame v (value_on l u)) ⊎ IsBelow (value_on l u) v
            → (is_under_side l point ≡ true) ⊎ (is_above_side l point ≡ true)
        from (inl (inl under)) = inl ((under_is l point point_in).1 under)
        from (inl (inr on)) =
            absurd (off ((on_is l point point_in).1 (same_sym v (value_on l u) on)))
        from (inr above) = inr ((above_is l point point_in).1 above)

    module _ (c r : MarkedPatch M) (c_is : IsRunOver cur next c.region)
        (r_is : IsRunOver cur next r.region) (one : AreOneRun same tells c r) where
      c_in : IsRegion c.region
      c_in = c_is.patch.region

      r_in : IsRegion r.region
      r_in = r_is.patch.region

      -- the two in one mark what the lower one marks
      raised_marks_lower : Marks c point mark → Marks (raised c r) point mark
      raised_marks_lower marks =
          let is = inside_parts c.region point marks.inside in
          let sides =
          and_parts (is_above_side c.region.lower point) (is_under_side c.region.upper point)
          is.sides
          in
          record {
            has_mark = marks.has_mark;
            inside =
                inside_from (raised c r).region point is.after is.before
                (and_from (is_above_side c.region.lower point)
                (is_under_side r.region.upper point) sides.0
                (under_higher c.region.upper r.region.upper c_in.upper_in r_in.upper_in
                (clear_of_upper cur next same tells c r c_is r_is (inl one.side)) sides.1));
          }

      -- and the upper one
      raised_marks_upper : Marks r point mark → Marks (raised c r) point mark
      raised_marks_upper marks =
          let is = inside_parts r.region point marks.inside in
          let sides =
          and_parts (is_above_side r.region.lower point) (is_under_side r.region.upper point)
          is.sides
          in
          record {
            has_mark = one.mark ∙ marks.has_mark;
            inside =
                inside_from (raised c r).region point
                (subst (λ n. IsBelow n u) (sym c_is.begins) inside.after)
                (subst (λ n. IsBelow u n) (sym c_is.ends) inside.before)
                (and_from (is_above_side c.region.lower point)
                (is_under_side r.region.upper point)
                (above_lower c.region.lower c.region.upper c_in.lower_in c_in.upper_in
                (run_is_open cur next c.region c_is)
                (subst (λ l. is_above_side l point ≡ true) (sym one.side) sides.0))
                sides.1);
          }

      -- and nothing else, but on the line between them
      raised_marks_no_more : (is_on_side c.region.upper point ≡ true → ⊥)
          → Marks (raised c r) point mark → Marks c point mark ⊎ Marks r point mark
      raised_marks_no_more off marks = from (under_or_above c.region.upper off)
        where
          is : IsInsideBy (raised c r).region point
          is = inside_parts (raised c r).region point marks.inside

          sides : (is_above_side c.region.lower point ≡ true)
              × (is_under_side r.region.upper point ≡ true)
          sides =
              and_parts (is_above_side c.region.lower point) (is_under_side r.region.upper point)
              is.sides

          from : (is_under_side c.region.upper point ≡ true)
              ⊎ (is_above_side c.region.upper point ≡ true)
              → Marks c point mark ⊎ Marks r point mark
          from (inl under) =
              inl
              (record {
                has_mark = marks.has_mark;
                inside =
                    inside_from c.region point is.after is.before
                    (and_from (is_above_side c.region.lower point)
                    (is_under_side c.region.upper point) sides.0 under);
              })
          from (inr above) =
              inr
              (record {
                has_mark = sym one.mark ∙ marks.has_mark;
                inside =
                    inside_from r.region point
                    (subst (λ n. IsBelow n u) (sym r_is.begins) inside.after)
                    (subst (λ n. IsBelow u n) (sym r_is.ends) inside.before)
                    (and_from (is_above_side r.region.lower point)
                    (is_under_side r.region.upper point)
                    (subst (λ l. is_above_side l point ≡ true) one.side above) sides.1);
              })

    -- a cell that is laid under runs adds its marks
    lay_marks : (c : MarkedPatch M) → IsRunOver cur next c.region → (rs : List (MarkedPatch M))
        → AllByRecursion (λ r. IsRunOver cur next r.region) rs
        → Marks c point mark ⊎ IsMarkedAt rs point mark
        → IsMarkedAt (lay_under same c rs) point mark
    lay_marks c c_is [] runs (inl new) = marked_first point mark c [] new
    lay_marks c c_is [] runs (inr old) = absurd (none_marked point mark old)
    lay_marks c c_is (r ∷ rs) runs marks =
        from (is_one_run same c r) (one_run_from same tells c r)
        (⊎_elim (λ new. inl new) (λ old. inr (marked_cases point mark r rs old)) marks)
      where
        from : (b : Bool) → (b ≡ true → AreOneRun same tells c r)
            → Marks c point mark ⊎ (Marks r point mark ⊎ IsMarkedAt rs point mark)
            → IsMarkedAt (if b then raised c r ∷ rs else c ∷ r ∷ rs) point mark
        from true one (inl new) =
            marked_first point mark (raised c r) rs
            (raised_marks_lower c r c_is runs.0 (one refl) new)
        from true one (inr (inl first)) =
            marked_first point mark (raised c r) rs
            (raised_marks_upper c r c_is runs.0 (one refl) first)
        from true one (inr (inr later)) = marked_later point mark (raised c r) rs later
        from false one (inl new) = marked_first point mark c (r ∷ rs) new
        from false one (inr (inl first)) =
            marked_later point mark c (r ∷ rs) (marked_first point mark r rs first)
        from false one (inr (inr later)) =
            marked_later point mark c (r ∷ rs) (marked_later point mark r rs later)

    -- and nothing else, but on its upper side
    lay_marks_no_more : (c : MarkedPatch M) → IsRunOver cur next c.region
        → (is_on_side c.region.upper point ≡ true → ⊥) → (rs : List (MarkedPatch M))
        → AllByRecursion (λ r. IsRunOver cur next r.region) rs
        → IsMarkedAt (lay_under same c rs) point mark
        → Marks c point mark ⊎ IsMarkedAt rs point mark
    lay_marks_no_more c c_is off [] runs marked = marked_cases point mark c [] marked
    lay_marks_no_more c c_is off (r ∷ rs) runs marked =
        from (is_one_run same c r) (one_run_from same tells c r) marked
      where
        of_first : Marks c point mark ⊎ Marks r point mark
            → Marks c point mark ⊎ IsMarkedAt (r ∷ rs) point mark
        of_first (inl lower) = inl lower
        of_first (inr upper) = inr (marked_first point mark r rs upper)

        of_raised : AreOneRun same tells c r
            → Marks (raised c r) point mark ⊎ IsMarkedAt rs point mark
            → Marks c point mark ⊎ IsMarkedAt (r ∷ rs) point mark
        of_raised one (inl first) =
            of_first (raised_marks_no_more c r c_is runs.0 one off first)
        of_raised one (inr later) = inr (marked_later point mark r rs later)

        from : (b : Bool) → (b ≡ true → AreOneRun same tells c r)
            → IsMarkedAt (if b then raised c r ∷ rs else c ∷ r ∷ rs) point mark
            → Marks c point mark ⊎ IsMarkedAt (r ∷ rs) point mark
        from true one there = of_raised (one refl) (marked_cases point mark (raised c r) rs there)
        from false one there = marked_cases point mark c (r ∷ rs) there

    -- the runs mark what the cells mark
    pub runs_mark : (cs : List (MarkedPatch M))
        → AllByRecursion (λ c. IsRunOver cur next c.region) cs → IsMarkedAt cs point mark
        → IsMarkedAt (runs_of same cs) point mark
    runs_mark [] cells marked = marked
    runs_mark (c ∷ cs) cells marked =
        lay_marks c cells.0 (runs_of same cs) (runs_are_runs cur next same tells cs cells.1)
        (⊎_elim (λ first. inl first) (λ later. inr (runs_mark cs cells.1 later))
        (marked_cases point mark c cs marked))

    -- and nothing else, off the cuts
    pub runs_mark_no_more : (sheet : Sheet) → IsOffCuts sheet point → (cs : List (MarkedPatch M))
        → AllByRecursion (λ c. IsRunOver cur next c.region) cs
        → AllByRecursion (λ c. IsOfCuts sheet c.region.upper) cs
        → IsMarkedAt (runs_of same cs) point mark → IsMarkedAt cs point mark
    runs_mark_no_more sheet off [] cells inner_lines marked = marked
    runs_mark_no_more sheet off (c ∷ cs) cells inner_lines marked =
        ⊎_elim (λ first. marked_first point mark c cs first)
        (λ later.
        marked_later point mark c cs (runs_mark_no_more sheet off cs cells.1 inner_lines.1 later))
        (lay_marks_no_more c cells.0 (inner_lines.0 point point_in off) (runs_of same cs)
        (runs_are_runs cur next same tells cs cells.1) marked)
