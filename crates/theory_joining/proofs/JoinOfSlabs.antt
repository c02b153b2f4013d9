-- Slab after slab: joining leaves a trimmed list with the marks of the runs.
use Rattle.std.proofs.Common.{◌↔◌, sym, subst, inl, inr, ◌⊎◌, ⊎_elim, Bool}
use Rattle.std.proofs.Common.{List, [], ◌∷◌}
use Rattle.std.specs.List.{AllByRecursion}
use Rattle.theory_numbers.specs.Arrows.{Arrow}
use Rattle.theory_numbers.specs.Rationals.{IsRational, IsBelow}
use Rattle.theory_numbers.proofs.Fractions.Rationals.{below_trans, below_irrefl}
use Rattle.theory_plane.specs.Points.{FacePoint, IsFacePoint, abscissa_of}
use Rattle.theory_lists.specs.Members.{Stands}
use Rattle.theory_lists.proofs.Members.{all_stands}
use Rattle.theory_patches.specs.Marked.{MarkedPatch}
use Rattle.theory_patches.specs.Sheets.{Sheet, IsSheet, IsMarkedAt}
use Rattle.theory_patches.proofs.MarkedAt.{marked_in_first, marked_in_second, marked_in_either}
use Rattle.theory_patches.proofs.MarkedAt.{none_marked}
use Rattle.theory_joining.specs.Runs.{IsRunOver, IsInSlab, AreRunsOver}
use Rattle.theory_joining.specs.Joined.{IsJoinedUpTo}
use Rattle.theory_joining.specs.Put.{put_all}
use Rattle.theory_joining.specs.Slabs.{SlabRuns, AreRunsOfSlab, Follow, all_runs, join, IsJoinOf}
use Rattle.theory_joining.specs.Laws.{TellsEqual, HasJoin}
use Rattle.theory_joining.proofs.MarksOfPut.{inside_parts}
use Rattle.theory_joining.proofs.JoinedOn.{joined_on}
use Rattle.theory_joining.proofs.JoinedIsTrimmed.{joined_is_trimmed}
use Rattle.theory_joining.proofs.MarksBefore.{joined_from_nothing, joined_ends}

-- ---- slab after slab, for any relation of points and marks

-- the runs of the slab are those that the relation has there
pub record HasRunsThere {M : Type 0} (sheet : Sheet) (Has : FacePoint → M → Type 0)
    (s : SlabRuns M) : Type 0 where
  pub is : AreRunsOfSlab sheet s
  pub over : AreRunsOver sheet Has s.low s.high s.runs

module _ {M : Type 0} (sheet : Sheet) (sheet_in : IsSheet sheet) (same : M → M → Bool)
    (tells : TellsEqual same) where
  -- what is joined up to the first number is joined up to the last
  pub joined_through : (Has : FacePoint → M → Type 0) (slabs : List (SlabRuns M))
      (first end : Arrow) → AllByRecursion (HasRunsThere sheet Has) slabs
      → Follow first slabs end → (ps : List (MarkedPatch M)) → IsJoinedUpTo sheet Has first ps
      → IsJoinedUpTo sheet Has end (join same slabs ps)
  joined_through Has [] first end all follow ps joined =
      subst (λ n. IsJoinedUpTo sheet Has n ps) follow joined
  joined_through Has (s ∷ slabs) first end all follow ps joined =
      joined_through Has slabs s.high end all.1 follow.1 (put_all same s.runs ps)
      (joined_on sheet sheet_in s.low s.high all.0.is.slab Has same tells ps s.runs
      (subst (λ n. IsJoinedUpTo sheet Has n ps) (sym follow.0) joined) all.0.over)

  -- ---- for the marks of the runs themselves

  low_in : (s : SlabRuns M) → AreRunsOfSlab sheet s → IsRational s.low
  low_in s s_is = all_stands IsRational s.low sheet.abscissae sheet_in.abscissae_in s_is.slab.begins

  module _ (point : FacePoint) (point_in : IsFacePoint point) (mark : M) where
    -- a run of a slab marks points of the slab alone
    in_slab : (s : SlabRuns M) → AreRunsOfSlab sheet s → IsMarkedAt s.runs point mark
        → IsInSlab s.low s.high point
    in_slab s s_is (r, stands, has_mark, inside) =
        let r_is =
        all_stands (λ q. IsRunOver s.low s.high q.region) r s.runs s_is.runs stands
        in
        let is = inside_parts r.region point inside in
        record {
          after = subst (λ n. IsBelow n (abscissa_of point)) r_is.begins is.after;
          before = subst (λ n. IsBelow (abscissa_of point) n) r_is.ends is.before;
        }

    -- those of slabs that follow each other mark points beyond the first number
    marked_beyond : (slabs : List (SlabRuns M)) (first end : Arrow)
        → AllByRecursion (AreRunsOfSlab sheet) slabs → Follow first slabs end
        → IsMarkedAt (all_runs slabs) point mark → IsBelow first (abscissa_of point)
    marked_beyond [] first end all follow marked = absurd (none_marked point mark marked)
    marked_beyond (s ∷ slabs) first end all follow marked =
        subst (λ n. IsBelow n (abscissa_of point)) follow.0
        (⊎_elim (λ here. (in_slab s all.0 here).after)
        (λ later.
        below_trans s.low s.high (abscissa_of point) (low_in s all.0) all.0.slab.end_in point_in
        all.0.slab.wide (marked_beyond slabs s.high end all.1 follow.1 later))
        (marked_in_either point mark s.runs (all_runs slabs) marked))

    -- and before the last
    ends_beyond : (slabs : List (SlabRuns M)) (first end : Arrow)
        → AllByRecursion (AreRunsOfSlab sheet) slabs → Follow first slabs end
        → IsRational first → IsBelow (abscissa_of point) first
        → IsBelow (abscissa_of point) end
    ends_beyond [] first end all follow first_in before =
        subst (λ n. IsBelow (abscissa_of point) n) follow before
    ends_beyond (s ∷ slabs) first end all follow first_in before =
        ends_beyond slabs s.high end all.1 follow.1 all.0.slab.end_in
        (below_trans (abscissa_of point) s.low s.high point_in (low_in s all.0)
        all.0.slab.end_in (subst (λ n. IsBelow (abscissa_of point) n) (sym follow.0) before)
        all.0.slab.wide)

    marked_before : (slabs : List (SlabRuns M)) (first end : Arrow)
        → AllByRecursion (AreRunsOfSlab sheet) slabs → Follow first slabs end
        → IsMarkedAt (all_runs slabs) point mark → IsBelow (abscissa_of point) end
    marked_before [] first end all follow marked = absurd (none_marked point mark marked)
    marked_before (s ∷ slabs) first end all follow marked =
        ⊎_elim
        (λ here.
        ends_beyond slabs s.high end all.1 follow.1 all.0.slab.end_in
        (in_slab s all.0 here).before)
        (λ later. marked_before slabs s.high end all.1 follow.1 later)
        (marked_in_either point mark s.runs (all_runs slabs) marked)

  -- over each slab the runs are those of the marks of all runs
  runs_there : (Has : FacePoint → M → Type 0) (slabs : List (SlabRuns M)) (first end : Arrow)
      → AllByRecursion (AreRunsOfSlab sheet) slabs → Follow first slabs end
      → ((point : FacePoint) → IsFacePoint point → IsBelow first (abscissa_of point) → (mark : M)
      → IsMarkedAt (all_runs slabs) point mark ↔ Has point mark)
      → AllByRecursion (HasRunsThere sheet Has) slabs
  runs_there Has [] first end all follow marks = tt
  runs_there Has (s ∷ slabs) first end all follow marks = (
    record {
      is = all.0;
      over =
          record {
            runs = all.0.runs;
            apart = all.0.apart;
            marks = λ point point_in off inside mark. (
              λ here.
                  (marks point point_in (from_first point inside) mark).0
                  (marked_in_first point mark s.runs (all_runs slabs) here),
              λ has.
                  here_alone point point_in inside mark
                  (marked_in_either point mark s.runs (all_runs slabs)
                  ((marks point point_in (from_first point inside) mark).1 has)),
            );
          };
    },
    runs_there Has slabs s.high end all.1 follow.1
        (λ point point_in after mark. (
          λ later.
              (marks point point_in (from_end point point_in after) mark).0
              (marked_in_second point mark s.runs (all_runs slabs) later),
          λ has.
              later_alone point point_in after mark
              (marked_in_either point mark s.runs (all_runs slabs)
              ((marks point point_in (from_end point point_in after) mark).1 has)),
        )),
  )
    where
      from_first : (point : FacePoint) → IsInSlab s.low s.high point
          → IsBelow first (abscissa_of point)
      from_first point inside =
          subst (λ n. IsBelow n (abscissa_of point)) follow.0 inside.after

      from_end : (point : FacePoint) → IsFacePoint point → IsBelow s.high (abscissa_of point)
          → IsBelow first (abscissa_of point)
      from_end point point_in after =
          subst (λ n. IsBelow n (abscissa_of point)) follow.0
          (below_trans s.low s.high (abscissa_of point) (low_in s all.0) all.0.slab.end_in
          point_in all.0.slab.wide after)

      here_alone : (point : FacePoint) → IsFacePoint point → IsInSlab s.low s.high point
          → (mark : M) → IsMarkedAt s.runs point mark ⊎ IsMarkedAt (all_runs slabs) point mark
          → IsMarkedAt s.runs point mark
      here_alone point point_in inside mark (inl here) = here
      here_alone point point_in inside mark (inr later) =
          absurd
          (below_irrefl s.high
          (below_trans s.high (abscissa_of point) s.high all.0.slab.end_in point_in
          all.0.slab.end_in
          (marked_beyond point point_in mark slabs s.high end all.1 follow.1 later)
          inside.before))

      later_alone : (point : FacePoint) → IsFacePoint point → IsBelow s.high (abscissa_of point)
          → (mark : M) → IsMarkedAt s.runs point mark ⊎ IsMarkedAt (all_runs slabs) point mark
          → IsMarkedAt (all_runs slabs) point mark
      later_alone point point_in after mark (inl here) =
          absurd
          (below_irrefl s.high
          (below_trans s.high (abscissa_of point) s.high all.0.slab.end_in point_in
          all.0.slab.end_in after (in_slab point point_in mark s all.0 here).before))
      later_alone point point_in after mark (inr later) = later

  module _ (slabs : List (SlabRuns M)) (first end : Arrow)
      (all : AllByRecursion (AreRunsOfSlab sheet) slabs) (follow : Follow first slabs end) where
    -- the join is joined up to the end, for the marks of the runs
    pub join_is_joined : IsRational first
        → IsJoinedUpTo sheet (IsMarkedAt (all_runs slabs)) end (join same slabs [])
    join_is_joined first_in =
        joined_through (IsMarkedAt (all_runs slabs)) slabs first end
        (runs_there (IsMarkedAt (all_runs slabs)) slabs first end all follow
        (λ point point_in after mark. (λ marked. marked, λ marked. marked)))
        follow []
        (joined_from_nothing sheet (IsMarkedAt (all_runs slabs)) first
        (λ point point_in off before mark marked.
        below_irrefl first
        (below_trans first (abscissa_of point) first first_in point_in first_in
        (marked_beyond point point_in mark slabs first end all follow marked) before)))

    first_in : (ss : List (SlabRuns M)) → AllByRecursion (AreRunsOfSlab sheet) ss
        → Follow first ss end → IsRational end → IsRational first
    first_in [] rest follows end_in = subst IsRational (sym follows) end_in
    first_in (s ∷ ss) rest follows end_in = subst IsRational follows.0 (low_in s rest.0)

    -- so it is their join
    pub is_join : Stands end sheet.abscissae → IsJoinOf sheet slabs (join same slabs [])
    is_join listed =
        let end_in = all_stands IsRational end sheet.abscissae sheet_in.abscissae_in listed in
        let joined = join_is_joined (first_in slabs all follow end_in) in
        record {
          trimmed =
              joined_is_trimmed sheet (IsMarkedAt (all_runs slabs)) end listed
              (join same slabs []) joined;
          marks =
              λ point point_in off mark. (
                λ marked.
                    (joined.marks point point_in off
                    (joined_ends sheet (IsMarkedAt (all_runs slabs)) end end_in
                    (join same slabs []) joined point point_in mark marked) mark).0
                    marked,
                λ marked.
                    (joined.marks point point_in off
                    (marked_before point point_in mark slabs first end all follow marked) mark).1
                    marked,
              );
        }

-- as the contract has it
pub has_join : (M : Type 0) → HasJoin M
has_join M sheet same first end slabs sheet_in tells all follow listed =
    is_join sheet sheet_in same tells slabs first end all follow listed
