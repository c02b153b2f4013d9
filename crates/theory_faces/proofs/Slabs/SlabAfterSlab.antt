-- The runs of slabs that ascend: each begins and ends at an abscissa; those of one mark are apart;
-- those of one face and one pair of sides follow each other; no two of one face contain a point
-- whose abscissa is none of the sheet's; and they mark what the strips mark.
use Rattle.std.proofs.Common.{◌≡◌, refl, sym, subst, inl, ⊎_elim, true, false}
use Rattle.std.proofs.Common.{List, [], ◌∷◌, ◌++◌}
use Rattle.std.specs.List.{AllByRecursion}
use Rattle.theory_numbers.specs.Arrows.{Arrow}
use Rattle.theory_numbers.specs.Rationals.{IsRational, IsBelow, IsAtMost}
use Rattle.theory_numbers.proofs.Fractions.Rationals.{below_irrefl, below_at_most_trans, below_trans}
use Rattle.theory_plane.specs.Points.{FacePoint, IsFacePoint, abscissa_of, is_on_side}
use Rattle.theory_plane.specs.Regions.{is_inside}
use Rattle.theory_lists.specs.Members.{Stands, AllOfTwo}
use Rattle.theory_lists.proofs.Members.{all_stands, all_follow, two_follow, all_that_stand}
use Rattle.theory_lists.proofs.Blocks.{all-append, two-append, stands_before, stands_behind}
use Rattle.theory_patches.specs.Marked.{IsPatch}
use Rattle.theory_patches.specs.Sheets.{Sheet, IsMarkedAt}
use Rattle.theory_patches.proofs.MarkedAt.{marked_in_first, marked_in_second, marked_in_either}
use Rattle.theory_joining.specs.Runs.{IsRunOver, IsInSlab, AreApartIfAlike}
use Rattle.theory_joining.specs.Cells.{raised, runs_of}
use Rattle.theory_joining.proofs.MarksOfPut.{inside_parts}
use Rattle.theory_joining.proofs.RunsMerge.{AreOneRun, one_run_from}
use Rattle.theory_joining.proofs.RunsStayApart.{all_laid}
use Rattle.theory_joining.proofs.JoinedIsTrimmed.{HasListedEnds}
use Rattle.theory_faces.specs.Strips.{Mark, Strip, is_same_mark, runs_over, all_runs}
use Rattle.theory_faces.proofs.MarksTold.{mark_tells}
use Rattle.theory_faces.proofs.NoSeamInOrder.{AreInTurn}
use Rattle.theory_faces.proofs.ByFace.{of_face, is_of, all_pass_there, stands_in_whole}
use Rattle.theory_faces.proofs.Slabs.RunsOfASlab.{AreOfSlab, IsUnderOnFace, slab_runs, runs_lie_over}
use Rattle.theory_faces.proofs.Slabs.RunsOfASlab.{runs_under, runs_apart, runs_have_marks}
use Rattle.theory_faces.proofs.Slabs.RunsOfASlab.{runs_have_no_more, under_has_other_key}
use Rattle.theory_faces.proofs.Slabs.RunsOfASlab.{under_has_other_points}
use Rattle.theory_faces.proofs.MarksTold.{face_tells}

-- all strips of several lists
abbrev pub all_strips : List (List Strip) → List Strip
all_strips [] = []
all_strips (strips ∷ lists) = strips ++ all_strips lists

-- strips of one slab between two abscissae of the sheet, or none
abbrev pub AreOfASlab : Sheet → List Strip → Type 0
AreOfASlab sheet [] = Unit {0}
AreOfASlab sheet (c ∷ cs) =
    AreOfSlab c.region.low c.region.high (c ∷ cs)
    × (Stands c.region.low sheet.abscissae × Stands c.region.high sheet.abscissae)

-- each strip of the first ends where those of the second begin, or before
abbrev pub StripsEndBefore : List Strip → List Strip → Type 0
StripsEndBefore bs cs =
    (b c : Strip) → Stands b bs → Stands c cs → IsAtMost b.region.high c.region.low

-- strips of slabs that ascend
pub record Ascend (sheet : Sheet) (lists : List (List Strip)) : Type 0 where
  pub slabs : AllByRecursion (AreOfASlab sheet) lists
  pub ascending : AllOfTwo StripsEndBefore lists

-- of one face, the two do not both contain the point
abbrev pub AreApartAt : FacePoint → Strip → Strip → Type 0
AreApartAt point p q =
    p.mark.face ≡ q.mark.face → is_inside p.region point ≡ true → is_inside q.region point ≡ true
    → ⊥

module _ (sheet : Sheet) where
  -- ---- the runs of one of the lists

  -- each begins and ends where the strips do
  pub runs_have_listed_ends : (cs : List Strip) → AreOfASlab sheet cs
      → AllByRecursion (λ r. HasListedEnds sheet r.region) (runs_over cs)
  runs_have_listed_ends [] slab = tt
  runs_have_listed_ends (c ∷ cs) slab =
      all_follow
      (λ r r_is.
      record {
        patch = r_is.patch;
        begins = subst (λ n. Stands n sheet.abscissae) (sym r_is.begins) slab.1.0;
        ends = subst (λ n. Stands n sheet.abscissae) (sym r_is.ends) slab.1.1;
      })
      (runs_over (c ∷ cs)) (runs_lie_over c.region.low c.region.high (c ∷ cs) slab.0)

  -- what is so of two that lie over a slab, the first under the second, is so of each two runs of one
  -- face
  own_two : (R : Strip → Strip → Type 0)
      → ((low high : Arrow) (p q : Strip) → IsRational low → IsRational high → IsBelow low high
      → IsRunOver low high p.region → IsRunOver low high q.region → IsUnderOnFace low high p q
      → R p q)
      → (cs : List Strip) → AreOfASlab sheet cs → AllOfTwo R (runs_over cs)
  own_two R so [] slab = tt
  own_two R so (c ∷ cs) slab =
      let low = c.region.low in
      let high = c.region.high in
      let over = runs_lie_over low high (c ∷ cs) slab.0 in
      let rs = runs_over (c ∷ cs) in
      two_follow (IsUnderOnFace low high) R rs
      (λ p q at_p at_q under.
      so low high p q slab.0.low_in slab.0.high_in slab.0.wide
      (all_stands (λ (r : Strip). IsRunOver low high r.region) p rs over at_p)
      (all_stands (λ (r : Strip). IsRunOver low high r.region) q rs over at_q) under)
      (runs_under low high (c ∷ cs) slab.0)

  own_apart : (cs : List Strip) → AreOfASlab sheet cs
      → AllOfTwo (AreApartIfAlike sheet) (runs_over cs)
  own_apart [] slab = tt
  own_apart (c ∷ cs) slab = runs_apart c.region.low c.region.high (c ∷ cs) slab.0 sheet

  own_in_turn : (cs : List Strip) → AreOfASlab sheet cs → AllOfTwo AreInTurn (runs_over cs)
  own_in_turn =
      own_two AreInTurn
      (λ low high p q low_in high_in wide p_is q_is under key.
      absurd
      (under_has_other_key low high low_in high_in wide p q p_is q_is (under key.0) key))

  own_apart_at : (point : FacePoint) → IsFacePoint point → (cs : List Strip)
      → AreOfASlab sheet cs → AllOfTwo (AreApartAt point) (runs_over cs)
  own_apart_at point point_in =
      own_two (AreApartAt point)
      (λ low high p q low_in high_in wide p_is q_is under same at_p at_q.
      under_has_other_points low high low_in high_in wide p q p_is q_is (under same) point point_in
      at_p at_q)

  -- ---- one list and a later one

  -- runs of the first end where those of the second begin, or before
  runs_end_before : (bs cs : List Strip) → AreOfASlab sheet bs → AreOfASlab sheet cs
      → StripsEndBefore bs cs
      → AllByRecursion (λ p. AllByRecursion (λ q. IsAtMost p.region.high q.region.low)
      (runs_over cs)) (runs_over bs)
  runs_end_before [] cs bs_are cs_are before = tt
  runs_end_before (b ∷ bs) [] bs_are cs_are before =
      all_follow (λ p p_is. tt) (runs_over (b ∷ bs))
      (runs_lie_over b.region.low b.region.high (b ∷ bs) bs_are.0)
  runs_end_before (b ∷ bs) (c ∷ cs) bs_are cs_are before =
      all_follow
      (λ p p_is.
      all_follow
      (λ q q_is.
      subst (λ n. IsAtMost n q.region.low) (sym p_is.ends)
      (subst (λ n. IsAtMost b.region.high n) (sym q_is.begins)
      (before b c (inl refl) (inl refl))))
      (runs_over (c ∷ cs)) (runs_lie_over c.region.low c.region.high (c ∷ cs) cs_are.0))
      (runs_over (b ∷ bs)) (runs_lie_over b.region.low b.region.high (b ∷ bs) bs_are.0)

  runs_end_before_all : (bs : List Strip) (lists : List (List Strip)) → AreOfASlab sheet bs
      → AllByRecursion (AreOfASlab sheet) lists → AllByRecursion (StripsEndBefore bs) lists
      → AllByRecursion (λ p. AllByRecursion (λ q. IsAtMost p.region.high q.region.low)
      (all_runs lists)) (runs_over bs)
  runs_end_before_all bs [] bs_are lists_are before =
      all_follow (λ p p_is. tt) (runs_over bs) (runs_have_listed_ends bs bs_are)
  runs_end_before_all bs (cs ∷ lists) bs_are lists_are before =
      both (runs_over bs) (runs_end_before bs cs bs_are lists_are.0 before.0)
      (runs_end_before_all bs lists bs_are lists_are.1 before.1)
    where
      both : (ps : List Strip)
          → AllByRecursion (λ p. AllByRecursion (λ q. IsAtMost p.region.high q.region.low)
          (runs_over cs)) ps
          → AllByRecursion (λ p. AllByRecursion (λ q. IsAtMost p.region.high q.region.low)
          (all_runs lists)) ps
          → AllByRecursion (λ p. AllByRecursion (λ q. IsAtMost p.region.high q.region.low)
          (runs_over cs ++ all_runs lists)) ps
      both [] first rest = tt
      both (p ∷ ps) first rest = (
        all-append (λ q. IsAtMost p.region.high q.region.low) (runs_over cs) (all_runs lists)
            first.0 rest.0,
        both ps first.1 rest.1,
      )

  -- ---- all runs

  -- what holds of the runs of each list holds of all
  pub all_runs_all : (P : Strip → Type 0) (lists : List (List Strip))
      → AllByRecursion (λ cs. AllByRecursion P (runs_over cs)) lists
      → AllByRecursion P (all_runs lists)
  all_runs_all P [] each = tt
  all_runs_all P (cs ∷ lists) each =
      all-append P (runs_over cs) (all_runs lists) each.0 (all_runs_all P lists each.1)

  -- each begins and ends at an abscissa
  pub all_listed : (lists : List (List Strip)) → AllByRecursion (AreOfASlab sheet) lists
      → AllByRecursion (λ r. HasListedEnds sheet r.region) (all_runs lists)
  all_listed lists slabs =
      all_runs_all (λ r. HasListedEnds sheet r.region) lists
      (all_follow runs_have_listed_ends lists slabs)

  -- what is so of each two runs of one list, and of two of which the first ends first, is so of all
  all_two : (R : Strip → Strip → Type 0)
      → ((cs : List Strip) → AreOfASlab sheet cs → AllOfTwo R (runs_over cs))
      → ((p q : Strip) → IsPatch p.region → IsPatch q.region
      → IsAtMost p.region.high q.region.low → R p q)
      → (lists : List (List Strip)) → Ascend sheet lists → AllOfTwo R (all_runs lists)
  all_two R own after [] ascend = tt
  all_two R own after (cs ∷ lists) ascend =
      let listed = all_listed lists ascend.slabs.1 in
      let before =
      runs_end_before_all cs lists ascend.slabs.0 ascend.slabs.1 ascend.ascending.0 in
      let first = runs_have_listed_ends cs ascend.slabs.0 in
      two-append R (runs_over cs) (all_runs lists) (own cs ascend.slabs.0)
      (all_two R own after lists
      (record { slabs = ascend.slabs.1; ascending = ascend.ascending.1 }))
      (all_that_stand (λ p. AllByRecursion (R p) (all_runs lists)) (runs_over cs)
      (λ p at_p.
      all_that_stand (R p) (all_runs lists)
      (λ q at_q.
      after p q
      (all_stands (λ (r : Strip). HasListedEnds sheet r.region) p (runs_over cs) first at_p).patch
      (all_stands (λ (r : Strip). HasListedEnds sheet r.region) q (all_runs lists) listed at_q).patch
      (all_stands (λ (r : Strip). IsAtMost p.region.high r.region.low) q (all_runs lists)
      (all_stands (λ (r : Strip). AllByRecursion (λ (s : Strip). IsAtMost r.region.high s.region.low)
      (all_runs lists)) p (runs_over cs) before at_p) at_q))))

  none_over_both : (p q : Strip) (u : Arrow) → IsPatch p.region → IsPatch q.region → IsRational u
      → IsAtMost p.region.high q.region.low → IsBelow u p.region.high → IsBelow q.region.low u → ⊥
  none_over_both p q u p_in q_in u_in before under over =
      below_irrefl u
      (below_trans u q.region.low u u_in q_in.region.low_in u_in
      (below_at_most_trans u p.region.high q.region.low u_in p_in.region.high_in q_in.region.low_in
      under before)
      over)

  -- those of one mark are apart
  pub all_apart : (lists : List (List Strip)) → Ascend sheet lists
      → AllOfTwo (AreApartIfAlike sheet) (all_runs lists)
  all_apart =
      all_two (AreApartIfAlike sheet) own_apart
      (λ p q p_in q_in before alike u u_in off over_p over_q first second.
      none_over_both p q u p_in q_in u_in before over_p.before over_q.after)

  -- those of one key follow each other
  pub all_in_turn : (lists : List (List Strip)) → Ascend sheet lists
      → AllOfTwo AreInTurn (all_runs lists)
  all_in_turn = all_two AreInTurn own_in_turn (λ p q p_in q_in before key. inl before)

  -- no two of one face contain the point
  pub all_apart_at : (point : FacePoint) → IsFacePoint point → (lists : List (List Strip))
      → Ascend sheet lists → AllOfTwo (AreApartAt point) (all_runs lists)
  all_apart_at point point_in =
      all_two (AreApartAt point) (own_apart_at point point_in)
      (λ p q p_in q_in before same at_p at_q.
      none_over_both p q (abscissa_of point) p_in q_in point_in before
      (inside_parts p.region point at_p).before (inside_parts q.region point at_q).after)

  -- what holds of each strip, also of two in one, holds of each run
  pub all_of_strips : (P : Strip → Type 0)
      → ((c r : Strip) → AreOneRun is_same_mark mark_tells c r → P c → P r → P (raised c r))
      → (lists : List (List Strip)) → AllByRecursion (AreOfASlab sheet) lists
      → AllByRecursion (AllByRecursion P) lists → AllByRecursion P (all_runs lists)
  all_of_strips P together lists slabs each =
      all_runs_all P lists (by_list lists slabs each)
    where
      by_runs : (cs : List Strip) → AllByRecursion P cs → AllByRecursion P (runs_of is_same_mark cs)
      by_runs [] all = tt
      by_runs (c ∷ cs) all =
          all_laid is_same_mark c P all.0
          (λ r at_r one. together c r (one_run_from is_same_mark mark_tells c r one) all.0 at_r)
          (runs_of is_same_mark cs) (by_runs cs all.1)

      own : (cs : List Strip) → AreOfASlab sheet cs → AllByRecursion P cs
          → AllByRecursion P (runs_over cs)
      own [] slab all = tt
      own (c ∷ cs) slab all =
          subst (AllByRecursion P)
          (sym (slab_runs c.region.low c.region.high (c ∷ cs) slab.0)) (by_runs (c ∷ cs) all)

      by_list : (xs : List (List Strip)) → AllByRecursion (AreOfASlab sheet) xs
          → AllByRecursion (AllByRecursion P) xs
          → AllByRecursion (λ cs. AllByRecursion P (runs_over cs)) xs
      by_list [] are all = tt
      by_list (cs ∷ xs) are all = (own cs are.0 all.0, by_list xs are.1 all.1)

  -- ---- marks

  module _ (point : FacePoint) (point_in : IsFacePoint point) (mark : Mark) where
    -- a strip over the slab that contains the point puts it into the slab
    in_slab : (low high : Arrow) (c : Strip) → IsRunOver low high c.region
        → is_inside c.region point ≡ true → IsInSlab low high point
    in_slab low high c c_is inside =
        let is = inside_parts c.region point inside in
        record {
          after = subst (λ n. IsBelow n (abscissa_of point)) c_is.begins is.after;
          before = subst (λ n. IsBelow (abscissa_of point) n) c_is.ends is.before;
        }

    own_marks : (cs : List Strip) → AreOfASlab sheet cs → IsMarkedAt cs point mark
        → IsMarkedAt (runs_over cs) point mark
    own_marks [] slab marked = marked
    own_marks (c ∷ cs) slab (b, stands, has_mark, inside) =
        let low = c.region.low in
        let high = c.region.high in
        runs_have_marks low high (c ∷ cs) slab.0 point point_in
        (in_slab low high b
        (all_stands (λ (x : Strip). IsRunOver low high x.region) b (c ∷ cs) slab.0.strips stands)
        inside)
        mark (b, stands, has_mark, inside)

    -- what the strips mark, the runs mark
    pub all_have_marks : (lists : List (List Strip)) → AllByRecursion (AreOfASlab sheet) lists
        → IsMarkedAt (all_strips lists) point mark → IsMarkedAt (all_runs lists) point mark
    all_have_marks [] slabs marked = marked
    all_have_marks (cs ∷ lists) slabs marked =
        ⊎_elim
        (λ here.
        marked_in_first point mark (runs_over cs) (all_runs lists) (own_marks cs slabs.0 here))
        (λ later.
        marked_in_second point mark (runs_over cs) (all_runs lists)
        (all_have_marks lists slabs.1 later))
        (marked_in_either point mark cs (all_strips lists) marked)

    -- the point lies on the upper side of no strip of this face over it
    abbrev pub IsOffUppers : List Strip → Type 0
    IsOffUppers cs =
        (c : Strip) → Stands c cs → c.mark.face ≡ mark.face
        → IsBelow c.region.low (abscissa_of point) → IsBelow (abscissa_of point) c.region.high
        → is_on_side c.region.upper point ≡ false

    own_no_more : (cs : List Strip) → AreOfASlab sheet cs → IsOffUppers cs
        → IsMarkedAt (runs_over cs) point mark → IsMarkedAt cs point mark
    own_no_more [] slab off marked = marked
    own_no_more (c ∷ cs) slab off (r, stands, has_mark, inside) =
        let low = c.region.low in
        let high = c.region.high in
        let within =
        in_slab low high r
        (all_stands (λ (x : Strip). IsRunOver low high x.region) r (runs_over (c ∷ cs))
        (runs_lie_over low high (c ∷ cs) slab.0) stands)
        inside
        in
        runs_have_no_more low high (c ∷ cs) slab.0 point point_in within mark
        (all_that_stand (λ (x : Strip). is_on_side x.region.upper point ≡ false)
        (of_face mark.face (c ∷ cs))
        (λ x at.
        let there = stands_in_whole (is_of mark.face) x (c ∷ cs) at in
        let x_is =
        all_stands (λ (y : Strip). IsRunOver low high y.region) x (c ∷ cs) slab.0.strips there in
        off x there
        ((face_tells x.mark.face mark.face).0
        (all_stands (λ (y : Strip). is_of mark.face y ≡ true) x (of_face mark.face (c ∷ cs))
        (all_pass_there (is_of mark.face) (c ∷ cs)) at))
        (subst (λ n. IsBelow n (abscissa_of point)) (sym x_is.begins) within.after)
        (subst (λ n. IsBelow (abscissa_of point) n) (sym x_is.ends) within.before)))
        (r, stands, has_mark, inside)

    -- and nothing else, where the point is off these sides
    pub all_have_no_more : (lists : List (List Strip)) → AllByRecursion (AreOfASlab sheet) lists
        → IsOffUppers (all_strips lists) → IsMarkedAt (all_runs lists) point mark
        → IsMarkedAt (all_strips lists) point mark
    all_have_no_more [] slabs off marked = marked
    all_have_no_more (cs ∷ lists) slabs off marked =
        ⊎_elim
        (λ here.
        marked_in_first point mark cs (all_strips lists)
        (own_no_more cs slabs.0 (λ c at. off c (stands_before c cs (all_strips lists) at)) here))
        (λ later.
        marked_in_second point mark cs (all_strips lists)
        (all_have_no_more lists slabs.1
        (λ c at. off c (stands_behind c cs (all_strips lists) at)) later))
        (marked_in_either point mark (runs_over cs) (all_runs lists) marked)
