-- A gap between two lines has a point over each number strictly inside the slab, and one between edges on
-- one line has none.
use Rattle.std.proofs.Common.{◌≡◌, refl, arith, ◌↔◌, ◌⊎◌, inl, inr, ℕ, zero, suc}
use Rattle.std.proofs.Common.{true, false, List, [], ◌∷◌, Option, Some, None}
use Rattle.std.proofs.Common.{take, drop}
use Rattle.std.specs.List.{AllByRecursion}
use Rattle.std.proofs.lemmas.Int.{ints}
use Rattle.theory_lists.specs.Members.{Stands, AllOfTwo}
use Rattle.theory_lists.proofs.Members.{all_follow}
use Rattle.theory_numbers.specs.Arrows.{Arrow}
use Rattle.theory_numbers.specs.Rationals.{IsRational, IsBelow, IsAtMost, IsSame}
use Rattle.theory_numbers.proofs.Fractions.Rationals.{at_most_below_trans, below_at_most_trans}
use Rattle.theory_numbers.proofs.Fractions.Rationals.{at_most_from_below, below_clash, number_cases}
use Rattle.theory_cuttings.specs.Ends.{IsEnd, IsOpen, IsAfter, IsFrom}
use Rattle.theory_cuttings.proofs.Ends.{IsBetween, number_between}
use Rattle.theory_plane.proofs.Clearance.{value_on-IsRational, meeting_is}
use Rattle.sb_fraction.specs.Lines.{line_over, reaches_past}
use Rattle.sb_model.specs.Building.{Building}
use Rattle.sb_model.specs.PlanEdges.{PlanEdge, plan_edges, is_abscissa}
use Rattle.sb_fraction.specs.Lines.{flat}
use Rattle.theory_parity.specs.Below.{IsWay, value_of}
use Rattle.theory_parity.proofs.Rays.BelowFlips.{reaching_is_line}
use Rattle.theory_lines.specs.Slabs.{AreOnOneLine}
use Rattle.theory_lines.proofs.OneLiesBelow.{one_line_meets}
use Rattle.theory_gaps.specs.Gaps.{IsRealGap, IsStrictlyIn}
use Rattle.theory_gaps.proofs.EdgesAtANumber.{line_if_same}
use Rattle.theory_gaps.proofs.RowsOfSlabs.{IsRowOver}

module _ (d u : Arrow) (u_in : IsRational u) where
  abbrev value : PlanEdge → Arrow
  value e = value_of d u e.edge

  -- two edges on one line have one value
  one_value : (e f : PlanEdge) → AreOnOneLine d e.edge f.edge → IsSame (value e) (value f)
  one_value e f one =
      (meeting_is (line_over d e.edge) (line_over d f.edge) u u_in).1
      (one_line_meets d e.edge f.edge one u)

  -- so where a number parts the values, the gap lies between two lines
  pub real_if_parted : (v : Arrow) → IsRational v → (row : List PlanEdge)
      → AllByRecursion (λ e. IsRational (value e)) row → (j : ℕ)
      → AllByRecursion (λ e. IsBelow (value e) v) (take j row)
      → AllByRecursion (λ e. IsAtMost v (value e)) (drop j row) → IsRealGap d row j
  real_if_parted v v_in row all zero before behind = tt
  real_if_parted v v_in [] all (suc j) before behind = tt
  real_if_parted v v_in (e ∷ []) all (suc zero) before behind = tt
  real_if_parted v v_in (e ∷ f ∷ row) all (suc zero) before behind =
      λ one.
      let less =
      below_at_most_trans (value e) v (value f) all.0 v_in all.1.0 before.0 behind.0
      in
      let same = one_value e f one in
      omega (arith, ints)
  real_if_parted v v_in (e ∷ row) all (suc (suc j)) before behind =
      real_if_parted v v_in row all.1 (suc j) before.1 behind

module _ (m : Building) (d u : Arrow) (d_is : IsWay d) (u_in : IsRational u)
    (none : is_abscissa m (flat d) u ≡ false) where
  abbrev value_there : PlanEdge → Arrow
  value_there e = value_of d u e.edge

  abbrev IsOver : PlanEdge → Type 0
  IsOver e = Stands e (plan_edges m) × (reaches_past d u e.edge ≡ true)

  value_in : (e : PlanEdge) → IsOver e → IsRational (value_there e)
  value_in e over =
      value_on-IsRational (line_over d e.edge) u (reaching_is_line d u e.edge over.1) u_in

  -- the first of the row lies after an end
  abbrev IsBeforeFirst : Option Arrow → List PlanEdge → Type 0
  IsBeforeFirst low [] = Unit {0}
  IsBeforeFirst low (e ∷ row) = IsAfter low (value_there e)

  -- in the gap, and after an end
  record IsFound (low : Option Arrow) (row : List PlanEdge) (j : ℕ) : Type 0 where
    v : Arrow
    v_in : IsRational v
    after : IsAfter low v
    inside : IsStrictlyIn d row j u v

  after_from : (low : Option Arrow) (s t : Arrow) → IsEnd low → IsRational s → IsRational t
      → IsFrom low s → IsBelow s t → IsAfter low t
  after_from None s t low_in s_in t_in from less = tt
  after_from (Some r) s t low_in s_in t_in from less =
      at_most_below_trans r s t low_in s_in t_in from less

  all_above : (v : Arrow) → IsRational v → (e : PlanEdge) → IsOver e → IsBelow v (value_there e)
      → (row : List PlanEdge) → AllByRecursion IsOver row
      → AllByRecursion (λ f. IsAtMost (value_there e) (value_there f)) row
      → AllByRecursion (λ f. IsBelow v (value_there f)) row
  all_above v v_in e e_in less [] over rise = tt
  all_above v v_in e e_in less (f ∷ row) over rise = (
    below_at_most_trans v (value_there e) (value_there f) v_in (value_in e e_in) (value_in f over.0)
        less rise.0,
    all_above v v_in e e_in less row over.1 rise.1,
  )

  -- in each gap between two lines lies a number
  found_from : (low : Option Arrow) → IsEnd low → (row : List PlanEdge) → AllByRecursion IsOver row
      → AllOfTwo (λ e f. IsAtMost (value_there e) (value_there f)) row
      → AllByRecursion (λ e. IsFrom low (value_there e)) row → (j : ℕ) → IsRealGap d row j
      → (j ≡ zero → IsBeforeFirst low row) → IsFound low row j
  found_from low low_in [] over rise from j real first = by (number_between low None low_in tt (open_up low))
    where
      open_up : (low : Option Arrow) → IsOpen low None
      open_up None = tt
      open_up (Some r) = tt

      none_there : (j : ℕ) (v : Arrow) → IsStrictlyIn d [] j u v
      none_there zero v = (tt, tt)
      none_there (suc j) v = (tt, tt)

      by : (v : Arrow) × IsBetween low None v → IsFound low [] j
      by (v, at) =
          record { v = v; v_in = at.rational; after = at.after; inside = none_there j v }
  found_from low low_in (e ∷ row) over rise from zero real first =
      by
      (number_between low (Some (value_there e)) low_in (value_in e over.0) (first refl))
    where
      by : (v : Arrow) × IsBetween low (Some (value_there e)) v → IsFound low (e ∷ row) zero
      by (v, at) =
          record {
            v = v;
            v_in = at.rational;
            after = at.after;
            inside =
                (tt, (at.before, all_above v at.rational e over.0 at.before row over.1 rise.0));
          }
  found_from low low_in (e ∷ row) over rise from (suc j) real first =
      by
      (found_from (Some (value_there e)) (value_in e over.0) row over.1 rise.1 rise.0 j
      (real_behind j real) (next j row over.1 rise.0 real))
    where
      real_behind : (j : ℕ) → IsRealGap d (e ∷ row) (suc j) → IsRealGap d row j
      real_behind zero real = tt
      real_behind (suc j) real = real

      next : (j : ℕ) (row : List PlanEdge) → AllByRecursion IsOver row
          → AllByRecursion (λ f. IsAtMost (value_there e) (value_there f)) row
          → IsRealGap d (e ∷ row) (suc j) → j ≡ zero → IsBeforeFirst (Some (value_there e)) row
      next j [] over_row rise_row real same = tt
      next zero (f ∷ fs) over_row rise_row real same =
          of (number_cases (value_there e) (value_there f))
        where
          of : (IsBelow (value_there e) (value_there f) ⊎ IsSame (value_there e) (value_there f))
              ⊎ IsBelow (value_there f) (value_there e) → IsBelow (value_there e) (value_there f)
          of (inl (inl less)) = less
          of (inl (inr equal)) =
              absurd
              (real
              (line_if_same m d u d_is u_in none e f over.0.0 over_row.0.0 over.0.1 over_row.0.1 equal))
          of (inr more) = absurd (below_clash (value_there f) (value_there e) more rise_row.0)
      next (suc j) (f ∷ fs) over_row rise_row real same = absurd (suc_is_some j same)
        where
          suc_is_some : (k : ℕ) → suc k ≡ zero → ⊥
          suc_is_some k equal = omega (arith, equal)

      by : IsFound (Some (value_there e)) row j → IsFound low (e ∷ row) (suc j)
      by is =
          record {
            v = is.v;
            v_in = is.v_in;
            after =
                after_from low (value_there e) is.v low_in (value_in e over.0) is.v_in from.0 is.after;
            inside = ((is.after, is.inside.0), is.inside.1);
          }

  -- a gap between two lines has a point, and one between edges on one line has none
  pub real_gap_has_point : (row : List PlanEdge) → IsRowOver m d u row → (j : ℕ)
      → IsRealGap d row j ↔ ((v : Arrow) × (IsRational v × IsStrictlyIn d row j u v))
  real_gap_has_point row is j = (to, back)
    where
      all_from : (es : List PlanEdge) → AllByRecursion (λ e. IsFrom None (value_there e)) es
      all_from [] = tt
      all_from (e ∷ es) = (tt, all_from es)

      first : (es : List PlanEdge) → IsBeforeFirst None es
      first [] = tt
      first (e ∷ es) = tt

      to : IsRealGap d row j → (v : Arrow) × (IsRational v × IsStrictlyIn d row j u v)
      to real =
          let found = found_from None tt row is.over is.rise (all_from row) j real (λ same. first row) in
          (found.v, (found.v_in, found.inside))

      back : (v : Arrow) × (IsRational v × IsStrictlyIn d row j u v) → IsRealGap d row j
      back (v, (v_in, inside)) =
          real_if_parted d u u_in v v_in row
          (all_follow {P = IsOver} {Q = λ e. IsRational (value_there e)} value_in row is.over) j inside.0
          (all_follow {P = λ e. IsBelow v (value_there e)} {Q = λ e. IsAtMost v (value_there e)}
          (λ e less. at_most_from_below v (value_there e) less) (drop j row) inside.1)
