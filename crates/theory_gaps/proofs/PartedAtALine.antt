-- A row is parted at the line of an edge: what is passed up to the last edge on this line, and what lies
-- beyond. So the walk along a level ray from that line is what is read beyond it.
use Rattle.std.proofs.Common.{◌≡◌, refl, sym, ap, ◌∙◌, arith, subst, ◌↔◌, ◌⊎◌, inl, inr}
use Rattle.std.proofs.Common.{ℤ, pos, ◌<ℤ◌, Bool, true, false, ◌&&◌}
use Rattle.std.proofs.Common.{cond, IsTrue, List, [], ◌∷◌}
use Rattle.std.specs.List.{AllByRecursion, list_any}
use Rattle.std.proofs.lemmas.Int.{ints}
use Rattle.std.proofs.lemmas.Bool.{false≢true}
use Rattle.theory_lists.specs.Members.{Stands, AllOfTwo}
use Rattle.theory_lists.specs.Parity.{differ, is_odd_number}
use Rattle.theory_lists.proofs.Members.{all_stands, all_that_stand, any_stands, one_of_any}
use Rattle.theory_lists.proofs.Parity.{differ_assoc, differ_comm}
use Rattle.theory_numbers.specs.Arrows.{Arrow}
use Rattle.theory_numbers.specs.Rationals.{IsRational, IsBelow, IsAtMost, IsSame, rational}
use Rattle.theory_numbers.proofs.Vectors.Arrows.{cross-self, cross-turn}
use Rattle.theory_numbers.proofs.Fractions.Rationals.{at_most_trans, number_cases, same_trans}
use Rattle.theory_numbers.proofs.Fractions.Rationals.{same_sym, below_clash}
use Rattle.theory_plane.proofs.Clearance.{value_on-IsRational}
use Rattle.sb_fraction.specs.Edges.{are_collinear}
use Rattle.sb_fraction.specs.Lines.{flat, line_over, reaches_past}
use Rattle.sb_fraction.specs.Spots.{Spot, IsSpot, inner}
use Rattle.sb_model.specs.declared.walk.Walk.{Walk}
use Rattle.sb_model.specs.Building.{Building, is_building}
use Rattle.sb_model.specs.Passages.{ray_from}
use Rattle.sb_model.specs.PlanEdges.{PlanEdge, plan_edges, is_abscissa}
use Rattle.sb_model.specs.Walks.{course_of, IsWalkOf}
use Rattle.theory_parity.specs.Below.{IsWay, value_of}
use Rattle.theory_parity.proofs.Rays.BelowFlips.{reaching_is_line}
use Rattle.theory_sight.specs.Reading.{read}
use Rattle.theory_gaps.specs.Borders.{stretches_over, stretches_beyond}
use Rattle.theory_gaps.proofs.EdgesAtANumber.{collinear_if_same, same_if_collinear}
use Rattle.theory_gaps.proofs.Rays.LabelsAlongTheNormal.{IsRow}
use Rattle.theory_gaps.proofs.Rays.PointsOnTheRay.{frame_of, abscissa}
use Rattle.theory_gaps.proofs.RowsOfSlabs.{IsRowOver}
use Rattle.theory_gaps.proofs.Rays.WalkAlongTheNormal.{walk_along}
use Rattle.theory_sight.specs.Crossings.{StartsAt}

-- ---- a row is parted at the line of an edge

module _ (m : Building) (b : Arrow) (p : Spot) (x0 : ℤ)
    (starts : StartsAt (ray_from p (flat b)) x0) (p_is : IsSpot p)
    (d_is : IsWay (frame_of b))
    (none : is_abscissa m (flat (frame_of b)) (abscissa b p x0 starts) ≡ false) (e : PlanEdge)
    (e_in : Stands e (plan_edges m))
    (past : reaches_past (frame_of b) (abscissa b p x0 starts) e.edge ≡ true)
    (own : IsSame (value_of (frame_of b) (abscissa b p x0 starts) e.edge) (rational x0 (pos 1))) where
  abbrev d : Arrow
  d = frame_of b

  abbrev u : Arrow
  u = abscissa b p x0 starts

  abbrev at : Arrow
  at = rational x0 (pos 1)

  abbrev IsOver : PlanEdge → Type 0
  IsOver f = Stands f (plan_edges m) × (reaches_past d u f.edge ≡ true)

  abbrev value : PlanEdge → Arrow
  value f = value_of d u f.edge

  value_in : (f : PlanEdge) → IsOver f → IsRational (value f)
  value_in f over =
      value_on-IsRational (line_over d f.edge) u (reaching_is_line d u f.edge over.1) p_is

  at_in : IsRational at
  at_in = omega (arith, ints)

  abbrev IsPassed : PlanEdge → Type 0
  IsPassed f =
      Stands f (plan_edges m) × ((reaches_past d u f.edge ≡ true) × IsAtMost (value f) at)

  -- on the way over the row: what is passed lies up to the edge's line, and the edge is still to come or
  -- nothing before its line is
  record IsPassing (passed row : List PlanEdge) : Type 0 where
    whole : (test : PlanEdge → Bool)
        → differ (is_odd_number test passed) (is_odd_number test row)
        ≡ is_odd_number (λ f. reaches_past d u f.edge && test f) (plan_edges m)
    behind : AllByRecursion IsPassed passed
    over : AllByRecursion IsOver row
    rise : AllOfTwo (λ f g. IsAtMost (value f) (value g)) row
    waits : Stands e row ⊎ AllByRecursion (λ f. IsAtMost at (value f)) row

  -- the row in two parts, and the stretches outward by them
  record IsParted (passed row : List PlanEdge) : Type 0 where
    inner_part : List PlanEdge
    outer_part : List PlanEdge
    stretches_are :
        stretches_beyond m (flat b) p e.edge passed row
        ≡ stretches_over m (flat b) p inner_part outer_part
    parted : IsRow m d u x0 inner_part outer_part

  same_value : (g : PlanEdge) → IsOver g → are_collinear e.edge g.edge ≡ true
      → IsSame (value g) at
  same_value g over collinear =
      same_trans (value g) (value e) at (value_in e (e_in, past))
      (same_sym (value e) (value g)
      (same_if_collinear m d u d_is p_is none e g e_in over.0 past over.1 collinear)) own

  own_collinear : are_collinear e.edge e.edge ≡ true
  own_collinear =
      collinear_if_same m d u d_is p_is none e e e_in e_in past past (cross-self (value e))

  -- where a later edge lies on the line the first does not lie beyond it
  first_is_behind : (passed : List PlanEdge) (f : PlanEdge) (fs : List PlanEdge)
      → IsPassing passed (f ∷ fs)
      → (g : PlanEdge) × (Stands g (f ∷ fs) × (are_collinear e.edge g.edge ≡ true))
      → IsAtMost (value f) at
  first_is_behind passed f fs way (g, (g_in, collinear)) =
      let same = same_value g (all_stands IsOver g (f ∷ fs) way.over g_in) collinear in
      by g_in same
    where
      by : Stands g (f ∷ fs) → IsSame (value g) at → IsAtMost (value f) at
      by (inl first) same =
          let one = subst (λ (h : PlanEdge). IsSame (value h) at) first same in omega (arith, ints)
      by (inr later) same =
          at_most_trans (value f) (value g) at (value_in f way.over.0)
          (value_in g (all_stands IsOver g fs way.over.1 later)) at_in
          (all_stands (λ h. IsAtMost (value f) (value h)) g fs way.rise.0 later)
          (omega (arith, ints, same))

  one_on : (passed : List PlanEdge) (f : PlanEdge) (fs : List PlanEdge) → IsPassing passed (f ∷ fs)
      → IsAtMost (value f) at → IsPassing (f ∷ passed) fs
  one_on passed f fs way first = record {
    whole =
        λ test.
        differ_on (test f) (is_odd_number test passed) (is_odd_number test fs) ∙ way.whole test;
    behind = ((way.over.0.0, (way.over.0.1, first)), way.behind);
    over = way.over.1;
    rise = way.rise.1;
    waits = by way.waits;
  }
    where
      differ_on : (t x y : Bool) → differ (differ t x) y ≡ differ x (differ t y)
      differ_on t x y = ap (λ z. differ z y) (differ_comm t x) ∙ differ_assoc x t y

      from_edge : (gs : List PlanEdge) → IsSame (value f) at → AllByRecursion IsOver gs
          → AllByRecursion (λ g. IsAtMost (value f) (value g)) gs
          → AllByRecursion (λ g. IsAtMost at (value g)) gs
      from_edge [] same over least = tt
      from_edge (g ∷ gs) same over least = (
        at_most_trans at (value f) (value g) at_in (value_in f way.over.0) (value_in g over.0)
            (let turn = cross-turn (value f) at in omega (arith, ints)) least.0,
        from_edge gs same over.1 least.1,
      )

      by : Stands e (f ∷ fs) ⊎ AllByRecursion (λ g. IsAtMost at (value g)) (f ∷ fs)
          → Stands e fs ⊎ AllByRecursion (λ g. IsAtMost at (value g)) fs
      by (inr all) = inr all.1
      by (inl (inr later)) = inl later
      by (inl (inl here)) =
          inr
          (from_edge fs (subst (λ (h : PlanEdge). IsSame (value h) at) here own) way.over.1
          way.rise.0)

  -- where no edge of the row lies on the line all lie beyond it
  all_beyond : (passed row : List PlanEdge) → IsPassing passed row
      → list_any (λ g. are_collinear e.edge g.edge) row ≡ false
      → AllByRecursion
      (λ f. Stands f (plan_edges m) × ((reaches_past d u f.edge ≡ true) × IsBelow at (value f))) row
  all_beyond passed row way off = by way.waits
    where
      strict : (f : PlanEdge) → Stands f row → IsAtMost at (value f)
          → Stands f (plan_edges m) × ((reaches_past d u f.edge ≡ true) × IsBelow at (value f))
      strict f f_in least =
          let over = all_stands IsOver f row way.over f_in in
          (over.0, (over.1, from over (number_cases at (value f))))
        where
          from : IsOver f → (IsBelow at (value f) ⊎ IsSame at (value f)) ⊎ IsBelow (value f) at
              → IsBelow at (value f)
          from over (inl (inl less)) = less
          from over (inr more) = absurd (below_clash (value f) at more least)
          from over (inl (inr same)) =
              absurd
              (false≢true
              (sym off
              ∙ any_stands (λ g. are_collinear e.edge g.edge) f row f_in
              (collinear_if_same m d u d_is p_is none e f e_in over.0 past over.1
              (same_trans (value e) at (value f) at_in own same))))

      by : Stands e row ⊎ AllByRecursion (λ f. IsAtMost at (value f)) row
          → AllByRecursion
          (λ f. Stands f (plan_edges m) × ((reaches_past d u f.edge ≡ true) × IsBelow at (value f)))
          row
      by (inl there) =
          absurd
          (false≢true
          (sym off
          ∙ any_stands (λ g. are_collinear e.edge g.edge) e row there own_collinear))
      by (inr all) =
          all_that_stand
          (λ f. Stands f (plan_edges m) × ((reaches_past d u f.edge ≡ true) × IsBelow at (value f)))
          row
          (λ f f_in.
          strict f f_in (all_stands (λ g. IsAtMost at (value g)) f row all f_in))

  stops : (passed row : List PlanEdge) → IsPassing passed row
      → list_any (λ g. are_collinear e.edge g.edge) row ≡ false → IsRow m d u x0 passed row
  stops passed row way off = record {
    whole = way.whole;
    behind = way.behind;
    ahead = all_beyond passed row way off;
    rise = way.rise;
  }

  parts_of : (passed row : List PlanEdge) → IsPassing passed row → IsParted passed row
  parts_of passed [] way =
      record {
        inner_part = passed;
        outer_part = [];
        stretches_are = refl;
        parted = stops passed [] way refl;
      }
  parts_of passed (f ∷ fs) way =
      by (list_any (λ g. are_collinear e.edge g.edge) (f ∷ fs)) refl (parts_of (f ∷ passed) fs)
    where
      by : (t : Bool) → list_any (λ g. are_collinear e.edge g.edge) (f ∷ fs) ≡ t
          → (IsPassing (f ∷ passed) fs → IsParted (f ∷ passed) fs) → IsParted passed (f ∷ fs)
      by true some later =
          let rest =
          later
          (one_on passed f fs way
          (first_is_behind passed f fs way
          (one_of_any (λ g. are_collinear e.edge g.edge) (f ∷ fs) some)))
          in
          record {
            inner_part = rest.inner_part;
            outer_part = rest.outer_part;
            stretches_are =
                ap
                (λ t'.
                cond t' (stretches_beyond m (flat b) p e.edge (f ∷ passed) fs)
                (stretches_over m (flat b) p passed (f ∷ fs))) some
                ∙ rest.stretches_are;
            parted = rest.parted;
          }
      by false off later =
          record {
            inner_part = passed;
            outer_part = f ∷ fs;
            stretches_are =
                ap
                (λ t'.
                cond t' (stretches_beyond m (flat b) p e.edge (f ∷ passed) fs)
                (stretches_over m (flat b) p passed (f ∷ fs))) off;
            parted = stops passed (f ∷ fs) way off;
          }

  -- the walk along the ray is what is read beyond the line of the edge
  pub walk_beyond : IsTrue (is_building m) → pos 0 <ℤ inner (flat b) (flat b) → (row : List PlanEdge)
      → IsRowOver m (frame_of b) (abscissa b p x0 starts) row → Stands e row → (w : Walk)
      → IsWalkOf m (ray_from p (flat b)) w
      ↔ (course_of w ≡ read m (flat b) x0 x0 (stretches_beyond m (flat b) p e.edge [] row))
  walk_beyond valid some row is e_there w =
      let parts =
      parts_of [] row
      (record {
        whole = is.whole;
        behind = tt;
        over = is.over;
        rise = is.rise;
        waits = inl e_there;
      })
      in
      subst
      (λ ss. IsWalkOf m (ray_from p (flat b)) w ↔ (course_of w ≡ read m (flat b) x0 x0 ss))
      (sym parts.stretches_are)
      (walk_along m valid b p x0 starts p_is some parts.inner_part parts.outer_part parts.parted none w)
