-- The line stands over a point of an edge between the passing of its two ends; and over each place
-- between them the edge has one point, at the value of its line.

use Rattle.std.proofs.Common.{◌≡◌, sym, ap, ap₂, ◌∙◌, ◌⊎◌, inl, inr, arith, ℤ, pos, refl}
use Rattle.std.proofs.Common.{◌<ℤ◌, ◌≤ℤ◌, ◌+ℤ◌, ◌-ℤ◌, ◌*ℤ◌, true, int_le, ◌↔◌}
use Rattle.std.specs.Ordering.{int_eq}
use Rattle.std.proofs.lemmas.Int.{ints}
use Rattle.std.proofs.lemmas.Bool.{and_parts}
use Rattle.std.proofs.lemmas.Bool.Decides.{Decides-int_eq}
use Rattle.theory_numbers.specs.Arrows.{Arrow, arrow, cross, dot, scale}
use Rattle.theory_numbers.specs.Rationals.{IsRational, IsBelow, IsAtMost, IsSame}
use Rattle.theory_numbers.proofs.Vectors.Arrows.{same_arrow, cross-turn, cross-self, scale-cross}
use Rattle.theory_numbers.proofs.Shapes.{var, num, plus, minus, times, equal, cross_by, dot_by}
use Rattle.theory_numbers.proofs.Signs.{at_most_from, test_less, less_from}
use Rattle.theory_numbers.proofs.Products.{zero_of_positive, positive_product, weak_product}
use Rattle.theory_numbers.proofs.Products.{weak_negative_product, weak_negative_factor, weak_factor}
use Rattle.theory_numbers.proofs.Products.{positive_factor}
use Rattle.theory_numbers.proofs.Ring.{mul-zero}
use Rattle.theory_numbers.proofs.Vectors.ThreeTerms.{frame_cross, frame_dot}
use Rattle.theory_numbers.proofs.Vectors.Lengths.{no_length, long_from}
use Rattle.theory_numbers.proofs.Fractions.Rationals.{below_or_not}
use Rattle.theory_plane.specs.Sides.{LineSide, IsLineSide}
use Rattle.theory_plane.specs.Points.{FacePoint, ordinate_of, rise}
use Rattle.theory_plane.specs.Points.{is_above_side}
use Rattle.theory_plane.proofs.Points.{above_is, on_is}
use Rattle.theory_plane.proofs.Clearance.{value_on-IsRational}
use Rattle.sb_fraction.specs.declared.point.Point.{Point}
use Rattle.sb_fraction.specs.Spots.{Spot, IsSpot, spot_at}
use Rattle.sb_fraction.specs.Edges.{Edge, span_of, seen_from, turn_at, reach_at, is_on}
use Rattle.sb_fraction.specs.Lines.{in_frame, line_over, span_along, place}
use Rattle.theory_plans.proofs.CommonPointIsCorner.{IsAt}
use Rattle.theory_parity.specs.Below.{IsWay, abscissa_in, spot_in, value_of}
use Rattle.theory_parity.proofs.Rays.BelowByValue.{abscissa_of_spot, on_spot, spot_in_is}
use Rattle.theory_parity.proofs.Rays.InsideByBelow.{turn_by_span}
use Rattle.theory_parity.proofs.OnLineOver.{on_line_over}
use Rattle.theory_parity.proofs.SolidOnTheLeft.OwnPoints.{IsAlong, along_from_on, on_along, by_ends_cross, IsLong}
use Rattle.theory_sweep.specs.Passing.{pass_of, at_pass, IsRising}

-- ---- the vector of a rising edge

span_by_ends : (d : Arrow) (e : Edge) → dot d (span_of e) ≡ pass_of d e.b -ℤ pass_of d e.a
span_by_ends d e =
    equal
    (dot_by d (span_of e) (var d.x) (var d.y) (minus (var e.b.x) (var e.a.x))
    (minus (var e.b.y) (var e.a.y)))
    (minus (plus (times (var e.b.x) (var d.x)) (times (var e.b.y) (var d.y)))
    (plus (times (var e.a.x) (var d.x)) (times (var e.a.y) (var d.y))))
    (omega arith)

-- it runs along the way
pub rises : (d : Arrow) (e : Edge) → IsRising d e → pos 0 <ℤ dot d (span_of e)
rises d e rising = let whole = span_by_ends d e in omega (arith, ints)

-- so it has a length
pub rising_is_long : (d : Arrow) → IsWay d → (e : Edge) → IsRising d e → IsLong e
rising_is_long d d_is e rising =
    let along = rises d e rising in
    long_from d (span_of e) (λ none. omega (arith, ints)) d_is

-- and its line a value at each number
pub rising_is_line : (d : Arrow) (e : Edge) → IsRising d e → IsLineSide (line_over d e)
unfolding span_along
rising_is_line d e rising =
    let along = rises d e rising in rw (test_less (pos 0) (dot d (span_of e)) along) along

-- which is a rational number
pub value_is : (d u : Arrow) (e : Edge) → IsRising d e → IsRational u → IsRational (value_of d u e)
value_is d u e rising u_in = value_on-IsRational (line_over d e) u (rising_is_line d e rising) u_in

-- ---- an end, as seen from a point

-- how far along the way the point still has to go to it
pub seen_along : (d : Arrow) (p : Spot) (a : Point)
    → dot d (seen_from p a) ≡ cross (abscissa_in d p) (at_pass (pass_of d a))
seen_along d p a =
    equal
    (dot_by d (seen_from p a) (var d.x) (var d.y) (minus (times (var a.x) (var p.w)) (var p.x))
    (minus (times (var a.y) (var p.w)) (var p.y)))
    (cross_by (abscissa_in d p) (at_pass (pass_of d a)) (var p.w)
    (dot_by d (arrow p.x p.y) (var d.x) (var d.y) (var p.x) (var p.y))
    (num 1) (plus (times (var a.x) (var d.x)) (times (var a.y) (var d.y))))
    (omega arith)

-- at no distance it is passed at the same number
pub passed_there : (d : Arrow) (p : Spot) (c : Point) → IsAt p c
    → IsSame (abscissa_in d p) (at_pass (pass_of d c))
passed_there d p c at =
    sym (seen_along d p c)
    ∙ ap (dot d) (same_arrow (seen_from p c) (arrow (pos 0) (pos 0)) at.0 at.1)
    ∙ equal (dot_by d (arrow (pos 0) (pos 0)) (var d.x) (var d.y) (num 0) (num 0)) (num 0)
    (omega arith)

module _ (d : Arrow) (d_is : IsWay d) (e : Edge) (rising : IsRising d e) where
  long : IsLong e
  long = rising_is_long d d_is e rising

  -- along the vector of the edge and along the way, on the line of the edge
  by_way : (v : Arrow) → cross (span_of e) v ≡ pos 0
      → dot (span_of e) (span_of e) *ℤ dot d v ≡ dot (span_of e) d *ℤ dot (span_of e) v
  by_way v level =
      let whole = frame_dot (span_of e) d v in
      let none = ap (λ n. cross (span_of e) d *ℤ n) level ∙ mul-zero (cross (span_of e) d) in
      omega (arith, ints)

  along_way : pos 0 <ℤ dot (span_of e) d
  along_way =
      let up = rises d e rising in
      let swap = equal (dot_by (span_of e) d (var (span_of e).x) (var (span_of e).y) (var d.x)
      (var d.y))
      (dot_by d (span_of e) (var d.x) (var d.y) (var (span_of e).x) (var (span_of e).y))
      (omega arith) in
      omega (arith, ints)

  -- a point on its line lies along the edge where its ends are passed before and after
  along_from_way : (p : Spot) → IsSpot p → turn_at e p ≡ pos 0
      → dot d (seen_from p e.a) ≤ℤ pos 0 → pos 0 ≤ℤ dot d (seen_from p e.b) → IsAlong e p
  along_from_way p p_is level behind ahead =
      let to_a = seen_from p e.a in
      let to_b = seen_from p e.b in
      let turn = cross-turn to_a to_b in
      let self_a = cross-self to_a in
      let self_b = cross-self to_b in
      let cross_a = by_ends_cross e p to_a in
      let cross_b = by_ends_cross e p to_b in
      let a_level : cross (span_of e) to_a ≡ pos 0 =
      zero_of_positive p.w (cross (span_of e) to_a) p_is (omega (arith, ints)) in
      let b_level : cross (span_of e) to_b ≡ pos 0 =
      zero_of_positive p.w (cross (span_of e) to_b) p_is (omega (arith, ints)) in
      let way_a = by_way to_a a_level in
      let way_b = by_way to_b b_level in
      let wide = long in
      let low = weak_negative_product (dot (span_of e) (span_of e)) (dot d to_a) (omega
      (arith, ints)) behind in
      let high = weak_product (dot (span_of e) (span_of e)) (dot d to_b) (omega
      (arith, ints)) ahead in
      record {
        is = p_is;
        a_level = a_level;
        a_behind =
            weak_negative_factor (dot (span_of e) d) (dot (span_of e) to_a) along_way (omega
            (arith, ints));
        b_level = b_level;
        b_ahead =
            weak_factor (dot (span_of e) d) (dot (span_of e) to_b) along_way (omega (arith, ints));
      }

  -- ---- the point of the edge over a place

  -- at the value of its line it lies on the edge
  pub over_place : (u v : Arrow) → IsRational u → IsRational v
      → IsAtMost (at_pass (pass_of d e.a)) u → IsAtMost u (at_pass (pass_of d e.b))
      → IsSame (value_of d u e) v → is_on (spot_in d u v) e ≡ true
  over_place u v u_in v_in after before same =
      on_along e (spot_in d u v) long
      (along_from_way (spot_in d u v) (spot_in_is d u v d_is u_in v_in) level behind ahead)
    where
      level : turn_at e (spot_in d u v) ≡ pos 0
      level =
          (Decides-int_eq (turn_at e (spot_in d u v)) (pos 0)).0
          (sym (on_line_over d (spot_in d u v) e d_is (spot_in_is d u v d_is u_in v_in))
          ∙ on_spot d u v (line_over d e) d_is
          ∙ (Decides-int_eq (cross (value_of d u e) v) (pos 0)).1 same)

      far : (a : Point) → dot d (seen_from (spot_in d u v) a)
          ≡ dot d d *ℤ (v.x *ℤ cross u (at_pass (pass_of d a)))
      far a =
          seen_along d (spot_in d u v) a
          ∙ ap (λ t. cross t (at_pass (pass_of d a))) (abscissa_of_spot d u v)
          ∙ scale-cross (dot d d) (scale v.x u) (at_pass (pass_of d a))
          ∙ ap (λ t. dot d d *ℤ t) (scale-cross v.x u (at_pass (pass_of d a)))

      behind : dot d (seen_from (spot_in d u v) e.a) ≤ℤ pos 0
      behind =
          let whole = far e.a in
          let turn = cross-turn (at_pass (pass_of d e.a)) u in
          let one = weak_negative_product v.x (cross u (at_pass (pass_of d e.a)))
          (omega (arith, ints)) (omega (arith, ints)) in
          let other = weak_negative_product (dot d d) (v.x *ℤ cross u (at_pass (pass_of d e.a)))
          (omega (arith, ints)) one in
          omega (arith, ints)

      ahead : pos 0 ≤ℤ dot d (seen_from (spot_in d u v) e.b)
      ahead =
          let whole = far e.b in
          let one = weak_product v.x (cross u (at_pass (pass_of d e.b))) (omega
          (arith, ints)) before in
          let other = weak_product (dot d d) (v.x *ℤ cross u (at_pass (pass_of d e.b)))
          (omega (arith, ints)) one in
          omega (arith, ints)

  -- ---- a point of the edge

  along_it : (p : Spot) → IsSpot p → is_on p e ≡ true → IsAlong e p
  along_it p p_is on =
      let parts = and_parts (int_eq (turn_at e p) (pos 0)) (int_le (reach_at e p) (pos 0)) on in
      along_from_on e p p_is ((Decides-int_eq (turn_at e p) (pos 0)).0 parts.0)
      (at_most_from (reach_at e p) (pos 0) parts.1)

  -- is passed after the end a and before the end b
  pub passed_between : (p : Spot) → IsSpot p → is_on p e ≡ true
      → IsAtMost (at_pass (pass_of d e.a)) (abscissa_in d p)
      × IsAtMost (abscissa_in d p) (at_pass (pass_of d e.b))
  passed_between p p_is on =
      let it = along_it p p_is on in
      let up = along_way in
      let wide = long in
      let way_a = by_way (seen_from p e.a) it.a_level in
      let way_b = by_way (seen_from p e.b) it.b_level in
      let low = weak_negative_product (dot (span_of e) d) (dot (span_of e) (seen_from p e.a))
      (omega (arith, ints)) it.a_behind in
      let high = weak_product (dot (span_of e) d) (dot (span_of e) (seen_from p e.b))
      (omega (arith, ints)) it.b_ahead in
      let behind = weak_negative_factor (dot (span_of e) (span_of e)) (dot d (seen_from p e.a)) wide
      (omega (arith, ints)) in
      let ahead = weak_factor (dot (span_of e) (span_of e)) (dot d (seen_from p e.b)) wide
      (omega (arith, ints)) in
      let seen_a = seen_along d p e.a in
      let seen_b = seen_along d p e.b in
      let turn = cross-turn (abscissa_in d p) (at_pass (pass_of d e.a)) in
      (omega (arith, ints), omega (arith, ints))

  -- one that is passed with an end is this end
  at_end : (p : Spot) → (c : Point) → cross (span_of e) (seen_from p c) ≡ pos 0
      → IsSame (abscissa_in d p) (at_pass (pass_of d c)) → IsAt p c
  at_end p c level same =
      let wide = long in
      let up = along_way in
      let v = seen_from p c in
      let way = by_way v level in
      let none : dot d v ≡ pos 0 = seen_along d p c ∙ same in
      let zero : dot (span_of e) d *ℤ dot (span_of e) v ≡ pos 0 =
      sym way ∙ ap (λ n. dot (span_of e) (span_of e) *ℤ n) none
      ∙ mul-zero (dot (span_of e) (span_of e)) in
      let ahead = zero_of_positive (dot (span_of e) d) (dot (span_of e) v) up zero in
      let whole = frame_dot (span_of e) v v in
      let first = ap (λ n. n *ℤ dot (span_of e) v) ahead in
      let second = ap (λ n. n *ℤ cross (span_of e) v) level in
      let short = zero_of_positive (dot (span_of e) (span_of e)) (dot v v) wide
      (whole ∙ ap₂ (λ s t. s +ℤ t) first second
      ∙ equal (plus (times (num 0) (var (dot (span_of e) v))) (times (num 0) (var (cross
      (span_of e) v))))
      (num 0) (omega arith)) in
      no_length v (omega (arith, ints))

  pub at_a : (p : Spot) → IsSpot p → is_on p e ≡ true
      → IsSame (abscissa_in d p) (at_pass (pass_of d e.a)) → IsAt p e.a
  at_a p p_is on same = at_end p e.a (along_it p p_is on).a_level same

  pub at_b : (p : Spot) → IsSpot p → is_on p e ≡ true
      → IsSame (abscissa_in d p) (at_pass (pass_of d e.b)) → IsAt p e.b
  at_b p p_is on same = at_end p e.b (along_it p p_is on).b_level same

  -- there the line of the edge has its value
  pub value_there : (p : Spot) → IsSpot p → turn_at e p ≡ pos 0
      → IsSame (value_of d (abscissa_in d p) e) (ordinate_of (in_frame d p))
  value_there p p_is level =
      (on_is (line_over d e) (in_frame d p) p_is).0
      (on_line_over d p e d_is p_is ∙ (Decides-int_eq (turn_at e p) (pos 0)).1 level)

  pub value_on_it : (p : Spot) → IsSpot p → is_on p e ≡ true
      → IsSame (value_of d (abscissa_in d p) e) (ordinate_of (in_frame d p))
  value_on_it p p_is on =
      let parts = and_parts (int_eq (turn_at e p) (pos 0)) (int_le (reach_at e p) (pos 0)) on in
      value_there p p_is ((Decides-int_eq (turn_at e p) (pos 0)).0 parts.0)

  -- ---- a point that lies beside the edge

  rise_is : (p : Spot) → p.w *ℤ rise (line_over d e) (in_frame d p) ≡ dot d d *ℤ turn_at e p
  unfolding span_along
  rise_is p = rw (test_less (pos 0) (dot d (span_of e)) (rises d e rising)) whole
    where
      s : Arrow
      s = span_of e

      whole : p.w *ℤ rise (record {
        dx = dot d (span_of e);
        dy = cross d
            (span_of e);
        off = dot d d *ℤ cross (span_of e) (place e.a);
      })
          (in_frame d p)
          ≡ dot d d *ℤ turn_at e p
      whole =
          let frame = frame_cross d (span_of e) (arrow p.x p.y) in
          let turn = turn_by_span p e in
          equal
          (times (var p.w)
          (minus (minus (times (var (dot d (span_of e))) (var (cross d (arrow p.x p.y))))
          (times (var (cross d (span_of e))) (var (dot d (arrow p.x p.y)))))
          (times (times (var (dot d d)) (var (cross (span_of e) (place e.a)))) (var p.w))))
          (times (var p.w)
          (minus (minus (times (var (dot d (span_of e))) (var (cross d (arrow p.x p.y))))
          (times (var (cross d (span_of e))) (var (dot d (arrow p.x p.y)))))
          (times (times (var (dot d d)) (var (cross (span_of e) (place e.a)))) (var p.w))))
          (omega arith)
          ∙ ap (λ n. p.w *ℤ (n -ℤ ((dot d d *ℤ cross (span_of e) (place e.a)) *ℤ p.w))) (sym frame)
          ∙ equal
          (times (var p.w)
          (minus (times (var (dot d d)) (var (cross (span_of e) (arrow p.x p.y))))
          (times (times (var (dot d d)) (var (cross (span_of e) (place e.a)))) (var p.w))))
          (times (var (dot d d))
          (times (var p.w)
          (minus (var (cross (span_of e) (arrow p.x p.y)))
          (times (var (cross (span_of e) (place e.a))) (var p.w)))))
          (omega arith)
          ∙ ap (λ n. dot d d *ℤ n) (sym turn)

  above_rise : (l : LineSide) (f : FacePoint) → is_above_side l f ≡ true ↔ (pos 0 <ℤ rise l f)
  above_rise l f = (
    λ answer.
        let less = less_from (l.off *ℤ f.w) ((l.dx *ℤ f.v) -ℤ (l.dy *ℤ f.u)) answer in
        omega (arith, ints),
    λ up. test_less (l.off *ℤ f.w) ((l.dx *ℤ f.v) -ℤ (l.dy *ℤ f.u)) (omega (arith, ints)),
  )

  -- it has the edge below it where it lies left of it
  pub value_below : (p : Spot) → IsSpot p → pos 0 <ℤ turn_at e p
      → IsBelow (value_of d (abscissa_in d p) e) (ordinate_of (in_frame d p))
  value_below p p_is left =
      let whole = rise_is p in
      let one = positive_product (dot d d) (turn_at e p) d_is left in
      (above_is (line_over d e) (in_frame d p) p_is).0
      ((above_rise (line_over d e) (in_frame d p)).1
      (positive_factor p.w (rise (line_over d e) (in_frame d p)) p_is (omega (arith, ints))))

  pub left_if_below : (p : Spot) → IsSpot p
      → IsBelow (value_of d (abscissa_in d p) e) (ordinate_of (in_frame d p))
      → pos 0 <ℤ turn_at e p
  left_if_below p p_is below =
      let whole = rise_is p in
      let up = (above_rise (line_over d e) (in_frame d p)).0
      ((above_is (line_over d e) (in_frame d p) p_is).1 below) in
      let one = positive_product p.w (rise (line_over d e) (in_frame d p)) p_is up in
      positive_factor (dot d d) (turn_at e p) d_is (omega (arith, ints))

  -- on its line where it has its value
  pub level_if_same : (p : Spot) → IsSpot p
      → IsSame (value_of d (abscissa_in d p) e) (ordinate_of (in_frame d p))
      → turn_at e p ≡ pos 0
  level_if_same p p_is same =
      (Decides-int_eq (turn_at e p) (pos 0)).0
      (sym (on_line_over d p e d_is p_is)
      ∙ (on_is (line_over d e) (in_frame d p) p_is).1 same)

  -- and else the edge is not below it
  pub value_above : (p : Spot) → IsSpot p → turn_at e p ≤ℤ pos 0
      → IsAtMost (ordinate_of (in_frame d p)) (value_of d (abscissa_in d p) e)
  value_above p p_is right =
      from (below_or_not (value_of d (abscissa_in d p) e) (ordinate_of (in_frame d p)))
    where
      from : IsBelow (value_of d (abscissa_in d p) e) (ordinate_of (in_frame d p))
          ⊎ IsAtMost (ordinate_of (in_frame d p)) (value_of d (abscissa_in d p) e)
          → IsAtMost (ordinate_of (in_frame d p)) (value_of d (abscissa_in d p) e)
      from (inl below) = let left = left_if_below p p_is below in absurd (omega (arith, ints))
      from (inr more) = more

-- ---- plan points

-- a plan point is passed at a whole number
pub passed_at : (d : Arrow) (v : Point) → abscissa_in d (spot_at v) ≡ at_pass (pass_of d v)
passed_at d v =
    same_arrow (abscissa_in d (spot_at v)) (at_pass (pass_of d v)) refl
    (equal (dot_by d (arrow v.x v.y) (var d.x) (var d.y) (var v.x) (var v.y))
    (plus (times (var v.x) (var d.x)) (times (var v.y) (var d.y))) (omega arith))

-- whole numbers, as places of the line
pub cross_whole : (a b : ℤ) → cross (at_pass a) (at_pass b) ≡ b -ℤ a
cross_whole a b =
    equal (cross_by (at_pass a) (at_pass b) (num 1) (var a) (num 1) (var b))
    (minus (var b) (var a)) (omega arith)

-- the point of two numbers is passed at the first
pub same_place : (d u v t : Arrow) → IsWay d → IsRational v
    → IsSame (abscissa_in d (spot_in d u v)) t → IsSame u t
same_place d u v t d_is v_in same =
    zero_of_positive v.x (cross u t) v_in
    (zero_of_positive (dot d d) (v.x *ℤ cross u t) d_is
    (sym (scale-cross (dot d d) (scale v.x u) t ∙ ap (λ n. dot d d *ℤ n) (scale-cross v.x u t))
    ∙ ap (λ s. cross s t) (sym (abscissa_of_spot d u v)) ∙ same))
