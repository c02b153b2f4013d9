-- Where the lines of two edges meet over a number at which both edges pass, the two edges cross, or
-- the two lines are one.

use Rattle.std.proofs.Common.{◌≡◌, ◌⊎◌, inl, inr, refl, sym, ap, ap₂, ◌∙◌, arith, ℤ, pos, neg_ℤ}
use Rattle.std.proofs.Common.{◌<ℤ◌, ◌≤ℤ◌, ◌+ℤ◌, ◌-ℤ◌, ◌*ℤ◌, Bool, true, false, not, ◌&&◌, int_lt}
use Rattle.std.proofs.Common.{int_le, if◌then◌else◌}
use Rattle.std.specs.Ordering.{int_eq}
use Rattle.std.proofs.lemmas.Int.{ints, by_lt_z}
use Rattle.std.proofs.lemmas.Bool.{and_parts, and_from, not_from_false}
use Rattle.std.proofs.lemmas.Bool.Decides.{Decides-int_eq}
use Rattle.theory_numbers.specs.Tests.{is_positive}
use Rattle.theory_numbers.specs.Arrows.{Arrow, arrow, cross, dot, opposite, scale}
use Rattle.theory_numbers.specs.Rationals.{rational, IsRational, IsZeroForm, IsSame}
use Rattle.theory_numbers.proofs.Vectors.Arrows.{cross-self, cross-turn, cross-scale, opposite-cross}
use Rattle.theory_numbers.proofs.Vectors.Arrows.{cross-opposite}
use Rattle.theory_numbers.proofs.Vectors.Lengths.{opposite_ways}
use Rattle.theory_numbers.proofs.Multiples.{zero_of_multiple}
use Rattle.theory_numbers.proofs.Products.{zero_of_positive}
use Rattle.theory_numbers.proofs.Ring.{mul-zero, mul-neg, neg-mul, mul_comm}
use Rattle.theory_numbers.proofs.Shapes.{var, num, plus, minus, times, equal, dot_by, dot_eq}
use Rattle.theory_numbers.proofs.Signs.{equal_or_not, test_less, test_not_less, test_not_equal}
use Rattle.theory_numbers.proofs.Signs.{at_most_from}
use Rattle.theory_numbers.proofs.Vectors.ThreeTerms.{cycle_x, cycle_y, frame_cross}
use Rattle.theory_plane.specs.Sides.{clearance, clearance_at}
use Rattle.theory_plane.proofs.Clearance.{value_on-IsRational, meeting_is}
use Rattle.sb_fraction.specs.Spots.{Spot, spot, IsSpot, reading}
use Rattle.sb_fraction.specs.Edges.{Edge, span_of, seen_from, turn_at, reach_at, is_on, is_within}
use Rattle.sb_fraction.specs.Crossings.{are_parallel, cross_at, cross_over, ends_over, meeting_of}
use Rattle.sb_fraction.specs.Crossings.{with_positive}
use Rattle.sb_fraction.specs.Lines.{place, flat, span_along, line_over, reaches_past}
use Rattle.theory_plans.specs.Alike.{AreAlike, SeesNoFactor}
use Rattle.theory_plans.proofs.PointsAlike.{same_of_alike, within_sees_no_factor}
use Rattle.theory_parity.specs.Below.{IsWay, spot_in, value_of}
use Rattle.theory_parity.proofs.Rays.BelowByValue.{spot_in_is, abscissa_of_spot}
use Rattle.theory_parity.proofs.Rays.BelowFlips.{reaching_is_line}
use Rattle.theory_parity.proofs.Rays.InsideByBelow.{turn_by_span}
use Rattle.theory_parity.proofs.InsideByValues.{on_is_through, no_end_there}
use Rattle.theory_models.proofs.LabelsAlike.{times-scaled}

-- ---- a point of both lines is the point where they meet

-- one coordinate of it, from the relation of three vectors
coordinate : (W Px sx tx ax w tc ta at : ℤ)
    → (W *ℤ Px) +ℤ ((tc *ℤ w) *ℤ sx) +ℤ ((at *ℤ w) *ℤ tx) ≡ pos 0
    → (W *ℤ ax) +ℤ (ta *ℤ sx) +ℤ (at *ℤ tx) ≡ pos 0
    → W *ℤ Px ≡ w *ℤ ((ax *ℤ W) +ℤ ((ta -ℤ tc) *ℤ sx))
coordinate W Px sx tx ax w tc ta at first second =
    let spread : w *ℤ ((ax *ℤ W) +ℤ ((ta -ℤ tc) *ℤ sx))
    ≡ ((w *ℤ ((W *ℤ ax) +ℤ (ta *ℤ sx) +ℤ (at *ℤ tx))) -ℤ ((tc *ℤ w) *ℤ sx))
    -ℤ ((at *ℤ w) *ℤ tx) =
    equal (times (var w) (plus (times (var ax) (var W)) (times (minus (var ta) (var tc)) (var sx))))
    (minus
    (minus
    (times (var w)
    (plus (plus (times (var W) (var ax)) (times (var ta) (var sx))) (times (var at) (var tx))))
    (times (times (var tc) (var w)) (var sx)))
    (times (times (var at) (var w)) (var tx)))
    (omega arith) in
    let none = ap (λ n. w *ℤ n) second ∙ mul-zero w in
    omega (arith, ints)

-- the way from a to c, turned
way_between : (a c t : Arrow)
    → cross (arrow (c.x -ℤ a.x) (c.y -ℤ a.y)) t ≡ cross t a -ℤ cross t c
unfolding cross
way_between a c t =
    equal
    (minus (times (minus (var c.x) (var a.x)) (var t.y))
    (times (minus (var c.y) (var a.y)) (var t.x)))
    (minus (minus (times (var t.x) (var a.y)) (times (var t.y) (var a.x)))
    (minus (times (var t.x) (var c.y)) (times (var t.y) (var c.x)))) (omega arith)

module _ (p : Spot) (p_is : IsSpot p) (e f : Edge) where
  -- a point on the line of an edge, by its vector
  on_vector : (g : Edge) → turn_at g p ≡ pos 0
      → cross (span_of g) (arrow p.x p.y) ≡ cross (span_of g) (place g.a) *ℤ p.w
  on_vector g level =
      let whole = turn_by_span p g in
      let none = zero_of_positive p.w
      (cross (span_of g) (arrow p.x p.y) -ℤ (cross (span_of g) (place g.a) *ℤ p.w)) p_is
      (sym whole ∙ level) in
      omega (arith, ints)

  abbrev turn_of : ℤ
  turn_of = cross (span_of e) (span_of f)

  abbrev share : ℤ
  share = cross (arrow (f.a.x -ℤ e.a.x) (f.a.y -ℤ e.a.y)) (span_of f)

  module _ (on_e : turn_at e p ≡ pos 0) (on_f : turn_at f p ≡ pos 0) where
    turned_back : cross (arrow p.x p.y) (span_of e) ≡ cross (place e.a) (span_of e) *ℤ p.w
    turned_back =
        let whole = on_vector e on_e in
        let first = cross-turn (span_of e) (arrow p.x p.y) in
        let second : cross (place e.a) (span_of e) *ℤ p.w
        ≡ neg_ℤ (cross (span_of e) (place e.a) *ℤ p.w) =
        ap (λ n. n *ℤ p.w) (cross-turn (span_of e) (place e.a))
        ∙ neg-mul (cross (span_of e) (place e.a)) p.w in
        omega (arith, ints)

    by_share : {k : ℤ} (px sx ax w W t : ℤ) → k ≡ t
        → W *ℤ px ≡ w *ℤ ((ax *ℤ W) +ℤ (t *ℤ sx)) → W *ℤ px ≡ w *ℤ ((ax *ℤ W) +ℤ (k *ℤ sx))
    by_share px sx ax w W t same whole =
        whole ∙ ap (λ n. w *ℤ ((ax *ℤ W) +ℤ (n *ℤ sx))) (sym same)

    at_x : turn_of *ℤ p.x ≡ p.w *ℤ ((e.a.x *ℤ turn_of) +ℤ (share *ℤ (span_of e).x))
    at_x =
        let s = span_of e in
        let t = span_of f in
        let way = way_between (place e.a) (place f.a) t in
        by_share p.x s.x e.a.x p.w turn_of (cross t (place e.a) -ℤ cross t (place f.a)) way
        (coordinate turn_of p.x s.x t.x e.a.x p.w (cross t (place f.a)) (cross t (place e.a))
        (cross (place e.a) s)
        (sym (ap₂ (λ m n. (turn_of *ℤ p.x) +ℤ (m *ℤ s.x) +ℤ (n *ℤ t.x)) (on_vector f on_f)
        turned_back)
        ∙ cycle_x s t (arrow p.x p.y))
        (cycle_x s t (place e.a)))

    at_y : turn_of *ℤ p.y ≡ p.w *ℤ ((e.a.y *ℤ turn_of) +ℤ (share *ℤ (span_of e).y))
    at_y =
        let s = span_of e in
        let t = span_of f in
        let way = way_between (place e.a) (place f.a) t in
        by_share p.y s.y e.a.y p.w turn_of (cross t (place e.a) -ℤ cross t (place f.a)) way
        (coordinate turn_of p.y s.y t.y e.a.y p.w (cross t (place f.a)) (cross t (place e.a))
        (cross (place e.a) s)
        (sym (ap₂ (λ m n. (turn_of *ℤ p.y) +ℤ (m *ℤ s.y) +ℤ (n *ℤ t.y)) (on_vector f on_f)
        turned_back)
        ∙ cycle_y s t (arrow p.x p.y))
        (cycle_y s t (place e.a)))

-- a point at height 0 with the coordinates of q is q with a positive denominator
module _ (p q : Spot) (level : p.z ≡ pos 0) (level_q : q.z ≡ pos 0)
    (same_x : q.w *ℤ p.x ≡ p.w *ℤ q.x) (same_y : q.w *ℤ p.y ≡ p.w *ℤ q.y) where
  turned_coordinate : (w a k b : ℤ) → w *ℤ a ≡ k *ℤ b → neg_ℤ w *ℤ a ≡ k *ℤ neg_ℤ b
  turned_coordinate w a k b same =
      neg-mul w a ∙ ap neg_ℤ same ∙ sym (mul-neg k b)

  heights : (w k a b : ℤ) → a ≡ pos 0 → b ≡ pos 0 → w *ℤ a ≡ k *ℤ b
  heights w k a b first second =
      ap (λ n. w *ℤ n) first ∙ mul-zero w ∙ sym (ap (λ n. k *ℤ n) second ∙ mul-zero k)

  alike_positive : AreAlike p (with_positive q)
  alike_positive = from (int_lt q.w (pos 0))
    where
      from : (b : Bool)
          → AreAlike p (if b then spot (neg_ℤ q.x) (neg_ℤ q.y) (neg_ℤ q.z) (neg_ℤ q.w) else q)
      from true =
          record {
            x = turned_coordinate q.w p.x p.w q.x same_x;
            y = turned_coordinate q.w p.y p.w q.y same_y;
            z = heights (neg_ℤ q.w) p.w p.z (neg_ℤ q.z) level (ap neg_ℤ level_q);
          }
      from false =
          record { x = same_x; y = same_y; z = heights q.w p.w p.z q.z level level_q }

-- a denominator that is not 0 is made positive
made_positive : (q : Spot) → (q.w ≡ pos 0 → ⊥) → IsSpot (with_positive q)
made_positive q other =
    by_lt_z q.w (pos 0)
    (λ below. rw (test_less q.w (pos 0) below) (omega (arith, ints)))
    (λ high. rw (test_not_less q.w (pos 0) high) (above q.w high other))
  where
    above : (w : ℤ) → pos 0 ≤ℤ w → (w ≡ pos 0 → ⊥) → pos 0 <ℤ w
    above w high some =
        by_lt_z (pos 0) w (λ more. more) (λ low. absurd (some (omega (arith, ints))))

-- the point on the lines of two edges that are not parallel is the point where they meet
pub meeting_is_alike : (p : Spot) → IsSpot p → p.z ≡ pos 0 → (e f : Edge)
    → (cross (span_of e) (span_of f) ≡ pos 0 → ⊥) → turn_at e p ≡ pos 0 → turn_at f p ≡ pos 0
    → IsSpot (meeting_of e f) × AreAlike p (meeting_of e f)
meeting_is_alike p p_is level e f apart on_e on_f =
    let w = cross (span_of e) (span_of f) in
    let s = cross (arrow (f.a.x -ℤ e.a.x) (f.a.y -ℤ e.a.y)) (span_of f) in
    let q = spot ((e.a.x *ℤ w) +ℤ (s *ℤ (span_of e).x)) ((e.a.y *ℤ w) +ℤ (s *ℤ (span_of e).y))
    (pos 0) w in (
      made_positive q apart,
      alike_positive p q level refl (at_x p p_is e f on_e on_f) (at_y p p_is e f on_e on_f),
    )

-- ---- its abscissa

-- whether a point has the abscissa u does not depend on how it is written
over_sees_no_factor : (d u : Arrow)
    → SeesNoFactor (λ p. int_eq (cross u (reading p (flat d))) (pos 0))
over_sees_no_factor d u k p above =
    ap (λ n. int_eq (cross u (rational n (k *ℤ p.w))) (pos 0)) (times-scaled k p (flat d))
    ∙ ap (λ n. int_eq n (pos 0)) (cross-scale k u (reading p (flat d)))
    ∙ zero_of_multiple k (cross u (reading p (flat d))) above

-- the point at u and v has the abscissa u
over_spot : (d u v : Arrow)
    → int_eq (cross u (reading (spot_in d u v) (flat d))) (pos 0) ≡ true
over_spot d u v =
    let p = spot_in d u v in
    (Decides-int_eq (cross u (reading p (flat d))) (pos 0)).1
    (ap (λ n. cross u (rational n p.w)) (read p.x p.y)
    ∙ ap (cross u) (abscissa_of_spot d u v)
    ∙ cross-scale (dot d d) u (scale v.x u)
    ∙ ap (λ n. dot d d *ℤ n)
    (cross-scale v.x u u ∙ ap (λ n. v.x *ℤ n) (cross-self u) ∙ mul-zero v.x)
    ∙ mul-zero (dot d d))
  where
    read : (x y : ℤ) → ((x *ℤ d.x) +ℤ (y *ℤ d.y)) +ℤ (pos 0 *ℤ pos 0) ≡ dot d (arrow x y)
    read x y =
        equal
        (plus (plus (times (var x) (var d.x)) (times (var y) (var d.y)))
        (times (num 0) (num 0)))
        (dot_by d (arrow x y) (var d.x) (var d.y) (var x) (var y))
        (omega arith)

-- ---- two edges that pass over u

module _ (d u : Arrow) (d_is : IsWay d) (u_in : IsRational u) where
  -- a point over u on an edge that does not end there lies strictly inside it
  within_there : (v : Arrow) → IsRational v → (e : Edge) → ends_over (flat d) u e ≡ false
      → is_on (spot_in d u v) e ≡ true
      → (turn_at e (spot_in d u v) ≡ pos 0) × (is_within (spot_in d u v) e ≡ true)
  within_there v v_in e no_end on =
      let p = spot_in d u v in
      let parts = and_parts (int_eq (turn_at e p) (pos 0)) (int_le (reach_at e p) (pos 0)) on in
      let level = (Decides-int_eq (turn_at e p) (pos 0)).0 parts.0 in
      let ends = no_end_there d u v d_is u_in v_in e no_end in
      let amid = opposite_ways (seen_from p e.a) (seen_from p e.b) level
      (at_most_from (reach_at e p) (pos 0) parts.1) ends.a_apart ends.b_apart in (
        level,
        and_from (int_eq (turn_at e p) (pos 0)) (int_lt (reach_at e p) (pos 0)) parts.0
            (test_less (reach_at e p) (pos 0) amid),
      )

  on_there : (v : Arrow) → IsRational v → (e : Edge) → ends_over (flat d) u e ≡ false
      → reaches_past d u e ≡ true → IsSame (value_of d u e) v → is_on (spot_in d u v) e ≡ true
  on_there v v_in e no_end reaches same =
      on_is_through d u v d_is u_in v_in e no_end
      ∙ and_from (reaches_past d u e) (int_eq (cross (value_of d u e) v) (pos 0)) reaches
      ((Decides-int_eq (cross (value_of d u e) v) (pos 0)).1 same)

  module _ (e f : Edge) (reach_e : reaches_past d u e ≡ true) (reach_f : reaches_past d u f ≡ true)
      (end_e : ends_over (flat d) u e ≡ false) (end_f : ends_over (flat d) u f ≡ false)
      (zero : clearance_at (line_over d e) (line_over d f) u ≡ pos 0) where
    v : Arrow
    v = value_of d u f

    v_in : IsRational v
    unfolding v
    v_in = value_on-IsRational (line_over d f) u (reaching_is_line d u f reach_f) u_in

    at_e : (turn_at e (spot_in d u v) ≡ pos 0) × (is_within (spot_in d u v) e ≡ true)
    unfolding v
    at_e =
        within_there (value_of d u f) v_in e end_e
        (on_there (value_of d u f) v_in e end_e reach_e
        ((meeting_is (line_over d e) (line_over d f) u u_in).1 zero))

    at_f : (turn_at f (spot_in d u v) ≡ pos 0) × (is_within (spot_in d u v) f ≡ true)
    unfolding v
    at_f =
        within_there (value_of d u f) v_in f end_f
        (on_there (value_of d u f) v_in f end_f reach_f (cross-self (value_of d u f)))

    -- where the two are not parallel they cross over u
    crossing : (cross (span_of e) (span_of f) ≡ pos 0 → ⊥) → cross_over (flat d) u e f ≡ true
    crossing apart =
        let p = spot_in d u v in
        let p_is = spot_in_is d u v d_is u_in v_in in
        let q = meeting_of e f in
        let found = meeting_is_alike p p_is refl e f apart at_e.0 at_f.0 in
        and_from (cross_at q e f) (int_eq (cross u (reading q (flat d))) (pos 0))
        (and_from (not (are_parallel e f)) (is_within q e && is_within q f)
        (not_from_false (are_parallel e f)
        (test_not_equal (cross (span_of e) (span_of f)) (pos 0) apart))
        (and_from (is_within q e) (is_within q f)
        (sym (same_of_alike (λ r. is_within r e) (within_sees_no_factor e) p q p_is found.0 found.1)
        ∙ at_e.1)
        (sym (same_of_alike (λ r. is_within r f) (within_sees_no_factor f) p q p_is found.0 found.1)
        ∙ at_f.1)))
        (sym (same_of_alike (λ r. int_eq (cross u (reading r (flat d))) (pos 0))
        (over_sees_no_factor d u) p q p_is found.0 found.1)
        ∙ over_spot d u v)

-- ---- parallel edges

-- the vectors of two parallel edges, turned along d, are parallel
along_parallel : (d : Arrow) (e f : Edge) → cross (span_of e) (span_of f) ≡ pos 0
    → cross (span_along d e) (span_along d f) ≡ pos 0
unfolding span_along
along_parallel d e f level =
    from (is_positive (dot d (span_of e))) (is_positive (dot d (span_of f)))
  where
    against : cross (opposite (span_of e)) (span_of f) ≡ pos 0
    against = opposite-cross (span_of e) (span_of f) ∙ ap neg_ℤ level

    from : (b c : Bool)
        → cross (if b then span_of e else opposite (span_of e))
        (if c then span_of f else opposite (span_of f)) ≡ pos 0
    from true true = level
    from true false = cross-opposite (span_of e) (span_of f) ∙ ap neg_ℤ level
    from false true = against
    from false false = cross-opposite (opposite (span_of e)) (span_of f) ∙ ap neg_ℤ against

slope_of : (d s t : Arrow)
    → (cross d t *ℤ dot d s) -ℤ (cross d s *ℤ dot d t) ≡ dot d d *ℤ cross s t
slope_of d s t =
    let frame = frame_cross d s t in
    let turned = mul_comm (dot d s) (cross d t) in
    omega (arith, ints)

-- so the clearance of their lines does not change along d
level_clearance : (d : Arrow) (e f : Edge) → cross (span_of e) (span_of f) ≡ pos 0
    → (clearance (line_over d e) (line_over d f)).y ≡ pos 0
unfolding clearance
level_clearance d e f level =
    slope_of d (span_along d e) (span_along d f)
    ∙ ap (λ n. dot d d *ℤ n) (along_parallel d e f level) ∙ mul-zero (dot d d)

-- a form without slope that is 0 somewhere is 0 everywhere
zero_if_level : (form u : Arrow) → IsRational u → form.y ≡ pos 0 → dot form u ≡ pos 0
    → IsZeroForm form
zero_if_level form u u_in level zero = (zero_of_positive u.x form.x u_in whole, level)
  where
    whole : u.x *ℤ form.x ≡ pos 0
    whole =
        let written = dot_eq form u in
        let none : form.y *ℤ u.y ≡ pos 0 *ℤ u.y = ap (λ n. n *ℤ u.y) level in
        let turned = mul_comm u.x form.x in
        omega (arith, ints)

-- two edges that reach past u and do not end over it, whose lines meet over it, cross there, or lie
-- on one line
pub crosses_or_one_line : (d u : Arrow) → IsWay d → IsRational u → (e f : Edge)
    → reaches_past d u e ≡ true → reaches_past d u f ≡ true
    → ends_over (flat d) u e ≡ false → ends_over (flat d) u f ≡ false
    → clearance_at (line_over d e) (line_over d f) u ≡ pos 0
    → IsZeroForm (clearance (line_over d e) (line_over d f)) ⊎ (cross_over (flat d) u e f ≡ true)
crosses_or_one_line d u d_is u_in e f reach_e reach_f end_e end_f zero =
    from (equal_or_not (cross (span_of e) (span_of f)) (pos 0))
  where
    from : (cross (span_of e) (span_of f) ≡ pos 0)
        ⊎ (cross (span_of e) (span_of f) ≡ pos 0 → ⊥)
        → IsZeroForm (clearance (line_over d e) (line_over d f))
        ⊎ (cross_over (flat d) u e f ≡ true)
    from (inl level) =
        inl (zero_if_level (clearance (line_over d e) (line_over d f)) u u_in
        (level_clearance d e f level) zero)
    from (inr apart) =
        inr (crossing d u d_is u_in e f reach_e reach_f end_e end_f zero apart)
