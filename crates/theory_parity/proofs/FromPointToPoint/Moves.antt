-- Two points with no edge of a plan between them lie both inside it or both outside.

use Rattle.std.proofs.Common.{◌≡◌, refl, sym, ap, ap₂, ◌∙◌, ◌⊎◌, inl, inr, arith, ℤ, pos, neg_ℤ}
use Rattle.std.proofs.Common.{◌<ℤ◌, ◌≤ℤ◌, ◌+ℤ◌, ◌-ℤ◌, ◌*ℤ◌, Bool, true, false, not, ◌&&◌, int_lt}
use Rattle.std.proofs.Common.{List, [], ◌∷◌}
use Rattle.std.specs.List.{AllByRecursion, list_any}
use Rattle.std.proofs.lemmas.Int.{ints}
use Rattle.std.proofs.lemmas.Bool.{or_parts, false≢true}
use Rattle.theory_lists.proofs.Parity.{odd_where_same}
use Rattle.theory_lists.proofs.Members.{all_follow}
use Rattle.theory_numbers.specs.Arrows.{Arrow, arrow, cross, dot}
use Rattle.theory_numbers.proofs.Shapes.{var, num, plus, minus, negated, times, equal}
use Rattle.theory_numbers.proofs.Signs.{same_less, less_or_not, above_or_not}
use Rattle.theory_numbers.proofs.Vectors.Lengths.{no_length}
use Rattle.theory_numbers.proofs.Multiples.{sign_of_multiple, other_sign_of_multiple}
use Rattle.theory_numbers.proofs.Ring.{mul_comm, mul-zero}
use Rattle.theory_numbers.proofs.SignTables.{hit_of}
use Rattle.sb_fraction.specs.declared.point.Point.{Point}
use Rattle.sb_fraction.specs.Spots.{Spot, spot, IsSpot}
use Rattle.sb_fraction.specs.Edges.{Edge, turn_at, is_on}
use Rattle.sb_fraction.specs.Lines.{place}
use Rattle.theory_plans.specs.LoopEdges.{edges_of}
use Rattle.theory_plans.specs.Inside.{is_in_plan}
use Rattle.theory_plans.specs.Rays.{is_left_of, is_struck}
use Rattle.theory_plans.proofs.PointsAlike.{alike_inside}
use Rattle.theory_parity.specs.Below.{IsWay}
use Rattle.theory_parity.specs.Halves.{height_over, left_half, half_right_of, on_way, AreClearOf}
use Rattle.theory_parity.proofs.Rays.AnyRay.{decided}
use Rattle.theory_parity.proofs.Rays.InsideByBelow.{inside_by_ray}
use Rattle.theory_parity.proofs.FromPointToPoint.Heights.{height-on_way, on_way_is, turn_by_height, left_by_height}

-- the edge has no point on the way from p to q, both taken in
abbrev pub IsClearOf : Spot → Spot → Edge → Type 0
IsClearOf p q e =
    (m n : ℤ) → pos 0 ≤ℤ m → pos 0 ≤ℤ n → pos 0 <ℤ (m +ℤ n) → is_on (on_way m p n q) e ≡ false

-- the way from p to q
abbrev pub way_to : Spot → Spot → Arrow
way_to p q = arrow ((q.x *ℤ p.w) -ℤ (p.x *ℤ q.w)) ((q.y *ℤ p.w) -ℤ (p.y *ℤ q.w))

-- ---- one ray from its points

along_the_way : (p q : Spot)
    → q.w *ℤ (((way_to p q).y *ℤ p.x) +ℤ (neg_ℤ (way_to p q).x *ℤ p.y))
    ≡ p.w *ℤ (((way_to p q).y *ℤ q.x) +ℤ (neg_ℤ (way_to p q).x *ℤ q.y))
along_the_way p q =
    equal
    (times (var q.w)
    (plus
    (times (minus (times (var q.y) (var p.w)) (times (var p.y) (var q.w))) (var p.x))
    (times (negated (minus (times (var q.x) (var p.w)) (times (var p.x) (var q.w)))) (var p.y))))
    (times (var p.w)
    (plus
    (times (minus (times (var q.y) (var p.w)) (times (var p.y) (var q.w))) (var q.x))
    (times (negated (minus (times (var q.x) (var p.w)) (times (var p.x) (var q.w)))) (var q.y))))
    (omega arith)

-- a plan point lies on one side of the way, as seen from both ends
side_at_ends : (p q : Spot) (a : Point)
    → q.w *ℤ height_over (half_right_of (way_to p q) a) p
    ≡ p.w *ℤ height_over (half_right_of (way_to p q) a) q
side_at_ends p q a =
    by (((way_to p q).y *ℤ p.x) +ℤ (neg_ℤ (way_to p q).x *ℤ p.y))
    (((way_to p q).y *ℤ q.x) +ℤ (neg_ℤ (way_to p q).x *ℤ q.y))
    (cross (way_to p q) (place a)) (along_the_way p q)
  where
    by : (at_p at_q c : ℤ) → q.w *ℤ at_p ≡ p.w *ℤ at_q
        → q.w *ℤ (at_p +ℤ (c *ℤ p.w)) ≡ p.w *ℤ (at_q +ℤ (c *ℤ q.w))
    by at_p at_q c same =
        equal (times (var q.w) (plus (var at_p) (times (var c) (var p.w))))
        (plus (times (var q.w) (var at_p)) (times (var p.w) (times (var c) (var q.w))))
        (omega arith)
        ∙ ap (λ t. t +ℤ (p.w *ℤ (c *ℤ q.w))) same
        ∙ equal (plus (times (var p.w) (var at_q)) (times (var p.w) (times (var c) (var q.w))))
        (times (var p.w) (plus (var at_q) (times (var c) (var q.w)))) (omega arith)

-- and from each point between them
side_on_way : (p q : Spot) (m n : ℤ) (a : Point)
    → p.w *ℤ height_over (half_right_of (way_to p q) a) (on_way m p n q)
    ≡ ((m *ℤ p.w) +ℤ (n *ℤ q.w)) *ℤ height_over (half_right_of (way_to p q) a) p
side_on_way p q m n a =
    by (height_over (half_right_of (way_to p q) a) (on_way m p n q))
    (height_over (half_right_of (way_to p q) a) p) (height_over (half_right_of (way_to p q) a) q)
    (height-on_way (half_right_of (way_to p q) a) m p n q) (side_at_ends p q a)
  where
    by : (at_t at_p at_q : ℤ) → at_t ≡ (m *ℤ at_p) +ℤ (n *ℤ at_q)
        → q.w *ℤ at_p ≡ p.w *ℤ at_q
        → p.w *ℤ at_t ≡ ((m *ℤ p.w) +ℤ (n *ℤ q.w)) *ℤ at_p
    by at_t at_p at_q sum same =
        ap (λ t. p.w *ℤ t) sum
        ∙ equal (times (var p.w) (plus (times (var m) (var at_p)) (times (var n) (var at_q))))
        (plus (times (times (var m) (var p.w)) (var at_p))
        (times (var n) (times (var p.w) (var at_q))))
        (omega arith)
        ∙ ap (λ t. ((m *ℤ p.w) *ℤ at_p) +ℤ (n *ℤ t)) (sym same)
        ∙ equal
        (plus (times (times (var m) (var p.w)) (var at_p))
        (times (var n) (times (var q.w) (var at_p))))
        (times (plus (times (var m) (var p.w)) (times (var n) (var q.w))) (var at_p))
        (omega arith)

-- so a plan point lies left of the way from each of its points or from none
pub left_on_way : (p q : Spot) (m n : ℤ) (a : Point) → IsSpot p → IsSpot (on_way m p n q)
    → is_left_of (way_to p q) (on_way m p n q) a ≡ is_left_of (way_to p q) p a
left_on_way p q m n a p_is t_is =
    let t = on_way m p n q in
    let h = half_right_of (way_to p q) a in
    ap (int_lt (pos 0)) (left_by_height (way_to p q) t a)
    ∙ sym (sign_of_multiple p.w (height_over h t) p_is)
    ∙ ap (int_lt (pos 0)) (side_on_way p q m n a)
    ∙ sign_of_multiple t.w (height_over h p) t_is
    ∙ sym (ap (int_lt (pos 0)) (left_by_height (way_to p q) p a))

-- from its far end too
pub left_at_end : (p q : Spot) (a : Point) → IsSpot p → IsSpot q
    → is_left_of (way_to p q) q a ≡ is_left_of (way_to p q) p a
left_at_end p q a p_is q_is =
    let h = half_right_of (way_to p q) a in
    ap (int_lt (pos 0)) (left_by_height (way_to p q) q a)
    ∙ sym (sign_of_multiple p.w (height_over h q) p_is)
    ∙ sym (ap (int_lt (pos 0)) (side_at_ends p q a))
    ∙ sign_of_multiple q.w (height_over h p) q_is
    ∙ sym (ap (int_lt (pos 0)) (left_by_height (way_to p q) p a))

-- ---- an edge that has no point on the way

same_hits : (a b over under over' under' : Bool) → (a ≡ not b → over ≡ over')
    → (a ≡ not b → under ≡ under') → hit_of a b over under ≡ hit_of a b over' under'
same_hits true true over under over' under' first second = refl
same_hits true false over under over' under' first second = second refl
same_hits false true over under over' under' first second = first refl
same_hits false false over under over' under' first second = refl

kept : {a : ℤ} → (pos 0 <ℤ a) ⊎ (a ≤ℤ pos 0) → (a ≤ℤ pos 0 → ⊥) → pos 0 <ℤ a
kept (inl above) none = above
kept (inr low) none = absurd (none low)

lowered : {a : ℤ} → (a <ℤ pos 0) ⊎ (pos 0 ≤ℤ a) → (pos 0 ≤ℤ a → ⊥) → a <ℤ pos 0
lowered (inl below) none = below
lowered (inr high) none = absurd (none high)

cancelled : (q p : ℤ) → (neg_ℤ q *ℤ p) +ℤ (p *ℤ q) ≡ pos 0
cancelled q p =
    equal (plus (times (negated (var q)) (var p)) (times (var p) (var q))) (num 0) (omega arith)

cancelled_late : (q p : ℤ) → (q *ℤ p) +ℤ (neg_ℤ p *ℤ q) ≡ pos 0
cancelled_late q p =
    equal (plus (times (var q) (var p)) (times (negated (var p)) (var q))) (num 0) (omega arith)

module _ (p q : Spot) (e : Edge) (p_is : IsSpot p) (q_is : IsSpot q) where
  -- an edge with its ends on the two sides of the way, but no point on it, has no height 0 there
  pub no_height_0 : IsClearOf p q e
      → is_left_of (way_to p q) p e.a ≡ not (is_left_of (way_to p q) p e.b)
      → (m n : ℤ) → pos 0 ≤ℤ m → pos 0 ≤ℤ n → pos 0 <ℤ (m +ℤ n)
      → (m *ℤ height_over (left_half e) p) +ℤ (n *ℤ height_over (left_half e) q) ≡ pos 0 → ⊥
  no_height_0 clear sides m n m_in n_in some zero =
      let t = on_way m p n q in
      let t_is = on_way_is m p n q p_is q_is m_in n_in some in
      let level : turn_at e t ≡ pos 0 =
      turn_by_height e t
      ∙ ap (λ z. t.w *ℤ z) (height-on_way (left_half e) m p n q ∙ zero) ∙ mul-zero t.w in
      let here : is_left_of (way_to p q) t e.a ≡ not (is_left_of (way_to p q) t e.b) =
      left_on_way p q m n e.a p_is t_is ∙ sides
      ∙ sym (ap not (left_on_way p q m n e.b p_is t_is)) in
      let opposite = decided (way_to p q) t e (clear m n m_in n_in some) here in
      let above : int_lt (pos 0) (turn_at e t) ≡ false = rw level refl in
      let below : int_lt (turn_at e t) (pos 0) ≡ false = rw level refl in
      false≢true (sym above ∙ opposite ∙ ap not below)

  -- so the heights over it at the two ends have one sign
  pub keeps_left : IsClearOf p q e
      → is_left_of (way_to p q) p e.a ≡ not (is_left_of (way_to p q) p e.b)
      → int_lt (pos 0) (turn_at e p) ≡ int_lt (pos 0) (turn_at e q)
  keeps_left clear sides =
      ap (int_lt (pos 0)) (turn_by_height e p)
      ∙ sign_of_multiple p.w at_p p_is
      ∙ same_less (pos 0) at_p (pos 0) at_q to from
      ∙ sym (sign_of_multiple q.w at_q q_is)
      ∙ sym (ap (int_lt (pos 0)) (turn_by_height e q))
    where
      at_p : ℤ
      at_p = height_over (left_half e) p

      at_q : ℤ
      at_q = height_over (left_half e) q

      to : pos 0 <ℤ at_p → pos 0 <ℤ at_q
      to above =
          kept (above_or_not at_q)
          (λ low. no_height_0 clear sides (neg_ℤ at_q) at_p (omega (arith, ints))
          (omega (arith, ints)) (omega (arith, ints)) (cancelled at_q at_p))

      from : pos 0 <ℤ at_q → pos 0 <ℤ at_p
      from above =
          kept (above_or_not at_p)
          (λ low. no_height_0 clear sides at_q (neg_ℤ at_p) (omega (arith, ints))
          (omega (arith, ints)) (omega (arith, ints)) (cancelled_late at_q at_p))

  -- the same of its right
  pub keeps_right : IsClearOf p q e
      → is_left_of (way_to p q) p e.a ≡ not (is_left_of (way_to p q) p e.b)
      → int_lt (turn_at e p) (pos 0) ≡ int_lt (turn_at e q) (pos 0)
  keeps_right clear sides =
      ap (λ n. int_lt n (pos 0)) (turn_by_height e p)
      ∙ other_sign_of_multiple p.w at_p p_is
      ∙ same_less at_p (pos 0) at_q (pos 0) to from
      ∙ sym (other_sign_of_multiple q.w at_q q_is)
      ∙ sym (ap (λ n. int_lt n (pos 0)) (turn_by_height e q))
    where
      at_p : ℤ
      at_p = height_over (left_half e) p

      at_q : ℤ
      at_q = height_over (left_half e) q

      to : at_p <ℤ pos 0 → at_q <ℤ pos 0
      to below =
          lowered (less_or_not at_q (pos 0))
          (λ high. no_height_0 clear sides at_q (neg_ℤ at_p) (omega (arith, ints))
          (omega (arith, ints)) (omega (arith, ints)) (cancelled_late at_q at_p))

      from : at_q <ℤ pos 0 → at_p <ℤ pos 0
      from below =
          lowered (less_or_not at_p (pos 0))
          (λ high. no_height_0 clear sides (neg_ℤ at_q) at_p (omega (arith, ints))
          (omega (arith, ints)) (omega (arith, ints)) (cancelled at_q at_p))

  -- a ray strikes from both its points the edges that have no point between them
  pub same_ray : IsClearOf p q e → is_struck (way_to p q) p e ≡ is_struck (way_to p q) q e
  same_ray clear =
      same_hits (is_left_of (way_to p q) p e.a) (is_left_of (way_to p q) p e.b)
      (int_lt (pos 0) (turn_at e p)) (int_lt (turn_at e p) (pos 0))
      (int_lt (pos 0) (turn_at e q)) (int_lt (turn_at e q) (pos 0))
      (λ sides. keeps_left clear sides) (λ sides. keeps_right clear sides)
      ∙ sym
      (ap₂ (λ a b. hit_of a b (int_lt (pos 0) (turn_at e q)) (int_lt (turn_at e q) (pos 0)))
      (left_at_end p q e.a p_is q_is) (left_at_end p q e.b p_is q_is))

-- ---- closed loops

each_is_clear : (p q : Spot) (es : List Edge) → AreClearOf p q es
    → AllByRecursion (IsClearOf p q) es
each_is_clear p q [] clear = tt
each_is_clear p q (e ∷ es) clear = (
  λ m n m_in n_in some.
      (or_parts (is_on (on_way m p n q) e) (list_any (is_on (on_way m p n q)) es)
      (clear m n m_in n_in some)).0,
  each_is_clear p q es (λ m n m_in n_in some.
      (or_parts (is_on (on_way m p n q) e) (list_any (is_on (on_way m p n q)) es)
      (clear m n m_in n_in some)).1),
)

-- the point at the height 0
abbrev pub flat_spot : Spot → Spot
flat_spot p = spot p.x p.y (pos 0) p.w

-- two points at the height 0 with equal numbers
pub same_flat : {x y w x' y' w' : ℤ} → x ≡ x' → y ≡ y' → w ≡ w'
    → spot x y (pos 0) w ≡ spot x' y' (pos 0) w'
same_flat {x} {y} {w} {x'} {y'} {w'} ex ey ew =
    ap (λ t. spot t y (pos 0) w) ex ∙ ap (λ t. spot x' t (pos 0) w) ey
    ∙ ap (λ t. spot x' y' (pos 0) t) ew

first_of : (a b : ℤ) → (pos 1 *ℤ a) +ℤ (pos 0 *ℤ b) ≡ a
first_of a b =
    equal (plus (times (num 1) (var a)) (times (num 0) (var b))) (var a) (omega arith)

last_of : (a b : ℤ) → (pos 0 *ℤ a) +ℤ (pos 1 *ℤ b) ≡ b
last_of a b =
    equal (plus (times (num 0) (var a)) (times (num 1) (var b))) (var b) (omega arith)

-- the way begins at p
pub way_begins : (p q : Spot) → on_way (pos 1) p (pos 0) q ≡ flat_spot p
way_begins p q = same_flat (first_of p.x q.x) (first_of p.y q.y) (first_of p.w q.w)

-- and ends at q
pub way_ends : (p q : Spot) → on_way (pos 0) p (pos 1) q ≡ flat_spot q
way_ends p q = same_flat (last_of p.x q.x) (last_of p.y q.y) (last_of p.w q.w)

-- two points with no edge of a plan between them lie both inside it or both outside
module _ (loops : List (List Point)) (p q : Spot) (p_is : IsSpot p) (q_is : IsSpot q)
    (clear : AreClearOf p q (edges_of loops)) where
  off_p : list_any (is_on p) (edges_of loops) ≡ false
  off_p =
      ap (λ t. list_any (is_on t) (edges_of loops)) (sym (way_begins p q))
      ∙ clear (pos 1) (pos 0) (omega (arith, ints)) (omega (arith, ints)) (omega (arith, ints))

  off_q : list_any (is_on q) (edges_of loops) ≡ false
  off_q =
      ap (λ t. list_any (is_on t) (edges_of loops)) (sym (way_ends p q))
      ∙ clear (pos 0) (pos 1) (omega (arith, ints)) (omega (arith, ints)) (omega (arith, ints))

  by_way : IsWay (way_to p q) → is_in_plan loops p ≡ is_in_plan loops q
  by_way way =
      inside_by_ray (way_to p q) p way loops
      ∙ ap₂ (λ s t. not s && t) (off_p ∙ sym off_q)
      (odd_where_same (is_struck (way_to p q) p) (is_struck (way_to p q) q) (edges_of loops)
      (all_follow (λ e clear_e. same_ray p q e p_is q_is clear_e) (edges_of loops)
      (each_is_clear p q (edges_of loops) clear)))
      ∙ sym (inside_by_ray (way_to p q) q way loops)

  at_one_point : dot (way_to p q) (way_to p q) ≤ℤ pos 0 → is_in_plan loops p ≡ is_in_plan loops q
  at_one_point short =
      let none = no_length (way_to p q) short in
      let x = none.0 in
      let y = none.1 in
      let turn_x = mul_comm p.w q.x in
      let turn_y = mul_comm p.w q.y in
      let other_x = mul_comm q.w p.x in
      let other_y = mul_comm q.w p.y in
      alike_inside loops (flat_spot p) (flat_spot q) p_is q_is (record {
        x = omega (arith, ints);
        y = omega (arith, ints);
        z = mul-zero q.w ∙ sym (mul-zero p.w);
      })

  -- both inside or both outside
  pub moves : is_in_plan loops p ≡ is_in_plan loops q
  moves = from (above_or_not (dot (way_to p q) (way_to p q)))
    where
      from : (pos 0 <ℤ dot (way_to p q) (way_to p q)) ⊎ (dot (way_to p q) (way_to p q) ≤ℤ pos 0)
          → is_in_plan loops p ≡ is_in_plan loops q
      from (inl way) = by_way way
      from (inr short) = at_one_point short
