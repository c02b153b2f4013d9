-- The points of an edge, as seen along its vector: each lies on its line, not behind a and not
-- ahead of b. What lies between two of them is one.

use Rattle.std.proofs.Common.{◌≡◌, ap, ap₂, ◌∙◌, ◌⊎◌, inl, inr, arith, ℤ, pos, neg_ℤ}
use Rattle.std.proofs.Common.{◌<ℤ◌, ◌≤ℤ◌, ◌+ℤ◌, ◌-ℤ◌, ◌*ℤ◌, true, int_le, int_lt}
use Rattle.std.specs.Ordering.{int_eq}
use Rattle.std.proofs.lemmas.Int.{ints}
use Rattle.std.proofs.lemmas.Bool.{and_parts, and_from}
use Rattle.std.proofs.lemmas.Bool.Decides.{Decides-int_eq}
use Rattle.theory_numbers.specs.Arrows.{Arrow, arrow, cross, dot, add, scale, opposite}
use Rattle.theory_numbers.proofs.Vectors.Arrows.{same_arrow, cross-turn, cross-self, cross-add, cross-scale}
use Rattle.theory_numbers.proofs.Vectors.Arrows.{dot_comm, dot-add, dot-scale, cross-opposite, dot-opposite}
use Rattle.theory_numbers.proofs.Shapes.{var, num, plus, minus, negated, times, equal}
use Rattle.theory_numbers.proofs.Shapes.{cross_by, dot_by}
use Rattle.theory_numbers.proofs.Signs.{less_from, test_less, test_at_most, above_or_not}
use Rattle.theory_numbers.proofs.Products.{weak_factor, positive_product, weak_product}
use Rattle.theory_numbers.proofs.Products.{zero_of_positive}
use Rattle.theory_numbers.proofs.Products.{positive_factor, negative_factor, weak_negative_factor}
use Rattle.theory_numbers.proofs.Products.{weak_negative_product, negative_product}
use Rattle.theory_numbers.proofs.Ring.{mul-zero, zero-mul, mul_comm}
use Rattle.theory_numbers.proofs.Vectors.ThreeTerms.{frame_cross, frame_dot}
use Rattle.theory_numbers.proofs.Vectors.Lengths.{weak_length}
use Rattle.sb_fraction.specs.declared.point.Point.{Point}
use Rattle.sb_fraction.specs.Spots.{Spot, IsSpot, spot_at}
use Rattle.sb_fraction.specs.Edges.{Edge, edge, span_of, seen_from, turn_at, reach_at}
use Rattle.sb_fraction.specs.Edges.{is_on, is_within}
use Rattle.theory_plans.specs.Plans.{middle_of}
use Rattle.theory_parity.specs.Halves.{on_way}
use Rattle.theory_parity.proofs.FromPointToPoint.Heights.{on_way_is}

-- the point lies on the line of the edge, not behind its end a and not ahead of its end b
pub record IsAlong (e : Edge) (p : Spot) : Type 0 where
  pub is : IsSpot p
  pub a_level : cross (span_of e) (seen_from p e.a) ≡ pos 0
  pub a_behind : dot (span_of e) (seen_from p e.a) ≤ℤ pos 0
  pub b_level : cross (span_of e) (seen_from p e.b) ≡ pos 0
  pub b_ahead : pos 0 ≤ℤ dot (span_of e) (seen_from p e.b)

-- a is behind it
abbrev pub IsPastA : Edge → Spot → Type 0
IsPastA e p = dot (span_of e) (seen_from p e.a) <ℤ pos 0

-- b is ahead of it
abbrev pub IsBeforeB : Edge → Spot → Type 0
IsBeforeB e p = pos 0 <ℤ dot (span_of e) (seen_from p e.b)

-- it lies strictly between the ends
pub record IsOwn (e : Edge) (p : Spot) : Type 0 where
  pub along : IsAlong e p
  pub past : IsPastA e p
  pub before : IsBeforeB e p

-- the edge has a length
abbrev pub IsLong : Edge → Type 0
IsLong e = pos 0 <ℤ dot (span_of e) (span_of e)

-- ---- the vector of the edge, by its ends

-- its cross product with any vector
pub by_ends_cross : (e : Edge) (p : Spot) (v : Arrow)
    → p.w *ℤ cross (span_of e) v ≡ cross (seen_from p e.b) v -ℤ cross (seen_from p e.a) v
by_ends_cross e p v =
    equal
    (times (var p.w)
    (cross_by (span_of e) v (minus (var e.b.x) (var e.a.x)) (minus (var e.b.y) (var e.a.y))
    (var v.x) (var v.y)))
    (minus
    (cross_by (seen_from p e.b) v
    (minus (times (var e.b.x) (var p.w)) (var p.x)) (minus (times (var e.b.y) (var p.w)) (var p.y))
    (var v.x) (var v.y))
    (cross_by (seen_from p e.a) v
    (minus (times (var e.a.x) (var p.w)) (var p.x)) (minus (times (var e.a.y) (var p.w)) (var p.y))
    (var v.x) (var v.y)))
    (omega arith)

-- and its inner product
pub by_ends_dot : (e : Edge) (p : Spot) (v : Arrow)
    → p.w *ℤ dot (span_of e) v ≡ dot (seen_from p e.b) v -ℤ dot (seen_from p e.a) v
by_ends_dot e p v =
    equal
    (times (var p.w)
    (dot_by (span_of e) v (minus (var e.b.x) (var e.a.x)) (minus (var e.b.y) (var e.a.y))
    (var v.x) (var v.y)))
    (minus
    (dot_by (seen_from p e.b) v
    (minus (times (var e.b.x) (var p.w)) (var p.x)) (minus (times (var e.b.y) (var p.w)) (var p.y))
    (var v.x) (var v.y))
    (dot_by (seen_from p e.a) v
    (minus (times (var e.a.x) (var p.w)) (var p.x)) (minus (times (var e.a.y) (var p.w)) (var p.y))
    (var v.x) (var v.y)))
    (omega arith)

-- ---- on the edge, as its definition says

-- a point on the edge lies along it
pub along_from_on : (e : Edge) (p : Spot) → IsSpot p → turn_at e p ≡ pos 0
    → reach_at e p ≤ℤ pos 0 → IsAlong e p
along_from_on e p p_is level near =
    let to_a = seen_from p e.a in
    let to_b = seen_from p e.b in
    let turn = cross-turn to_a to_b in
    let same = dot_comm to_a to_b in
    let self_a = cross-self to_a in
    let self_b = cross-self to_b in
    let cross_a = by_ends_cross e p to_a in
    let cross_b = by_ends_cross e p to_b in
    let dot_a = by_ends_dot e p to_a in
    let dot_b = by_ends_dot e p to_b in
    let long_a = weak_length to_a in
    let long_b = weak_length to_b in
    record {
      is = p_is;
      a_level = zero_of_positive p.w (cross (span_of e) to_a) p_is (omega (arith, ints));
      a_behind =
          weak_negative_factor p.w (dot (span_of e) to_a) p_is (omega (arith, ints));
      b_level = zero_of_positive p.w (cross (span_of e) to_b) p_is (omega (arith, ints));
      b_ahead = weak_factor p.w (dot (span_of e) to_b) p_is (omega (arith, ints));
    }

-- a point on it that is no end is one of its own
pub own_from_on : (e : Edge) (p : Spot) → IsSpot p → turn_at e p ≡ pos 0 → reach_at e p ≤ℤ pos 0
    → pos 0 <ℤ dot (seen_from p e.a) (seen_from p e.a)
    → pos 0 <ℤ dot (seen_from p e.b) (seen_from p e.b) → IsOwn e p
own_from_on e p p_is level near a_apart b_apart =
    let same = dot_comm (seen_from p e.a) (seen_from p e.b) in
    let dot_a = by_ends_dot e p (seen_from p e.a) in
    let dot_b = by_ends_dot e p (seen_from p e.b) in
    record {
      along = along_from_on e p p_is level near;
      past = negative_factor p.w (dot (span_of e) (seen_from p e.a)) p_is (omega (arith, ints));
      before = positive_factor p.w (dot (span_of e) (seen_from p e.b)) p_is (omega (arith, ints));
    }

-- a point strictly inside it is one of its own
pub own_from_within : (e : Edge) (p : Spot) → IsSpot p → is_within p e ≡ true → IsOwn e p
own_from_within e p p_is within =
    let parts = and_parts (int_eq (turn_at e p) (pos 0)) (int_lt (reach_at e p) (pos 0)) within in
    let level = (Decides-int_eq (turn_at e p) (pos 0)).0 parts.0 in
    let near = less_from (reach_at e p) (pos 0) parts.1 in
    let to_a = seen_from p e.a in
    let to_b = seen_from p e.b in
    let same = dot_comm to_a to_b in
    let dot_a = by_ends_dot e p to_a in
    let dot_b = by_ends_dot e p to_b in
    let long_a = weak_length to_a in
    let long_b = weak_length to_b in
    record {
      along = along_from_on e p p_is level (omega (arith, ints));
      past = negative_factor p.w (dot (span_of e) to_a) p_is (omega (arith, ints));
      before = positive_factor p.w (dot (span_of e) to_b) p_is (omega (arith, ints));
    }

module _ (e : Edge) (p : Spot) (long : IsLong e) (along : IsAlong e p) where
  -- what lies along the edge lies on its line
  pub level_along : turn_at e p ≡ pos 0
  level_along =
      let to_a = seen_from p e.a in
      let to_b = seen_from p e.b in
      let frame = frame_cross (span_of e) to_a to_b in
      let first : dot (span_of e) to_a *ℤ cross (span_of e) to_b ≡ pos 0 =
      ap (λ t. dot (span_of e) to_a *ℤ t) along.b_level ∙ mul-zero (dot (span_of e) to_a) in
      let second : cross (span_of e) to_a *ℤ dot (span_of e) to_b ≡ pos 0 =
      ap (λ t. t *ℤ dot (span_of e) to_b) along.a_level ∙ zero-mul (dot (span_of e) to_b) in
      zero_of_positive (dot (span_of e) (span_of e)) (turn_at e p) long (omega (arith, ints))

  reach_product : dot (span_of e) (span_of e) *ℤ reach_at e p
      ≡ dot (span_of e) (seen_from p e.a) *ℤ dot (span_of e) (seen_from p e.b)
  reach_product =
      let to_a = seen_from p e.a in
      let to_b = seen_from p e.b in
      let frame = frame_dot (span_of e) to_a to_b in
      let second : cross (span_of e) to_a *ℤ cross (span_of e) to_b ≡ pos 0 =
      ap (λ t. t *ℤ cross (span_of e) to_b) along.a_level ∙ zero-mul (cross (span_of e) to_b) in
      omega (arith, ints)

  -- and on the edge
  pub on_along : is_on p e ≡ true
  on_along =
      let to_a = seen_from p e.a in
      let to_b = seen_from p e.b in
      let behind = along.a_behind in
      let ahead = along.b_ahead in
      let swap = mul_comm (dot (span_of e) to_a) (dot (span_of e) to_b) in
      let product = weak_negative_product (dot (span_of e) to_b) (dot (span_of e) to_a) ahead
      behind in
      let whole = reach_product in
      and_from (int_eq (turn_at e p) (pos 0)) (int_le (reach_at e p) (pos 0))
      ((Decides-int_eq (turn_at e p) (pos 0)).1 level_along)
      (test_at_most (reach_at e p) (pos 0)
      (weak_negative_factor (dot (span_of e) (span_of e)) (reach_at e p) long (omega (arith, ints))))

-- a point of its own lies strictly inside it
pub within_from_own : (e : Edge) (p : Spot) → IsLong e → IsOwn e p → is_within p e ≡ true
within_from_own e p long own =
    let to_a = seen_from p e.a in
    let to_b = seen_from p e.b in
    let behind = own.past in
    let ahead = own.before in
    let swap = mul_comm (dot (span_of e) to_a) (dot (span_of e) to_b) in
    let product = negative_product (dot (span_of e) to_b) (dot (span_of e) to_a) ahead behind in
    let whole = reach_product e p long own.along in
    and_from (int_eq (turn_at e p) (pos 0)) (int_lt (reach_at e p) (pos 0))
    ((Decides-int_eq (turn_at e p) (pos 0)).1 (level_along e p long own.along))
    (test_less (reach_at e p) (pos 0)
    (negative_factor (dot (span_of e) (span_of e)) (reach_at e p) long (omega (arith, ints))))

-- ---- points between two points of the edge

-- a plan point seen from a point on the way
seen_on_way : (k : ℤ) (p : Spot) (l : ℤ) (q : Spot) (a : Point)
    → seen_from (on_way k p l q) a ≡ add (scale k (seen_from p a)) (scale l (seen_from q a))
seen_on_way k p l q a =
    same_arrow (seen_from (on_way k p l q) a)
    (add (scale k (seen_from p a)) (scale l (seen_from q a))) (by a.x p.x q.x) (by a.y p.y q.y)
  where
    by : (b x y : ℤ)
        → (b *ℤ ((k *ℤ p.w) +ℤ (l *ℤ q.w))) -ℤ ((k *ℤ x) +ℤ (l *ℤ y))
        ≡ (k *ℤ ((b *ℤ p.w) -ℤ x)) +ℤ (l *ℤ ((b *ℤ q.w) -ℤ y))
    by b x y =
        equal
        (minus
        (times (var b) (plus (times (var k) (var p.w)) (times (var l) (var q.w))))
        (plus (times (var k) (var x)) (times (var l) (var y))))
        (plus (times (var k) (minus (times (var b) (var p.w)) (var x)))
        (times (var l) (minus (times (var b) (var q.w)) (var y))))
        (omega arith)

pub cross_on_way : (s : Arrow) (k : ℤ) (p : Spot) (l : ℤ) (q : Spot) (a : Point)
    → cross s (seen_from (on_way k p l q) a)
    ≡ (k *ℤ cross s (seen_from p a)) +ℤ (l *ℤ cross s (seen_from q a))
cross_on_way s k p l q a =
    ap (cross s) (seen_on_way k p l q a)
    ∙ cross-add s (scale k (seen_from p a)) (scale l (seen_from q a))
    ∙ ap₂ (λ t u. t +ℤ u) (cross-scale k s (seen_from p a)) (cross-scale l s (seen_from q a))

pub dot_on_way : (s : Arrow) (k : ℤ) (p : Spot) (l : ℤ) (q : Spot) (a : Point)
    → dot s (seen_from (on_way k p l q) a)
    ≡ (k *ℤ dot s (seen_from p a)) +ℤ (l *ℤ dot s (seen_from q a))
dot_on_way s k p l q a =
    ap (dot s) (seen_on_way k p l q a)
    ∙ dot-add s (scale k (seen_from p a)) (scale l (seen_from q a))
    ∙ ap₂ (λ t u. t +ℤ u) (dot-scale k s (seen_from p a)) (dot-scale l s (seen_from q a))

module _ (k l : ℤ) (k_in : pos 0 ≤ℤ k) (l_in : pos 0 ≤ℤ l) (some : pos 0 <ℤ (k +ℤ l)) where
  sum_above : (a b : ℤ) → pos 0 <ℤ a → pos 0 <ℤ b → pos 0 <ℤ ((k *ℤ a) +ℤ (l *ℤ b))
  sum_above a b a_in b_in = from (above_or_not k)
    where
      from : (pos 0 <ℤ k) ⊎ (k ≤ℤ pos 0) → pos 0 <ℤ ((k *ℤ a) +ℤ (l *ℤ b))
      from (inl above) =
          let one = positive_product k a above a_in in
          let other = weak_product l b l_in (omega (arith, ints)) in
          omega (arith, ints)
      from (inr none) =
          let one = weak_product k a k_in (omega (arith, ints)) in
          let other = positive_product l b (omega (arith, ints)) b_in in
          omega (arith, ints)

  sum_below : (a b : ℤ) → a <ℤ pos 0 → b <ℤ pos 0 → ((k *ℤ a) +ℤ (l *ℤ b)) <ℤ pos 0
  sum_below a b a_in b_in = from (above_or_not k)
    where
      from : (pos 0 <ℤ k) ⊎ (k ≤ℤ pos 0) → ((k *ℤ a) +ℤ (l *ℤ b)) <ℤ pos 0
      from (inl above) =
          let one = negative_product k a above a_in in
          let other = weak_negative_product l b l_in (omega (arith, ints)) in
          omega (arith, ints)
      from (inr none) =
          let one = weak_negative_product k a k_in (omega (arith, ints)) in
          let other = negative_product l b (omega (arith, ints)) b_in in
          omega (arith, ints)

  sum_zero : (a b : ℤ) → a ≡ pos 0 → b ≡ pos 0 → (k *ℤ a) +ℤ (l *ℤ b) ≡ pos 0
  sum_zero a b a_in b_in =
      ap₂ (λ t u. (k *ℤ t) +ℤ (l *ℤ u)) a_in b_in
      ∙ equal (plus (times (var k) (num 0)) (times (var l) (num 0))) (num 0) (omega arith)

  module _ (e : Edge) (p q : Spot) (first : IsAlong e p) (second : IsAlong e q) where
    -- what lies between two points along the edge lies along it
    pub along_between : IsAlong e (on_way k p l q)
    along_between =
        let s = span_of e in
        let at_a = dot_on_way s k p l q e.a in
        let at_b = dot_on_way s k p l q e.b in
        let a_one = weak_negative_product k (dot s (seen_from p e.a)) k_in first.a_behind in
        let a_other = weak_negative_product l (dot s (seen_from q e.a)) l_in second.a_behind in
        let b_one = weak_product k (dot s (seen_from p e.b)) k_in first.b_ahead in
        let b_other = weak_product l (dot s (seen_from q e.b)) l_in second.b_ahead in
        record {
          is = on_way_is k p l q first.is second.is k_in l_in some;
          a_level =
              cross_on_way s k p l q e.a
              ∙ sum_zero (cross s (seen_from p e.a)) (cross s (seen_from q e.a)) first.a_level
              second.a_level;
          a_behind = omega (arith, ints);
          b_level =
              cross_on_way s k p l q e.b
              ∙ sum_zero (cross s (seen_from p e.b)) (cross s (seen_from q e.b)) first.b_level
              second.b_level;
          b_ahead = omega (arith, ints);
        }

    -- past a where the two are
    pub past_between : IsPastA e p → IsPastA e q → IsPastA e (on_way k p l q)
    past_between past_p past_q =
        let whole = dot_on_way (span_of e) k p l q e.a in
        let sum = sum_below (dot (span_of e) (seen_from p e.a)) (dot (span_of e) (seen_from q e.a))
        past_p past_q in
        omega (arith, ints)

    -- before b where the two are
    pub before_between : IsBeforeB e p → IsBeforeB e q → IsBeforeB e (on_way k p l q)
    before_between before_p before_q =
        let whole = dot_on_way (span_of e) k p l q e.b in
        let sum = sum_above (dot (span_of e) (seen_from p e.b)) (dot (span_of e) (seen_from q e.b))
        before_p before_q in
        omega (arith, ints)

-- ---- the middle of an edge

-- from the middle the end b is seen by the vector of the edge
pub b_from_middle : (e : Edge) → seen_from (middle_of e) e.b ≡ span_of e
b_from_middle e =
    same_arrow (seen_from (middle_of e) e.b) (span_of e) (by e.a.x e.b.x) (by e.a.y e.b.y)
  where
    by : (a b : ℤ) → (b *ℤ pos 2) -ℤ (a +ℤ b) ≡ b -ℤ a
    by a b =
        equal (minus (times (var b) (num 2)) (plus (var a) (var b))) (minus (var b) (var a))
        (omega arith)

-- and the end a by the opposite one
pub a_from_middle : (e : Edge) → seen_from (middle_of e) e.a ≡ opposite (span_of e)
a_from_middle e =
    same_arrow (seen_from (middle_of e) e.a) (opposite (span_of e)) (by e.a.x e.b.x) (by e.a.y e.b.y)
  where
    by : (a b : ℤ) → (a *ℤ pos 2) -ℤ (a +ℤ b) ≡ neg_ℤ (b -ℤ a)
    by a b =
        equal (minus (times (var a) (num 2)) (plus (var a) (var b)))
        (negated (minus (var b) (var a))) (omega arith)

-- it lies strictly between the ends
pub middle_is_own : (e : Edge) → IsLong e → IsOwn e (middle_of e)
middle_is_own e long =
    let s = span_of e in
    let self = cross-self s in
    let a_cross = ap (cross s) (a_from_middle e) ∙ cross-opposite s s in
    let a_dot = ap (dot s) (a_from_middle e) ∙ dot-opposite s s in
    let b_cross = ap (cross s) (b_from_middle e) in
    let b_dot = ap (dot s) (b_from_middle e) in
    record {
      along = record {
        is = omega (arith, ints);
        a_level = omega (arith, ints);
        a_behind = omega (arith, ints);
        b_level = omega (arith, ints);
        b_ahead = omega (arith, ints);
      };
      past = omega (arith, ints);
      before = omega (arith, ints);
    }

-- ---- the ends of an edge

-- from a corner itself it is seen at no distance
pub corner_from_itself : (c : Point) → seen_from (spot_at c) c ≡ arrow (pos 0) (pos 0)
corner_from_itself c =
    same_arrow (seen_from (spot_at c) c) (arrow (pos 0) (pos 0)) (by c.x) (by c.y)
  where
    by : (a : ℤ) → (a *ℤ pos 1) -ℤ a ≡ pos 0
    by a = equal (minus (times (var a) (num 1)) (var a)) (num 0) (omega arith)

-- so it lies on the line of each ray
pub cross-corner : (r : Arrow) (c : Point) → cross r (seen_from (spot_at c) c) ≡ pos 0
cross-corner r c =
    ap (cross r) (corner_from_itself c)
    ∙ equal (cross_by r (arrow (pos 0) (pos 0)) (var r.x) (var r.y) (num 0) (num 0)) (num 0)
    (omega arith)

dot-corner : (r : Arrow) (c : Point) → dot r (seen_from (spot_at c) c) ≡ pos 0
dot-corner r c =
    ap (dot r) (corner_from_itself c)
    ∙ equal (dot_by r (arrow (pos 0) (pos 0)) (var r.x) (var r.y) (num 0) (num 0)) (num 0)
    (omega arith)

-- from its end b the edge is seen against its vector
pub a_from_end : (a b : Point) → seen_from (spot_at b) a ≡ opposite (span_of (edge a b))
a_from_end a b =
    same_arrow (seen_from (spot_at b) a) (opposite (span_of (edge a b))) (by a.x b.x) (by a.y b.y)
  where
    by : (s t : ℤ) → (s *ℤ pos 1) -ℤ t ≡ neg_ℤ (t -ℤ s)
    by s t =
        equal (minus (times (var s) (num 1)) (var t)) (negated (minus (var t) (var s))) (omega arith)

-- from its end a along it
pub b_from_end : (a b : Point) → seen_from (spot_at a) b ≡ span_of (edge a b)
b_from_end a b =
    same_arrow (seen_from (spot_at a) b) (span_of (edge a b)) (by a.x b.x) (by a.y b.y)
  where
    by : (s t : ℤ) → (t *ℤ pos 1) -ℤ s ≡ t -ℤ s
    by s t = equal (minus (times (var t) (num 1)) (var s)) (minus (var t) (var s)) (omega arith)

module _ (a b : Point) (long : IsLong (edge a b)) where
  -- the end b lies along the edge
  pub end_is_along : IsAlong (edge a b) (spot_at b)
  end_is_along =
      let s = span_of (edge a b) in
      let self = cross-self s in
      let a_cross = ap (cross s) (a_from_end a b) ∙ cross-opposite s s in
      let a_dot = ap (dot s) (a_from_end a b) ∙ dot-opposite s s in
      let b_dot = dot-corner s b in
      record {
        is = omega (arith, ints);
        a_level = omega (arith, ints);
        a_behind = omega (arith, ints);
        b_level = cross-corner s b;
        b_ahead = omega (arith, ints);
      }

  -- past a
  pub end_is_past : IsPastA (edge a b) (spot_at b)
  end_is_past =
      let s = span_of (edge a b) in
      let a_dot = ap (dot s) (a_from_end a b) ∙ dot-opposite s s in
      omega (arith, ints)

  -- the end a lies along the edge
  pub begin_is_along : IsAlong (edge a b) (spot_at a)
  begin_is_along =
      let s = span_of (edge a b) in
      let self = cross-self s in
      let b_cross = ap (cross s) (b_from_end a b) in
      let b_dot = ap (dot s) (b_from_end a b) in
      let a_dot = dot-corner s a in
      record {
        is = omega (arith, ints);
        a_level = cross-corner s a;
        a_behind = omega (arith, ints);
        b_level = omega (arith, ints);
        b_ahead = omega (arith, ints);
      }

  -- before b
  pub begin_is_before : IsBeforeB (edge a b) (spot_at a)
  begin_is_before =
      let b_dot = ap (dot (span_of (edge a b))) (b_from_end a b) in omega (arith, ints)
