-- From one side of a point to the other, near it and along a way that is parallel to no edge, the
-- answer changes by the number of edges that pass through the point.

use Rattle.std.proofs.Common.{◌≡◌, refl, sym, ap, ap₂, ◌∙◌, ◌⊎◌, inl, inr, arith, ℤ, pos}
use Rattle.std.proofs.Common.{◌<ℤ◌, ◌≤ℤ◌, ◌*ℤ◌, Bool, true, false, not, int_lt}
use Rattle.std.proofs.Common.{int_le, List}
use Rattle.std.specs.Ordering.{int_eq}
use Rattle.std.specs.List.{AllByRecursion}
use Rattle.std.proofs.lemmas.Int.{ints}
use Rattle.std.proofs.lemmas.Bool.{and_parts, and_from, false≢true}
use Rattle.std.proofs.lemmas.Bool.Decides.{Decides-int_eq}
use Rattle.theory_lists.specs.Parity.{differ, is_odd_number}
use Rattle.theory_lists.proofs.Parity.{odd_where_same, is_odd_number-differ}
use Rattle.theory_lists.proofs.Members.{all_follow}
use Rattle.theory_numbers.specs.Tests.{is_positive}
use Rattle.theory_numbers.specs.Arrows.{Arrow, cross, dot}
use Rattle.theory_numbers.proofs.Vectors.Arrows.{cross-turn}
use Rattle.theory_numbers.proofs.Signs.{test_less, test_not_less}
use Rattle.theory_numbers.proofs.Signs.{test_at_most, at_most_from, sign_cases}
use Rattle.theory_numbers.proofs.Products.{zero_of_positive}
use Rattle.theory_numbers.proofs.Products.{positive_product, negative_product}
use Rattle.theory_numbers.proofs.Ring.{mul-zero}
use Rattle.theory_numbers.proofs.SignTables.{hit_of}
use Rattle.sb_fraction.specs.declared.point.Point.{Point}
use Rattle.sb_fraction.specs.Spots.{Spot, IsSpot}
use Rattle.sb_fraction.specs.Edges.{Edge, seen_from, turn_at, reach_at, is_on}
use Rattle.theory_plans.specs.Rays.{is_left_of, is_struck}
use Rattle.theory_parity.specs.Halves.{height_over, left_half}
use Rattle.theory_numbers.proofs.Vectors.Lengths.{opposed, parted, on_both_lines}
use Rattle.theory_parity.proofs.FromPointToPoint.Heights.{turn_by_height}
use Rattle.theory_parity.proofs.FromPointToPoint.StayNear.{HasSignOf}

-- ---- two vectors on one line through the origin that point in opposite directions

-- a way that is not parallel to the line has one on its left and the other not
module _ (n a b : Arrow) (level : cross a b ≡ pos 0) (near : dot a b ≤ℤ pos 0)
    (a_long : pos 0 <ℤ dot a a) (b_long : pos 0 <ℤ dot b b)
    (slanted : cross n b ≡ cross n a → ⊥) where
  turned_zero : (r s : Arrow) → cross r s ≡ pos 0 → cross s r ≡ pos 0
  turned_zero r s zero = let turned = cross-turn r s in omega (arith, ints)

  -- none of the two lies on the line of the way
  first_off : cross n a ≡ pos 0 → ⊥
  first_off zero =
      slanted (turned_zero b n (on_both_lines a b n level a_long (turned_zero n a zero)) ∙ sym zero)

  second_off : cross n b ≡ pos 0 → ⊥
  second_off zero =
      slanted
      (zero
      ∙ sym
      (turned_zero a n (on_both_lines b a n (turned_zero a b level) b_long (turned_zero n b zero))))

  parted_by_way : is_positive (cross n a) ≡ not (is_positive (cross n b))
  parted_by_way = parted n a b level near first_off second_off

-- ---- one edge

across_table : (a b over_p under_p over_q under_q on : Bool) → (a ≡ b → on ≡ false)
    → (a ≡ not b → differ over_p over_q ≡ on) → (a ≡ not b → differ under_p under_q ≡ on)
    → differ (hit_of a b over_p under_p) (hit_of a b over_q under_q) ≡ on
across_table true true over_p under_p over_q under_q on alike over under = sym (alike refl)
across_table true false over_p under_p over_q under_q on alike over under = under refl
across_table false true over_p under_p over_q under_q on alike over under = over refl
across_table false false over_p under_p over_q under_q on alike over under = sym (alike refl)

-- the two heights have opposite signs
abbrev pub AreOpposite : ℤ → ℤ → Type 0
AreOpposite a b = ((pos 0 <ℤ a) × (b <ℤ pos 0)) ⊎ ((a <ℤ pos 0) × (pos 0 <ℤ b))

-- p and q lie on two sides of m along the way n, near it as seen from the edge, which has no end at
-- m and is not parallel to the way
pub record IsAcross (n : Arrow) (m p q : Spot) (e : Edge) : Type 0 where
  pub a_apart : pos 0 <ℤ dot (seen_from m e.a) (seen_from m e.a)
  pub b_apart : pos 0 <ℤ dot (seen_from m e.b) (seen_from m e.b)
  pub slanted : cross n (seen_from m e.b) ≡ cross n (seen_from m e.a) → ⊥
  pub sign_p : HasSignOf (height_over (left_half e) m) (height_over (left_half e) p)
  pub sign_q : HasSignOf (height_over (left_half e) m) (height_over (left_half e) q)
  pub turned : height_over (left_half e) m ≡ pos 0
      → AreOpposite (height_over (left_half e) p) (height_over (left_half e) q)
  pub left_p : (a : Point) → is_left_of n p a ≡ is_left_of n m a
  pub left_q : (a : Point) → is_left_of n q a ≡ is_left_of n m a

module _ (n : Arrow) (m p q : Spot) (e : Edge) (m_is : IsSpot m) (p_is : IsSpot p) (q_is : IsSpot q)
    (across : IsAcross n m p q e) where
  at_m : ℤ
  at_m = height_over (left_half e) m

  on_is : is_on m e ≡ true → (turn_at e m ≡ pos 0) × (reach_at e m ≤ℤ pos 0)
  on_is on =
      let parts = and_parts (int_eq (turn_at e m) (pos 0)) (int_le (reach_at e m) (pos 0)) on in
      ((Decides-int_eq (turn_at e m) (pos 0)).0 parts.0, at_most_from (reach_at e m) (pos 0) parts.1)

  not_on : (is_on m e ≡ true → ⊥) → is_on m e ≡ false
  not_on none = by (is_on m e) refl
    where
      by : (b : Bool) → is_on m e ≡ b → is_on m e ≡ false
      by true is = absurd (none is)
      by false is = is

  both_true : {s t : Bool} → s ≡ not t → s ≡ t → ⊥
  both_true {s} {t} relation same = by t (sym same ∙ relation)
    where
      by : (b : Bool) → b ≡ not b → ⊥
      by true relation_b = false≢true (sym relation_b)
      by false relation_b = false≢true relation_b

  alike_is_off : is_left_of n m e.a ≡ is_left_of n m e.b → is_on m e ≡ false
  alike_is_off alike =
      not_on (λ on.
      let parts = on_is on in
      both_true
      (parted_by_way n (seen_from m e.a) (seen_from m e.b) parts.0 parts.1 across.a_apart
      across.b_apart across.slanted)
      alike)

  above_test : (t : Spot) → IsSpot t → pos 0 <ℤ height_over (left_half e) t
      → (int_lt (pos 0) (turn_at e t) ≡ true) × (int_lt (turn_at e t) (pos 0) ≡ false)
  above_test t t_is above =
      let same = turn_by_height e t in
      let product = positive_product t.w (height_over (left_half e) t) t_is above in (
        test_less (pos 0) (turn_at e t) (omega (arith, ints)),
        test_not_less (turn_at e t) (pos 0) (omega (arith, ints)),
      )

  below_test : (t : Spot) → IsSpot t → height_over (left_half e) t <ℤ pos 0
      → (int_lt (pos 0) (turn_at e t) ≡ false) × (int_lt (turn_at e t) (pos 0) ≡ true)
  below_test t t_is below =
      let same = turn_by_height e t in
      let product = negative_product t.w (height_over (left_half e) t) t_is below in (
        test_not_less (pos 0) (turn_at e t) (omega (arith, ints)),
        test_less (turn_at e t) (pos 0) (omega (arith, ints)),
      )

  off_line : (at_m ≡ pos 0 → ⊥) → is_on m e ≡ false
  unfolding at_m
  off_line apart =
      not_on (λ on.
      let parts = on_is on in
      apart (zero_of_positive m.w at_m m_is (sym (turn_by_height e m) ∙ parts.0)))

  on_line : at_m ≡ pos 0 → is_left_of n m e.a ≡ not (is_left_of n m e.b) → is_on m e ≡ true
  unfolding at_m
  on_line zero sides =
      let level : turn_at e m ≡ pos 0 =
      turn_by_height e m ∙ ap (λ t. m.w *ℤ t) zero ∙ mul-zero m.w in
      and_from (int_eq (turn_at e m) (pos 0)) (int_le (reach_at e m) (pos 0))
      ((Decides-int_eq (turn_at e m) (pos 0)).1 level)
      (test_at_most (reach_at e m) (pos 0)
      (opposed n (seen_from m e.a) (seen_from m e.b) (is_left_of n m e.a) (is_left_of n m e.b)
      refl refl sides level))

  change : is_left_of n m e.a ≡ not (is_left_of n m e.b)
      → (differ (int_lt (pos 0) (turn_at e p)) (int_lt (pos 0) (turn_at e q)) ≡ is_on m e)
      × (differ (int_lt (turn_at e p) (pos 0)) (int_lt (turn_at e q) (pos 0)) ≡ is_on m e)
  unfolding at_m
  change sides = from (sign_cases at_m)
    where
      opposite : AreOpposite (height_over (left_half e) p) (height_over (left_half e) q)
          → (differ (int_lt (pos 0) (turn_at e p)) (int_lt (pos 0) (turn_at e q)) ≡ true)
          × (differ (int_lt (turn_at e p) (pos 0)) (int_lt (turn_at e q) (pos 0)) ≡ true)
      opposite (inl both) =
          let first = above_test p p_is both.0 in
          let second = below_test q q_is both.1 in
          (ap₂ differ first.0 second.0, ap₂ differ first.1 second.1)
      opposite (inr both) =
          let first = below_test p p_is both.0 in
          let second = above_test q q_is both.1 in
          (ap₂ differ first.0 second.0, ap₂ differ first.1 second.1)

      from : ((pos 0 <ℤ at_m) ⊎ (at_m ≡ pos 0)) ⊎ (at_m <ℤ pos 0)
          → (differ (int_lt (pos 0) (turn_at e p)) (int_lt (pos 0) (turn_at e q)) ≡ is_on m e)
          × (differ (int_lt (turn_at e p) (pos 0)) (int_lt (turn_at e q) (pos 0)) ≡ is_on m e)
      from (inl (inl above)) =
          let off = off_line (λ zero. omega (arith, ints)) in
          let first = above_test p p_is (across.sign_p.above above) in
          let second = above_test q q_is (across.sign_q.above above) in
          (ap₂ differ first.0 second.0 ∙ sym off, ap₂ differ first.1 second.1 ∙ sym off)
      from (inl (inr zero)) =
          let on = on_line zero sides in
          let both = opposite (across.turned zero) in
          (both.0 ∙ sym on, both.1 ∙ sym on)
      from (inr below) =
          let off = off_line (λ zero. omega (arith, ints)) in
          let first = below_test p p_is (across.sign_p.below below) in
          let second = below_test q q_is (across.sign_q.below below) in
          (ap₂ differ first.0 second.0 ∙ sym off, ap₂ differ first.1 second.1 ∙ sym off)

  -- the way strikes the edge from one of the two points alone where the edge passes through m
  pub strikes_change : differ (is_struck n p e) (is_struck n q e) ≡ is_on m e
  strikes_change =
      ap₂ differ
      (ap₂ (λ a b. hit_of a b (int_lt (pos 0) (turn_at e p)) (int_lt (turn_at e p) (pos 0)))
      (across.left_p e.a) (across.left_p e.b))
      (ap₂ (λ a b. hit_of a b (int_lt (pos 0) (turn_at e q)) (int_lt (turn_at e q) (pos 0)))
      (across.left_q e.a) (across.left_q e.b))
      ∙ across_table (is_left_of n m e.a) (is_left_of n m e.b)
      (int_lt (pos 0) (turn_at e p)) (int_lt (turn_at e p) (pos 0))
      (int_lt (pos 0) (turn_at e q)) (int_lt (turn_at e q) (pos 0)) (is_on m e)
      alike_is_off (λ sides. (change sides).0) (λ sides. (change sides).1)

-- ---- a list of edges

-- the parities of the edges struck from the two points differ by that of the edges through m
pub parity_changes : (n : Arrow) (m p q : Spot) → IsSpot m → IsSpot p → IsSpot q → (es : List Edge)
    → AllByRecursion (IsAcross n m p q) es
    → differ (is_odd_number (is_struck n p) es) (is_odd_number (is_struck n q) es)
    ≡ is_odd_number (is_on m) es
parity_changes n m p q m_is p_is q_is es across =
    sym (is_odd_number-differ (is_struck n p) (is_struck n q) es)
    ∙ odd_where_same (λ e. differ (is_struck n p e) (is_struck n q e)) (is_on m) es
    (all_follow (λ e one. strikes_change n m p q e m_is p_is q_is one) es across)
