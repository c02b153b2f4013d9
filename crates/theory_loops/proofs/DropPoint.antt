-- A ray strikes the edge between the outer two of three points on one line exactly where it strikes
-- one of the edges from point to point, and not both.

use Rattle.std.proofs.Common.{◌≡◌, refl, sym, ap, ap₂, ◌∙◌, arith, pos, neg_ℤ, subst}
use Rattle.std.proofs.Common.{ℤ, ◌<ℤ◌, ◌*ℤ◌, ◌+ℤ◌, ◌-ℤ◌, Bool, true, false, int_lt}
use Rattle.std.proofs.lemmas.Int.{ints}
use Rattle.theory_lists.specs.Parity.{differ}
use Rattle.theory_lists.proofs.Parity.{differ-false, differ-self}
use Rattle.theory_numbers.specs.Arrows.{Arrow, arrow, cross}
use Rattle.theory_numbers.proofs.Shapes.{var, negated, minus, plus, times, equal, cross_by}
use Rattle.theory_numbers.proofs.SignTables.{hit_of}
use Rattle.theory_numbers.proofs.Vectors.ThreeTerms.{three_terms}
use Rattle.theory_numbers.specs.Tests.{is_positive}
use Rattle.theory_numbers.proofs.Signs.{same_less, less_from, not_less_from}
use Rattle.theory_numbers.proofs.Products.{positive_factor, negative_factor, positive_product, negative_product}
use Rattle.sb_fraction.specs.declared.point.Point.{Point}
use Rattle.sb_fraction.specs.Spots.{Spot}
use Rattle.sb_fraction.specs.Edges.{edge, seen_from}
use Rattle.theory_plans.specs.Loops.{bend}
use Rattle.theory_plans.specs.Rays.{is_left_of, is_struck}
use Rattle.theory_plans.specs.Inside.{is_crossed}
use Rattle.theory_parity.proofs.Rays.InsideByBelow.{crossed_is_struck}

-- ---- three points on one line, as seen from a fourth

-- their turns add up
pub turns_add : (a b c : Point) (p : Spot) → bend a b c ≡ pos 0
    → cross (seen_from p a) (seen_from p c)
    ≡ cross (seen_from p a) (seen_from p b) +ℤ cross (seen_from p b) (seen_from p c)
turns_add a b c p level = omega (arith, ints, whole, none)
  where
    none : (p.w *ℤ p.w) *ℤ bend a b c ≡ pos 0
    none = ap (λ n. (p.w *ℤ p.w) *ℤ n) level ∙ omega (arith, ints)

    whole : (p.w *ℤ p.w) *ℤ bend a b c
        ≡ (cross (seen_from p a) (seen_from p b) +ℤ cross (seen_from p b) (seen_from p c))
        -ℤ cross (seen_from p a) (seen_from p c)
    whole =
        equal
        (times (times (var p.w) (var p.w))
        (minus (times (minus (var b.x) (var a.x)) (minus (var c.y) (var b.y)))
        (times (minus (var b.y) (var a.y)) (minus (var c.x) (var b.x)))))
        (minus (plus
        (cross_by (seen_from p a) (seen_from p b) (minus (times (var a.x) (var p.w)) (var p.x))
        (minus (times (var a.y) (var p.w)) (var p.y)) (minus (times (var b.x) (var p.w)) (var p.x))
        (minus (times (var b.y) (var p.w)) (var p.y)))
        (cross_by (seen_from p b) (seen_from p c) (minus (times (var b.x) (var p.w)) (var p.x))
        (minus (times (var b.y) (var p.w)) (var p.y)) (minus (times (var c.x) (var p.w)) (var p.x))
        (minus (times (var c.y) (var p.w)) (var p.y))))
        (cross_by (seen_from p a) (seen_from p c) (minus (times (var a.x) (var p.w)) (var p.x))
        (minus (times (var a.y) (var p.w)) (var p.y)) (minus (times (var c.x) (var p.w)) (var p.x))
        (minus (times (var c.y) (var p.w)) (var p.y))))
        (omega arith)

-- ---- two products that are equal

alike : (k l m n : ℤ) → pos 0 <ℤ k → pos 0 <ℤ l → k *ℤ m ≡ l *ℤ n
    → (int_lt m (pos 0) ≡ int_lt n (pos 0)) × (int_lt (pos 0) m ≡ int_lt (pos 0) n)
alike k l m n k_up l_up same = (
  same_less m (pos 0) n (pos 0)
      (λ less. negative_factor l n l_up (subst (λ t. t <ℤ pos 0) same (negative_product k m k_up less)))
      (λ less.
      negative_factor k m k_up (subst (λ t. t <ℤ pos 0) (sym same) (negative_product l n l_up less))),
  same_less (pos 0) m (pos 0) n
      (λ less. positive_factor l n l_up (subst (λ t. pos 0 <ℤ t) same (positive_product k m k_up less)))
      (λ less.
      positive_factor k m k_up (subst (λ t. pos 0 <ℤ t) (sym same) (positive_product l n l_up less))),
)

opposite_factor : (k l m n : ℤ) → k *ℤ m ≡ l *ℤ n → k *ℤ m ≡ neg_ℤ l *ℤ neg_ℤ n
opposite_factor k l m n same =
    same ∙ equal (times (var l) (var n)) (times (negated (var l)) (negated (var n))) (omega arith)

negative_tests : (n : ℤ) → (int_lt (neg_ℤ n) (pos 0) ≡ int_lt (pos 0) n)
    × (int_lt (pos 0) (neg_ℤ n) ≡ int_lt n (pos 0))
negative_tests n = (
  same_less (neg_ℤ n) (pos 0) (pos 0) n (λ less. omega (arith, ints)) (λ less. omega (arith, ints)),
  same_less (pos 0) (neg_ℤ n) n (pos 0) (λ less. omega (arith, ints)) (λ less. omega (arith, ints)),
)

unlike : (k l m n : ℤ) → pos 0 <ℤ k → l <ℤ pos 0 → k *ℤ m ≡ l *ℤ n
    → (int_lt m (pos 0) ≡ int_lt (pos 0) n) × (int_lt (pos 0) m ≡ int_lt n (pos 0))
unlike k l m n k_up l_down same =
    let tests = alike k (neg_ℤ l) m (neg_ℤ n) k_up (omega (arith, ints))
    (opposite_factor k l m n same) in
    let negative = negative_tests n in
    (tests.0 ∙ negative.0, tests.1 ∙ negative.1)

-- ---- by which points lie left of the ray

-- u says how far left of the ray the points lie, and ab, bc are their turns
module _ (ua ub uc ab bc : ℤ) (round : ua *ℤ bc ≡ (ub *ℤ (ab +ℤ bc)) -ℤ (uc *ℤ ab)) where
  whole : ub *ℤ (ab +ℤ bc) ≡ (ub *ℤ ab) +ℤ (ub *ℤ bc)
  whole = equal (times (var ub) (plus (var ab) (var bc)))
      (plus (times (var ub) (var ab)) (times (var ub) (var bc))) (omega arith)

  parts : (k l m : ℤ) → (k -ℤ l) *ℤ m ≡ (k *ℤ m) -ℤ (l *ℤ m)
  parts k l m = equal (times (minus (var k) (var l)) (var m))
      (minus (times (var k) (var m)) (times (var l) (var m))) (omega arith)

  four : (k l : ℤ) → (k -ℤ l) *ℤ (ab +ℤ bc)
      ≡ ((k *ℤ ab) +ℤ (k *ℤ bc)) -ℤ ((l *ℤ ab) +ℤ (l *ℤ bc))
  four k l = equal (times (minus (var k) (var l)) (plus (var ab) (var bc)))
      (minus (plus (times (var k) (var ab)) (times (var k) (var bc)))
      (plus (times (var l) (var ab)) (times (var l) (var bc)))) (omega arith)

  first_alone : (ua -ℤ ub) *ℤ (ab +ℤ bc) ≡ (ua -ℤ uc) *ℤ ab
  first_alone =
      let left = four ua ub in
      let right = parts ua uc ab in
      omega (arith, ints, whole, round)

  last_alone : (ua -ℤ uc) *ℤ bc ≡ (ub -ℤ uc) *ℤ (ab +ℤ bc)
  last_alone =
      let left = parts ua uc bc in
      let right = four ub uc in
      omega (arith, ints, whole, round)

  middle_alone : (ua -ℤ ub) *ℤ bc ≡ (ub -ℤ uc) *ℤ ab
  middle_alone =
      let left = parts ua ub bc in
      let right = parts ub uc ab in
      omega (arith, ints, whole, round)

  turned_round : (k l m : ℤ) → (l -ℤ k) *ℤ m ≡ neg_ℤ ((k -ℤ l) *ℤ m)
  turned_round k l m = equal (times (minus (var l) (var k)) (var m))
      (negated (times (minus (var k) (var l)) (var m))) (omega arith)

  abbrev hit_at : Bool → Bool → ℤ → Bool
  hit_at a b turn = hit_of a b (int_lt (pos 0) turn) (int_lt turn (pos 0))

  by_bits : (a b c : Bool) → is_positive ua ≡ a → is_positive ub ≡ b → is_positive uc ≡ c
      → differ (hit_at a b ab) (hit_at b c bc) ≡ hit_at a c (ab +ℤ bc)
  by_bits true true true a_bit b_bit c_bit = refl
  by_bits false false false a_bit b_bit c_bit = refl
  by_bits true false false a_bit b_bit c_bit =
      let a_up = less_from (pos 0) ua a_bit in
      let b_low = not_less_from (pos 0) ub b_bit in
      let c_low = not_less_from (pos 0) uc c_bit in
      differ-false (int_lt ab (pos 0))
      ∙ sym (alike (ua -ℤ ub) (ua -ℤ uc) (ab +ℤ bc) ab (omega (arith, ints)) (omega (arith, ints))
      first_alone).0
  by_bits false true true a_bit b_bit c_bit =
      let a_low = not_less_from (pos 0) ua a_bit in
      let b_up = less_from (pos 0) ub b_bit in
      let c_up = less_from (pos 0) uc c_bit in
      differ-false (int_lt (pos 0) ab)
      ∙ sym (alike (ub -ℤ ua) (uc -ℤ ua) (ab +ℤ bc) ab (omega (arith, ints)) (omega (arith, ints))
      (turned_round ua ub (ab +ℤ bc) ∙ ap neg_ℤ first_alone ∙ sym (turned_round ua uc ab))).1
  by_bits true true false a_bit b_bit c_bit =
      let a_up = less_from (pos 0) ua a_bit in
      let b_up = less_from (pos 0) ub b_bit in
      let c_low = not_less_from (pos 0) uc c_bit in
      (alike (ua -ℤ uc) (ub -ℤ uc) bc (ab +ℤ bc) (omega (arith, ints)) (omega (arith, ints))
      last_alone).0
  by_bits false false true a_bit b_bit c_bit =
      let a_low = not_less_from (pos 0) ua a_bit in
      let b_low = not_less_from (pos 0) ub b_bit in
      let c_up = less_from (pos 0) uc c_bit in
      (alike (uc -ℤ ua) (uc -ℤ ub) bc (ab +ℤ bc) (omega (arith, ints)) (omega (arith, ints))
      (turned_round ua uc bc ∙ ap neg_ℤ last_alone ∙ sym (turned_round ub uc (ab +ℤ bc)))).1
  by_bits true false true a_bit b_bit c_bit =
      let a_up = less_from (pos 0) ua a_bit in
      let b_low = not_less_from (pos 0) ub b_bit in
      let c_up = less_from (pos 0) uc c_bit in
      ap (differ (int_lt ab (pos 0)))
      (unlike (ua -ℤ ub) (ub -ℤ uc) bc ab (omega (arith, ints)) (omega (arith, ints))
      middle_alone).1
      ∙ differ-self (int_lt ab (pos 0))
  by_bits false true false a_bit b_bit c_bit =
      let a_low = not_less_from (pos 0) ua a_bit in
      let b_up = less_from (pos 0) ub b_bit in
      let c_low = not_less_from (pos 0) uc c_bit in
      ap (differ (int_lt (pos 0) ab))
      (unlike (ub -ℤ ua) (uc -ℤ ub) bc ab (omega (arith, ints)) (omega (arith, ints))
      (turned_round ua ub bc ∙ ap neg_ℤ middle_alone ∙ sym (turned_round ub uc ab))).0
      ∙ differ-self (int_lt (pos 0) ab)

-- a ray of any direction
pub struck-drop : (r : Arrow) (p : Spot) (a b c : Point) → bend a b c ≡ pos 0
    → differ (is_struck r p (edge a b)) (is_struck r p (edge b c)) ≡ is_struck r p (edge a c)
struck-drop r p a b c level =
    let to_a = seen_from p a in
    let to_b = seen_from p b in
    let to_c = seen_from p c in
    by_bits (cross r to_a) (cross r to_b) (cross r to_c) (cross to_a to_b) (cross to_b to_c)
    (three_terms r to_a to_b to_c
    ∙ ap (λ n. (cross r to_b *ℤ n) -ℤ (cross r to_c *ℤ cross to_a to_b)) (turns_add a b c p level))
    (is_left_of r p a) (is_left_of r p b) (is_left_of r p c) refl refl refl
    ∙ sym (ap (λ n. hit_of (is_left_of r p a) (is_left_of r p c) (int_lt (pos 0) n)
    (int_lt n (pos 0))) (turns_add a b c p level))

-- the ray to the right
pub crossed-drop : (p : Spot) (a b c : Point) → bend a b c ≡ pos 0
    → differ (is_crossed p (edge a b)) (is_crossed p (edge b c)) ≡ is_crossed p (edge a c)
crossed-drop p a b c level =
    ap₂ differ (crossed_is_struck p (edge a b)) (crossed_is_struck p (edge b c))
    ∙ struck-drop (arrow (pos 1) (pos 0)) p a b c level
    ∙ sym (crossed_is_struck p (edge a c))
