-- To turn the vectors of two edges along a direction changes at most the sign of their gap.

use Rattle.std.proofs.Common.{◌≡◌, ◌⊎◌, ◌∙◌, inl, inr, ap, ap₂, sym, refl, arith, ℤ, pos, neg_ℤ}
use Rattle.std.proofs.Common.{◌-ℤ◌, ◌*ℤ◌, Bool, true, false, if◌then◌else◌}
use Rattle.std.proofs.lemmas.Int.{ints}
use Rattle.theory_numbers.specs.Tests.{is_positive}
use Rattle.theory_numbers.specs.Arrows.{Arrow, cross, dot, opposite}
use Rattle.theory_numbers.specs.Rationals.{value_at}
use Rattle.theory_numbers.proofs.Vectors.Arrows.{same_arrow, opposite-cross, cross-opposite, opposite-dot}
use Rattle.theory_numbers.proofs.Vectors.Arrows.{dot_comm}
use Rattle.theory_numbers.proofs.Shapes.{var, minus, times, negated, equal}
use Rattle.sb_fraction.specs.Edges.{Edge, span_of}
use Rattle.sb_fraction.specs.Lines.{place, span_along}
use Rattle.sb_fraction.specs.Steps.{gap_between, gap_over}
use Rattle.sb_fraction.proofs.Meetings.CrossingByGap.{plain_gap}

dot-opposite : (a b : Arrow) → dot a (opposite b) ≡ neg_ℤ (dot a b)
dot-opposite a b = dot_comm a (opposite b) ∙ opposite-dot b a ∙ ap neg_ℤ (dot_comm b a)

first_turned : (p q r s : ℤ)
    → (p *ℤ neg_ℤ q) -ℤ (neg_ℤ r *ℤ s) ≡ neg_ℤ ((p *ℤ q) -ℤ (r *ℤ s))
first_turned p q r s =
    equal (minus (times (var p) (negated (var q))) (times (negated (var r)) (var s)))
    (negated (minus (times (var p) (var q)) (times (var r) (var s)))) (omega arith)

second_turned : (p q r s : ℤ)
    → (neg_ℤ p *ℤ q) -ℤ (r *ℤ neg_ℤ s) ≡ neg_ℤ ((p *ℤ q) -ℤ (r *ℤ s))
second_turned p q r s =
    equal (minus (times (negated (var p)) (var q)) (times (var r) (negated (var s))))
    (negated (minus (times (var p) (var q)) (times (var r) (var s)))) (omega arith)

-- the gap with the first vector turned round
gap-first : (d s a t b : Arrow)
    → gap_between d (opposite s) a t b ≡ opposite (gap_between d s a t b)
gap-first d s a t b =
    same_arrow (gap_between d (opposite s) a t b) (opposite (gap_between d s a t b))
    (ap₂ (λ m n. (cross t b *ℤ m) -ℤ (n *ℤ dot d t)) (dot-opposite d s) (opposite-cross s a)
    ∙ first_turned (cross t b) (dot d s) (cross s a) (dot d t))
    (opposite-cross s t)

-- and the second
gap-second : (d s a t b : Arrow)
    → gap_between d s a (opposite t) b ≡ opposite (gap_between d s a t b)
gap-second d s a t b =
    same_arrow (gap_between d s a (opposite t) b) (opposite (gap_between d s a t b))
    (ap₂ (λ m n. (m *ℤ dot d s) -ℤ (cross s a *ℤ n)) (opposite-cross t b) (dot-opposite d t)
    ∙ second_turned (cross t b) (dot d s) (cross s a) (dot d t))
    (cross-opposite s t)

neg_neg : (z : ℤ) → neg_ℤ (neg_ℤ z) ≡ z
neg_neg z = omega (arith, ints)

twice : (g : Arrow) → opposite (opposite g) ≡ g
twice g = same_arrow (opposite (opposite g)) g (neg_neg g.x) (neg_neg g.y)

-- one form is another or its opposite
abbrev pub IsLike : Arrow → Arrow → Type 0
IsLike g h = (g ≡ h) ⊎ (g ≡ opposite h)

like_by : (d s a t b : Arrow) (m n : Bool)
    → IsLike (gap_between d (if m then s else opposite s) a (if n then t else opposite t) b)
    (gap_between d s a t b)
like_by d s a t b true true = inl refl
like_by d s a t b true false = inr (gap-second d s a t b)
like_by d s a t b false true = inr (gap-first d s a t b)
like_by d s a t b false false =
    inl (gap-first d s a (opposite t) b ∙ ap opposite (gap-second d s a t b)
    ∙ twice (gap_between d s a t b))

-- the gap of two edges is that of their vectors as they stand, or its opposite
pub gap_is_like : (d : Arrow) (e f : Edge) → IsLike (gap_over d e f) (plain_gap d e f)
unfolding span_along
gap_is_like d e f =
    like_by d (span_of e) (place e.a) (span_of f) (place f.a)
    (is_positive (dot d (span_of e))) (is_positive (dot d (span_of f)))

zero_neg : (z : ℤ) → neg_ℤ z ≡ pos 0 → z ≡ pos 0
zero_neg z zero = omega (arith, ints)

-- so where the one is 0 the other is
pub zero_if_like : (g h u : Arrow) → IsLike g h → value_at g u ≡ pos 0 → value_at h u ≡ pos 0
zero_if_like g h u (inl same) zero = sym (ap (λ k. value_at k u) same) ∙ zero
zero_if_like g h u (inr turned) zero =
    zero_neg (value_at h u) (sym (opposite-dot h u) ∙ sym (ap (λ k. value_at k u) turned) ∙ zero)

-- and where both parts of the one are 0 so are those of the other
pub zero_parts_if_like : (g h : Arrow) → IsLike g h → (h.x ≡ pos 0) → (h.y ≡ pos 0)
    → (g.x ≡ pos 0) × (g.y ≡ pos 0)
zero_parts_if_like g h (inl same) zero_x zero_y =
    (ap (λ (k : Arrow). k.x) same ∙ zero_x, ap (λ (k : Arrow). k.y) same ∙ zero_y)
zero_parts_if_like g h (inr turned) zero_x zero_y = (
  ap (λ (k : Arrow). k.x) turned ∙ ap neg_ℤ zero_x,
  ap (λ (k : Arrow). k.y) turned ∙ ap neg_ℤ zero_y,
)

-- the slopes of both are 0 together
pub zero_slope_if_like : (g h : Arrow) → IsLike g h → (g.y ≡ pos 0) → (h.y ≡ pos 0)
zero_slope_if_like g h (inl same) zero = sym (ap (λ (k : Arrow). k.y) same) ∙ zero
zero_slope_if_like g h (inr turned) zero =
    zero_neg h.y (sym (ap (λ (k : Arrow). k.y) turned) ∙ zero)
