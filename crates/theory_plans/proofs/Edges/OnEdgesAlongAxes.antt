-- The points on edges along x and y.
use Rattle.std.proofs.Common.{◌≡◌, sym, ◌∙◌, arith, ℤ, pos, ◌+ℤ◌, ◌-ℤ◌, ◌*ℤ◌, ◌<ℤ◌, ◌≤ℤ◌, true}
use Rattle.std.proofs.Common.{false}
use Rattle.std.specs.Ordering.{int_eq}
use Rattle.std.proofs.lemmas.Int.{ints, by_lt_z}
use Rattle.std.proofs.lemmas.Bool.{or_parts, true≢false}
use Rattle.std.proofs.lemmas.Bool.Decides.{Decides-int_eq}
use Rattle.theory_numbers.specs.Arrows.{cross, dot}
use Rattle.theory_numbers.specs.Rationals.{rational}
use Rattle.theory_numbers.proofs.Shapes.{var, minus, times, equal}
use Rattle.theory_numbers.proofs.Ring.{mul_comm}
use Rattle.theory_numbers.proofs.Products.{positive_product, product_of_negatives, zero_of_positive}
use Rattle.theory_numbers.proofs.Products.{weak_negative_product}
use Rattle.sb_fraction.specs.Spots.{Spot, IsSpot}
use Rattle.sb_fraction.specs.Edges.{Edge, edge, is_on}
use Rattle.sb_fraction.specs.Crossings.{ends_over, abscissa_at}
use Rattle.sb_fraction.specs.Directions.{axis_x, axis_y}
use Rattle.theory_plans.specs.Rectangles.{corner}
use Rattle.theory_plans.proofs.Edges.OriginOnSegment.{touches_level, level_touches, touches_upright}
use Rattle.theory_plans.proofs.Edges.OriginOnSegment.{upright_touches}

-- z lies between two numbers, whichever is the lower
abbrev pub AreAbout : ℤ → ℤ → ℤ → Type 0
AreAbout a b z = ((a -ℤ z) *ℤ (b -ℤ z)) ≤ℤ pos 0

-- in order
pub about_rising : (a b z : ℤ) → a <ℤ b → AreAbout a b z → (a ≤ℤ z) × (z ≤ℤ b)
about_rising a b z less about = (
  by_lt_z z a (λ left. absurd
      (let h = positive_product (a -ℤ z) (b -ℤ z) (omega (arith, ints))
      (omega (arith, ints)) in omega (arith, ints))) (λ right. right),
  by_lt_z b z (λ right. absurd
      (let h = product_of_negatives (a -ℤ z) (b -ℤ z) (omega (arith, ints))
      (omega (arith, ints)) in omega (arith, ints))) (λ left. left),
)

-- the two may be exchanged
pub about_turned : (a b z : ℤ) → AreAbout a b z → AreAbout b a z
about_turned a b z about = rw (mul_comm (b -ℤ z) (a -ℤ z)) about

-- a number strictly between two lies between them
pub about_between : (a b z : ℤ) → a <ℤ z → z <ℤ b → AreAbout a b z
about_between a b z left right =
    rw (mul_comm (a -ℤ z) (b -ℤ z))
    (weak_negative_product (b -ℤ z) (a -ℤ z) (omega (arith, ints)) (omega (arith, ints)))

-- two ends that differ are seen apart
apart : (a b w z : ℤ) → pos 0 <ℤ w → (a ≡ b → ⊥) → ((a *ℤ w) -ℤ z ≡ (b *ℤ w) -ℤ z) → ⊥
apart a b w z positive other same =
    let none = zero_of_positive w (a -ℤ b) positive (scaled a b w z ∙ no_difference _ _ same) in
    other (omega (arith, ints))
  where
    scaled : (a b w z : ℤ) → w *ℤ (a -ℤ b) ≡ ((a *ℤ w) -ℤ z) -ℤ ((b *ℤ w) -ℤ z)
    scaled a b w z =
        equal (times (var w) (minus (var a) (var b)))
        (minus (minus (times (var a) (var w)) (var z)) (minus (times (var b) (var w)) (var z)))
        (omega arith)

    no_difference : (m n : ℤ) → m ≡ n → m -ℤ n ≡ pos 0
    no_difference m n e = omega (arith, ints)

from_difference : (a b : ℤ) → a -ℤ b ≡ pos 0 → b ≡ a
from_difference a b e = omega (arith, ints)

to_difference : (a b : ℤ) → b ≡ a → a -ℤ b ≡ pos 0
to_difference a b e = omega (arith, ints)

-- a point on an edge along x
pub on_edge_along_x : (xa xb y : ℤ) (p : Spot) → IsSpot p → (xa ≡ xb → ⊥)
    → is_on p (edge (corner xa y) (corner xb y)) ≡ true
    → (p.y ≡ y *ℤ p.w) × AreAbout (xa *ℤ p.w) (xb *ℤ p.w) p.x
unfolding cross dot
on_edge_along_x xa xb y p positive other on =
    let parts = touches_level ((xa *ℤ p.w) -ℤ p.x) ((xb *ℤ p.w) -ℤ p.x) ((y *ℤ p.w) -ℤ p.y)
    (apart xa xb p.w p.x positive other) on in
    (from_difference (y *ℤ p.w) p.y parts.0, parts.1)

-- and such a point lies on it
pub edge_along_x_on : (xa xb y : ℤ) (p : Spot) → p.y ≡ y *ℤ p.w
    → AreAbout (xa *ℤ p.w) (xb *ℤ p.w) p.x
    → is_on p (edge (corner xa y) (corner xb y)) ≡ true
unfolding cross dot
edge_along_x_on xa xb y p level about =
    level_touches ((xa *ℤ p.w) -ℤ p.x) ((xb *ℤ p.w) -ℤ p.x) ((y *ℤ p.w) -ℤ p.y)
    (to_difference (y *ℤ p.w) p.y level) about

-- a point on an edge along y
pub on_edge_along_y : (x ya yb : ℤ) (p : Spot) → IsSpot p → (ya ≡ yb → ⊥)
    → is_on p (edge (corner x ya) (corner x yb)) ≡ true
    → (p.x ≡ x *ℤ p.w) × AreAbout (ya *ℤ p.w) (yb *ℤ p.w) p.y
unfolding cross dot
on_edge_along_y x ya yb p positive other on =
    let parts = touches_upright ((x *ℤ p.w) -ℤ p.x) ((ya *ℤ p.w) -ℤ p.y) ((yb *ℤ p.w) -ℤ p.y)
    (apart ya yb p.w p.y positive other) on in
    (from_difference (x *ℤ p.w) p.x parts.0, parts.1)

-- and such a point lies on it
pub edge_along_y_on : (x ya yb : ℤ) (p : Spot) → p.x ≡ x *ℤ p.w
    → AreAbout (ya *ℤ p.w) (yb *ℤ p.w) p.y
    → is_on p (edge (corner x ya) (corner x yb)) ≡ true
unfolding cross dot
edge_along_y_on x ya yb p upright about =
    upright_touches ((x *ℤ p.w) -ℤ p.x) ((ya *ℤ p.w) -ℤ p.y) ((yb *ℤ p.w) -ℤ p.y)
    (to_difference (x *ℤ p.w) p.x upright) about

-- ---- abscissae of the ends

not_same : (n u w : ℤ) → int_eq (cross (rational u w) (rational n (pos 1))) (pos 0) ≡ false
    → u ≡ n *ℤ w → ⊥
unfolding cross
not_same n u w other same =
    true≢false (sym ((Decides-int_eq ((w *ℤ n) -ℤ (u *ℤ pos 1)) (pos 0)).1
    (let e = mul_comm n w in omega (arith, ints))) ∙ other)

-- a number that is no abscissa of an edge's ends along x is none of their x
pub no_end_along_x : (e : Edge) (u w : ℤ) → ends_over axis_x (rational u w) e ≡ false
    → (u ≡ e.a.x *ℤ w → ⊥) × (u ≡ e.b.x *ℤ w → ⊥)
no_end_along_x e u w other =
    let parts = or_parts (int_eq (cross (rational u w) (rational (abscissa_at e.a axis_x) (pos 1)))
    (pos 0))
    (int_eq (cross (rational u w) (rational (abscissa_at e.b axis_x) (pos 1))) (pos 0)) other in (
      (λ same. not_same (abscissa_at e.a axis_x) u w parts.0 (rw (reads_x e.a.x e.a.y) same)),
      (λ same. not_same (abscissa_at e.b axis_x) u w parts.1 (rw (reads_x e.b.x e.b.y) same)),
    )
  where
    reads_x : (x y : ℤ) → (x *ℤ pos 1) +ℤ (y *ℤ pos 0) ≡ x
    reads_x x y = omega (arith, ints)

-- the same along y
pub no_end_along_y : (e : Edge) (u w : ℤ) → ends_over axis_y (rational u w) e ≡ false
    → (u ≡ e.a.y *ℤ w → ⊥) × (u ≡ e.b.y *ℤ w → ⊥)
no_end_along_y e u w other =
    let parts = or_parts (int_eq (cross (rational u w) (rational (abscissa_at e.a axis_y) (pos 1)))
    (pos 0))
    (int_eq (cross (rational u w) (rational (abscissa_at e.b axis_y) (pos 1))) (pos 0)) other in (
      (λ same. not_same (abscissa_at e.a axis_y) u w parts.0 (rw (reads_y e.a.x e.a.y) same)),
      (λ same. not_same (abscissa_at e.b axis_y) u w parts.1 (rw (reads_y e.b.x e.b.y) same)),
    )
  where
    reads_y : (x y : ℤ) → (x *ℤ pos 0) +ℤ (y *ℤ pos 1) ≡ y
    reads_y x y = omega (arith, ints)
