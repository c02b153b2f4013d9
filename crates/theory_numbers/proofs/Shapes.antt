-- A method that closes any polynomial identity of whole numbers: each number is read as a
-- difference of two naturals, the shape of a term is spelled out, and `omega` multiplies it out.
use Rattle.std.proofs.Common.{◌≡◌, refl, ℕ, ◌+◌, ◌*◌, ◌<◌, ◌≤◌, ap, arith, ℤ, pos, ◌+ℤ◌, ◌-ℤ◌, ◌*ℤ◌}
use Rattle.std.proofs.Common.{neg_ℤ, ◌<ℤ◌, ◌≤ℤ◌}
use borrow.Author.Differences.{up, down, sum_is_lem, neg_is, product_is, same_in, below_in}
use borrow.Author.Differences.{at_most_in, same_out, lt_out, le_out}
use Rattle.theory_numbers.specs.Arrows.{Arrow, cross, dot}

-- a is p - q
pub record Is (a : ℤ) (p q : ℕ) : Type 0 where
  pub diff : up a + q ≡ down a + p

-- a variable, or any term that is to stay as it is
pub var : (a : ℤ) → Is a (up a) (down a)
var a = record { diff = omega arith }

-- a numeral
pub num : (n : ℕ) → Is (pos n) n 0
num n = record { diff = omega arith }

-- a sum
pub plus : {a b : ℤ} {p q r s : ℕ} → Is a p q → Is b r s → Is (a +ℤ b) (p + r) (q + s)
plus {a} {b} first second = record { diff = omega (arith, sum_is_lem a b, first.diff, second.diff) }

-- a number with its sign turned
pub negated : {a : ℤ} {p q : ℕ} → Is a p q → Is (neg_ℤ a) q p
negated {a} first = record { diff = omega (arith, neg_is a, first.diff) }

-- a difference
pub minus : {a b : ℤ} {p q r s : ℕ} → Is a p q → Is b r s → Is (a -ℤ b) (p + s) (q + r)
minus first second = plus first (negated second)

multiplied : (u d p q v order r s : ℕ) → u + q ≡ d + p → v + s ≡ order + r
    → (u * v + d * order) + (p * s + q * r) ≡ (u * order + d * v) + (p * r + q * s)
multiplied u d p q v order r s first second =
    omega (
      arith,
      ap (λ n. n * v) first,
      ap (λ n. n * order) first,
      ap (λ n. n * p) second,
      ap (λ n. n * q) second,
    )

-- a product
pub times : {a b : ℤ} {p q r s : ℕ} → Is a p q → Is b r s
    → Is (a *ℤ b) (p * r + q * s) (p * s + q * r)
times {a} {b} {p} {q} {r} {s} first second =
    record {
      diff =
          let k = multiplied (up a) (down a) p q (up b) (down b) r s first.diff second.diff in
          omega (arith, product_is a b, k);
    }

-- two terms are equal where their shapes are: `equal shape shape (omega arith)`
pub equal : {a b : ℤ} {p q r s : ℕ} → Is a p q → Is b r s → p + s ≡ r + q → a ≡ b
equal {a} {b} first second order = same_in a b (omega (arith, first.diff, second.diff, order))

-- one term is below another where its shape is
pub less : {a b : ℤ} {p q r s : ℕ} → Is a p q → Is b r s → p + s < r + q → a <ℤ b
less {a} {b} first second order = below_in a b (omega (arith, first.diff, second.diff, order))

-- one term is at most another where its shape is
pub at_most : {a b : ℤ} {p q r s : ℕ} → Is a p q → Is b r s → p + s ≤ r + q → a ≤ℤ b
at_most {a} {b} first second order = at_most_in a b (omega (arith, first.diff, second.diff, order))

-- the shapes of two equal terms are equal
pub from_equal : {a b : ℤ} {p q r s : ℕ} → Is a p q → Is b r s → a ≡ b → p + s ≡ r + q
from_equal {a} {b} first second order = omega (arith, first.diff, second.diff, same_out a b order)

-- the shape of a lesser term is less
pub from_less : {a b : ℤ} {p q r s : ℕ} → Is a p q → Is b r s → a <ℤ b → p + s < r + q
from_less {a} {b} first second order = omega (arith, first.diff, second.diff, lt_out a b order)

-- the shape of a term that is at most another is at most its shape
pub from_at_most : {a b : ℤ} {p q r s : ℕ} → Is a p q → Is b r s → a ≤ℤ b → p + s ≤ r + q
from_at_most {a} {b} first second order = omega (arith, first.diff, second.diff, le_out a b order)

-- the cross product, written out
pub cross_eq : (a b : Arrow) → cross a b ≡ (a.x *ℤ b.y) -ℤ (a.y *ℤ b.x)
unfolding cross
cross_eq a b = refl

-- the inner product, written out
pub dot_eq : (a b : Arrow) → dot a b ≡ (a.x *ℤ b.x) +ℤ (a.y *ℤ b.y)
unfolding dot
dot_eq a b = refl

-- the shape of a cross product, from the shapes of the coordinates
pub cross_by : (a b : Arrow) {p q r s t u v w : ℕ}
    → Is a.x p q → Is a.y r s → Is b.x t u → Is b.y v w
    → Is (cross a b) ((p * v + q * w) + (r * u + s * t)) ((p * w + q * v) + (r * t + s * u))
unfolding cross
cross_by a b ax ay bx by = minus (times ax by) (times ay bx)

-- the shape of an inner product, from the shapes of the coordinates
pub dot_by : (a b : Arrow) {p q r s t u v w : ℕ}
    → Is a.x p q → Is a.y r s → Is b.x t u → Is b.y v w
    → Is (dot a b) ((p * t + q * u) + (r * v + s * w)) ((p * u + q * t) + (r * w + s * v))
unfolding dot
dot_by a b ax ay bx by = plus (times ax bx) (times ay by)

-- the shape of a cross product of two variables
pub cross_is : (a b : Arrow)
    → Is (cross a b)
    ((up a.x * up b.y + down a.x * down b.y) + (up a.y * down b.x + down a.y * up b.x))
    ((up a.x * down b.y + down a.x * up b.y) + (up a.y * up b.x + down a.y * down b.x))
cross_is a b = cross_by a b (var a.x) (var a.y) (var b.x) (var b.y)

-- the shape of an inner product of two variables
pub dot_is : (a b : Arrow)
    → Is (dot a b)
    ((up a.x * up b.x + down a.x * down b.x) + (up a.y * up b.y + down a.y * down b.y))
    ((up a.x * down b.x + down a.x * up b.x) + (up a.y * down b.y + down a.y * up b.y))
dot_is a b = dot_by a b (var a.x) (var a.y) (var b.x) (var b.y)
