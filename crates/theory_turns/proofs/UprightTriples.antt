-- The three axes of a turn: each has length 1, each two stand at right angles, and each is the cross
-- product of the two after it.

use Rattle.std.proofs.Common.{ℤ, pos, ◌≡◌, ◌+ℤ◌, ◌-ℤ◌, ◌*ℤ◌, arith, ap, ◌∙◌}
use Rattle.std.proofs.lemmas.Int.{ints}
use Rattle.theory_numbers.proofs.Shapes.{var, num, plus, minus, times, equal}
use Rattle.theory_numbers.proofs.Ring.{mul_comm, mul-sub}
use Rattle.sb_fraction.specs.Spots.{Vector, vector, inner}
use Rattle.theory_turns.specs.Turns.{Quarter, cross_of, y_of}

-- the local x and z have length 1 and stand at right angles
pub record IsUpright (q : Quarter) : Type 0 where
  pub xx : inner q.x q.x ≡ pos 1
  pub zz : inner q.z q.z ≡ pos 1
  pub xz : inner q.x q.z ≡ pos 0

-- vectors are equal where their coordinates are
pub same_vector : {a b c d e f : ℤ} → a ≡ d → b ≡ e → c ≡ f → vector a b c ≡ vector d e f
same_vector {a} {b} {c} {d} {e} {f} first second third =
    ap (λ t. vector t b c) first ∙ ap (λ t. vector d t c) second ∙ ap (λ t. vector d e t) third

-- (z × x) × z in the first coordinate; the others are alike, read around
around : (x1 x2 x3 z1 z2 z3 : ℤ)
    → (((z3 *ℤ x1) -ℤ (z1 *ℤ x3)) *ℤ z3) -ℤ (((z1 *ℤ x2) -ℤ (z2 *ℤ x1)) *ℤ z2)
    ≡ (x1 *ℤ (((z1 *ℤ z1) +ℤ (z2 *ℤ z2)) +ℤ (z3 *ℤ z3)))
    -ℤ (z1 *ℤ (((x1 *ℤ z1) +ℤ (x2 *ℤ z2)) +ℤ (x3 *ℤ z3)))
around x1 x2 x3 z1 z2 z3 =
    equal
    (minus
    (times (minus (times (var z3) (var x1)) (times (var z1) (var x3))) (var z3))
    (times (minus (times (var z1) (var x2)) (times (var z2) (var x1))) (var z2)))
    (minus
    (times (var x1) (plus (plus (times (var z1) (var z1)) (times (var z2) (var z2))) (times (var z3) (var z3))))
    (times (var z1) (plus (plus (times (var x1) (var z1)) (times (var x2) (var z2))) (times (var x3) (var z3)))))
    (omega arith)

-- x × (z × x) in the first coordinate
back_around : (x1 x2 x3 z1 z2 z3 : ℤ)
    → (x2 *ℤ ((z1 *ℤ x2) -ℤ (z2 *ℤ x1))) -ℤ (x3 *ℤ ((z3 *ℤ x1) -ℤ (z1 *ℤ x3)))
    ≡ (z1 *ℤ (((x1 *ℤ x1) +ℤ (x2 *ℤ x2)) +ℤ (x3 *ℤ x3)))
    -ℤ (x1 *ℤ (((x1 *ℤ z1) +ℤ (x2 *ℤ z2)) +ℤ (x3 *ℤ z3)))
back_around x1 x2 x3 z1 z2 z3 =
    equal
    (minus
    (times (var x2) (minus (times (var z1) (var x2)) (times (var z2) (var x1))))
    (times (var x3) (minus (times (var z3) (var x1)) (times (var z1) (var x3)))))
    (minus
    (times (var z1) (plus (plus (times (var x1) (var x1)) (times (var x2) (var x2))) (times (var x3) (var x3))))
    (times (var x1) (plus (plus (times (var x1) (var z1)) (times (var x2) (var z2))) (times (var x3) (var z3)))))
    (omega arith)

one_of : (a b one none : ℤ) → one ≡ pos 1 → none ≡ pos 0 → (a *ℤ one) -ℤ (b *ℤ none) ≡ a
one_of a b one none first second =
    rw (first, second)
    (equal (minus (times (var a) (num 1)) (times (var b) (num 0))) (var a) (omega arith))

read_around : (u v : Vector) {n : ℤ} → inner u v ≡ n
    → ((u.y *ℤ v.y) +ℤ (u.z *ℤ v.z)) +ℤ (u.x *ℤ v.x) ≡ n
read_around u v e = omega (arith, ints, e)

-- the same inner product, added up from the last coordinate on
pub read_back : (u v : Vector) {n : ℤ} → inner u v ≡ n
    → ((u.z *ℤ v.z) +ℤ (u.x *ℤ v.x)) +ℤ (u.y *ℤ v.y) ≡ n
read_back u v e = omega (arith, ints, e)

-- the local x is y × z
pub x_of_others : (q : Quarter) → IsUpright q → cross_of (y_of q) q.z ≡ q.x
x_of_others q up =
    same_vector
    (around q.x.x q.x.y q.x.z q.z.x q.z.y q.z.z ∙ one_of q.x.x q.z.x _ _ up.zz up.xz)
    (around q.x.y q.x.z q.x.x q.z.y q.z.z q.z.x
    ∙ one_of q.x.y q.z.y _ _ (read_around q.z q.z up.zz) (read_around q.x q.z up.xz))
    (around q.x.z q.x.x q.x.y q.z.z q.z.x q.z.y
    ∙ one_of q.x.z q.z.z _ _ (read_back q.z q.z up.zz) (read_back q.x q.z up.xz))

-- and the local z is x × y
pub z_of_others : (q : Quarter) → IsUpright q → cross_of q.x (y_of q) ≡ q.z
z_of_others q up =
    same_vector
    (back_around q.x.x q.x.y q.x.z q.z.x q.z.y q.z.z ∙ one_of q.z.x q.x.x _ _ up.xx up.xz)
    (back_around q.x.y q.x.z q.x.x q.z.y q.z.z q.z.x
    ∙ one_of q.z.y q.x.y _ _ (read_around q.x q.x up.xx) (read_around q.x q.z up.xz))
    (back_around q.x.z q.x.x q.x.y q.z.z q.z.x q.z.y
    ∙ one_of q.z.z q.x.z _ _ (read_back q.x q.x up.xx) (read_back q.x q.z up.xz))

last_first : (a b c : ℤ) → a *ℤ (b *ℤ c) ≡ c *ℤ (a *ℤ b)
last_first a b c =
    equal (times (var a) (times (var b) (var c))) (times (var c) (times (var a) (var b)))
    (omega arith)

-- the volume of three vectors, read from each
pub volume-around : (a b c : Vector) → inner a (cross_of b c) ≡ inner c (cross_of a b)
volume-around a b c =
    omega (
      arith,
      ints,
      mul-sub a.x (b.y *ℤ c.z) (b.z *ℤ c.y),
      mul-sub a.y (b.z *ℤ c.x) (b.x *ℤ c.z),
      mul-sub a.z (b.x *ℤ c.y) (b.y *ℤ c.x),
      mul-sub c.x (a.y *ℤ b.z) (a.z *ℤ b.y),
      mul-sub c.y (a.z *ℤ b.x) (a.x *ℤ b.z),
      mul-sub c.z (a.x *ℤ b.y) (a.y *ℤ b.x),
      last_first a.x b.y c.z,
      last_first a.x b.z c.y,
      last_first a.y b.z c.x,
      last_first a.y b.x c.z,
      last_first a.z b.x c.y,
      last_first a.z b.y c.x,
    )

-- the local y has length 1
pub yy : (q : Quarter) → IsUpright q → inner (y_of q) (y_of q) ≡ pos 1
yy q up =
    volume-around (y_of q) q.z q.x ∙ ap (inner q.x) (x_of_others q up) ∙ up.xx

flat : (a1 a2 a3 b1 b2 b3 : ℤ)
    → ((a1 *ℤ ((b2 *ℤ a3) -ℤ (b3 *ℤ a2))) +ℤ (a2 *ℤ ((b3 *ℤ a1) -ℤ (b1 *ℤ a3))))
    +ℤ (a3 *ℤ ((b1 *ℤ a2) -ℤ (b2 *ℤ a1)))
    ≡ pos 0
flat a1 a2 a3 b1 b2 b3 =
    equal
    (plus
    (plus
    (times (var a1) (minus (times (var b2) (var a3)) (times (var b3) (var a2))))
    (times (var a2) (minus (times (var b3) (var a1)) (times (var b1) (var a3)))))
    (times (var a3) (minus (times (var b1) (var a2)) (times (var b2) (var a1)))))
    (num 0) (omega arith)

-- a vector stands at right angles to its cross products
pub xy : (q : Quarter) → inner q.x (y_of q) ≡ pos 0
xy q = flat q.x.x q.x.y q.x.z q.z.x q.z.y q.z.z

pub zy : (q : Quarter) → inner q.z (y_of q) ≡ pos 0
zy q = volume-around q.z q.z q.x ∙ flat_pair q.x q.z
  where
    no_area : (a b c : ℤ) → (a *ℤ ((b *ℤ c) -ℤ (c *ℤ b))) ≡ pos 0
    no_area a b c =
        equal (times (var a) (minus (times (var b) (var c)) (times (var c) (var b)))) (num 0)
        (omega arith)

    flat_pair : (x z : Vector) → inner x (cross_of z z) ≡ pos 0
    flat_pair x z =
        omega (arith, ints, no_area x.x z.y z.z, no_area x.y z.z z.x, no_area x.z z.x z.y)

-- inner products know no order
pub inner-turned : (a b : Vector) → inner a b ≡ inner b a
inner-turned a b = omega (arith, ints, mul_comm a.x b.x, mul_comm a.y b.y, mul_comm a.z b.z)
