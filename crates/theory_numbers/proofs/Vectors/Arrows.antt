-- Products of plane vectors: how they change with their arguments.
use Rattle.std.proofs.Common.{◌≡◌, refl, arith, ℤ, pos, ◌+ℤ◌, ◌*ℤ◌, neg_ℤ, ap₂}
use Rattle.theory_numbers.specs.Arrows.{Arrow, arrow, cross, dot, add, scale, opposite, turned}
use Rattle.theory_numbers.specs.Arrows.{mirror}
use Rattle.theory_numbers.proofs.Shapes.{var, num, plus, negated, times, equal, cross_is, dot_is}
use Rattle.theory_numbers.proofs.Shapes.{cross_by, dot_by}

-- two vectors with equal coordinates are equal
pub same_arrow : (a b : Arrow) → a.x ≡ b.x → a.y ≡ b.y → a ≡ b
same_arrow a b same_x same_y =
    let whole : arrow a.x a.y ≡ arrow b.x b.y = ap₂ arrow same_x same_y in whole

-- ---- the cross product

-- exchanged, the cross product has the opposite sign
pub cross-turn : (a b : Arrow) → cross b a ≡ neg_ℤ (cross a b)
cross-turn a b = equal (cross_is b a) (negated (cross_is a b)) (omega arith)

-- no vector spans an area with itself
pub cross-self : (a : Arrow) → cross a a ≡ pos 0
cross-self a = equal (cross_is a a) (num 0) (omega arith)

-- the cross product of a sum, on the right
pub cross-add : (a b c : Arrow) → cross a (add b c) ≡ cross a b +ℤ cross a c
cross-add a b c =
    equal
    (cross_by a (add b c)
    (var a.x) (var a.y) (plus (var b.x) (var c.x)) (plus (var b.y) (var c.y)))
    (plus (cross_is a b) (cross_is a c))
    (omega arith)

-- the cross product of a sum, on the left
pub add-cross : (a b c : Arrow) → cross (add a b) c ≡ cross a c +ℤ cross b c
add-cross a b c =
    equal
    (cross_by (add a b) c
    (plus (var a.x) (var b.x)) (plus (var a.y) (var b.y)) (var c.x) (var c.y))
    (plus (cross_is a c) (cross_is b c))
    (omega arith)

-- a factor moves out of the right side
pub cross-scale : (k : ℤ) (a b : Arrow) → cross a (scale k b) ≡ k *ℤ cross a b
cross-scale k a b =
    equal
    (cross_by a (scale k b)
    (var a.x) (var a.y) (times (var k) (var b.x)) (times (var k) (var b.y)))
    (times (var k) (cross_is a b))
    (omega arith)

-- a factor moves out of the left side
pub scale-cross : (k : ℤ) (a b : Arrow) → cross (scale k a) b ≡ k *ℤ cross a b
scale-cross k a b =
    equal
    (cross_by (scale k a) b
    (times (var k) (var a.x)) (times (var k) (var a.y)) (var b.x) (var b.y))
    (times (var k) (cross_is a b))
    (omega arith)

-- the opposite vector on the right turns the sign
pub cross-opposite : (a b : Arrow) → cross a (opposite b) ≡ neg_ℤ (cross a b)
cross-opposite a b =
    equal (cross_by a (opposite b) (var a.x) (var a.y) (negated (var b.x)) (negated (var b.y)))
    (negated (cross_is a b))
    (omega arith)

-- the opposite vector on the left turns the sign
pub opposite-cross : (a b : Arrow) → cross (opposite a) b ≡ neg_ℤ (cross a b)
opposite-cross a b =
    equal (cross_by (opposite a) b (negated (var a.x)) (negated (var a.y)) (var b.x) (var b.y))
    (negated (cross_is a b))
    (omega arith)

-- ---- the inner product

-- the inner product does not see the order of its vectors
pub dot_comm : (a b : Arrow) → dot a b ≡ dot b a
dot_comm a b = equal (dot_is a b) (dot_is b a) (omega arith)

-- the inner product of a sum, on the right
pub dot-add : (a b c : Arrow) → dot a (add b c) ≡ dot a b +ℤ dot a c
dot-add a b c =
    equal
    (dot_by a (add b c) (var a.x) (var a.y) (plus (var b.x) (var c.x)) (plus (var b.y) (var c.y)))
    (plus (dot_is a b) (dot_is a c))
    (omega arith)

-- the inner product of a sum, on the left
pub add-dot : (a b c : Arrow) → dot (add a b) c ≡ dot a c +ℤ dot b c
add-dot a b c =
    equal
    (dot_by (add a b) c (plus (var a.x) (var b.x)) (plus (var a.y) (var b.y)) (var c.x) (var c.y))
    (plus (dot_is a c) (dot_is b c))
    (omega arith)

-- a factor moves out of the right side
pub dot-scale : (k : ℤ) (a b : Arrow) → dot a (scale k b) ≡ k *ℤ dot a b
dot-scale k a b =
    equal
    (dot_by a (scale k b) (var a.x) (var a.y) (times (var k) (var b.x)) (times (var k) (var b.y)))
    (times (var k) (dot_is a b))
    (omega arith)

-- a factor moves out of the left side
pub scale-dot : (k : ℤ) (a b : Arrow) → dot (scale k a) b ≡ k *ℤ dot a b
scale-dot k a b =
    equal
    (dot_by (scale k a) b (times (var k) (var a.x)) (times (var k) (var a.y)) (var b.x) (var b.y))
    (times (var k) (dot_is a b))
    (omega arith)

-- the opposite form has the opposite value
pub opposite-dot : (a b : Arrow) → dot (opposite a) b ≡ neg_ℤ (dot a b)
opposite-dot a b =
    equal (dot_by (opposite a) b (negated (var a.x)) (negated (var a.y)) (var b.x) (var b.y))
    (negated (dot_is a b))
    (omega arith)

-- so has the form at the opposite vector
pub dot-opposite : (a b : Arrow) → dot a (opposite b) ≡ neg_ℤ (dot a b)
dot-opposite a b =
    equal (dot_by a (opposite b) (var a.x) (var a.y) (negated (var b.x)) (negated (var b.y)))
    (negated (dot_is a b))
    (omega arith)

-- the inner product with a turned vector is the cross product
pub dot-turned : (a b : Arrow) → dot (turned a) b ≡ cross a b
dot-turned a b =
    equal (dot_by (turned a) b (negated (var a.y)) (var a.x) (var b.x) (var b.y)) (cross_is a b)
    (omega arith)

-- ---- mirror images

neg-neg : (n : ℤ) → neg_ℤ (neg_ℤ n) ≡ n
neg-neg n = equal (negated (negated (var n))) (var n) (omega arith)

-- the mirror image of the mirror image is the vector itself
pub mirror-mirror : (a : Arrow) → mirror (mirror a) ≡ a
mirror-mirror a = same_arrow (mirror (mirror a)) a refl (neg-neg a.y)

-- the mirror image turns the sense of rotation
pub cross-mirror : (a b : Arrow) → cross (mirror a) (mirror b) ≡ cross b a
cross-mirror a b =
    equal
    (cross_by (mirror a) (mirror b)
    (var a.x) (negated (var a.y)) (var b.x) (negated (var b.y)))
    (cross_is b a)
    (omega arith)

-- a mirrored form has the same value at the mirror image
pub dot-mirror : (a b : Arrow) → dot (mirror a) (mirror b) ≡ dot a b
dot-mirror a b =
    equal (dot_by (mirror a) (mirror b) (var a.x) (negated (var a.y)) (var b.x) (negated (var b.y)))
    (dot_is a b)
    (omega arith)

-- a mirrored form has the value of the form at the mirror image
pub mirror-dot : (a b : Arrow) → dot (mirror a) b ≡ dot a (mirror b)
mirror-dot a b =
    equal (dot_by (mirror a) b (var a.x) (negated (var a.y)) (var b.x) (var b.y))
    (dot_by a (mirror b) (var a.x) (var a.y) (var b.x) (negated (var b.y)))
    (omega arith)

-- a mirror image on one side changes places with the other side
pub mirror-cross : (a b : Arrow) → cross (mirror a) b ≡ cross (mirror b) a
mirror-cross a b =
    equal (cross_by (mirror a) b (var a.x) (negated (var a.y)) (var b.x) (var b.y))
    (cross_by (mirror b) a (var b.x) (negated (var b.y)) (var a.x) (var a.y))
    (omega arith)

-- the same with the mirror image on the right
pub cross-mirror_comm : (a b : Arrow) → cross a (mirror b) ≡ cross b (mirror a)
cross-mirror_comm a b =
    equal (cross_by a (mirror b) (var a.x) (var a.y) (var b.x) (negated (var b.y)))
    (cross_by b (mirror a) (var b.x) (var b.y) (var a.x) (negated (var a.y)))
    (omega arith)
