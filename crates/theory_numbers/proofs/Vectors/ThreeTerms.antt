-- The identities on which nearly all geometry rests. All geometry of one point and some edges is
-- signs of cross products, and these relate the products of three and four vectors.
use Rattle.std.proofs.Common.{◌≡◌, arith, pos, ◌+ℤ◌, ◌-ℤ◌, ◌*ℤ◌}
use Rattle.theory_numbers.specs.Arrows.{Arrow, cross, dot}
use Rattle.theory_numbers.proofs.Shapes.{var, num, plus, minus, times, equal, cross_is, dot_is}

-- three terms: of four vectors
pub three_terms : (r s a b : Arrow)
    → cross r s *ℤ cross a b ≡ (cross r a *ℤ cross s b) -ℤ (cross r b *ℤ cross s a)
three_terms r s a b =
    equal (times (cross_is r s) (cross_is a b))
    (minus (times (cross_is r a) (cross_is s b)) (times (cross_is r b) (cross_is s a)))
    (omega arith)

-- three terms, linear: the values of one form at three vectors
pub three_terms_linear : (form r s t : Arrow)
    → cross r t *ℤ dot form s ≡ (cross s t *ℤ dot form r) +ℤ (cross r s *ℤ dot form t)
three_terms_linear form r s t =
    equal (times (cross_is r t) (dot_is form s))
    (plus (times (cross_is s t) (dot_is form r)) (times (cross_is r s) (dot_is form t)))
    (omega arith)

-- cycle, in the first coordinate
pub cycle_x : (s a b : Arrow)
    → (cross s a *ℤ b.x) +ℤ (cross a b *ℤ s.x) +ℤ (cross b s *ℤ a.x) ≡ pos 0
cycle_x s a b =
    equal
    (plus (plus (times (cross_is s a) (var b.x)) (times (cross_is a b) (var s.x)))
    (times (cross_is b s) (var a.x)))
    (num 0)
    (omega arith)

-- cycle, in the second coordinate
pub cycle_y : (s a b : Arrow)
    → (cross s a *ℤ b.y) +ℤ (cross a b *ℤ s.y) +ℤ (cross b s *ℤ a.y) ≡ pos 0
cycle_y s a b =
    equal
    (plus (plus (times (cross_is s a) (var b.y)) (times (cross_is a b) (var s.y)))
    (times (cross_is b s) (var a.y)))
    (num 0)
    (omega arith)

-- cycle, seen along any vector c
pub cycle : (s a b c : Arrow)
    → (cross s a *ℤ dot b c) +ℤ (cross a b *ℤ dot s c) +ℤ (cross b s *ℤ dot a c) ≡ pos 0
cycle s a b c =
    equal
    (plus (plus (times (cross_is s a) (dot_is b c)) (times (cross_is a b) (dot_is s c)))
    (times (cross_is b s) (dot_is a c)))
    (num 0)
    (omega arith)

-- the frame of d: a cross product times d·d, from the parts along d and across it
pub frame_cross : (d a b : Arrow)
    → dot d d *ℤ cross a b ≡ (dot d a *ℤ cross d b) -ℤ (cross d a *ℤ dot d b)
frame_cross d a b =
    equal (times (dot_is d d) (cross_is a b))
    (minus (times (dot_is d a) (cross_is d b)) (times (cross_is d a) (dot_is d b)))
    (omega arith)

-- the frame of d: an inner product times d·d
pub frame_dot : (d a b : Arrow)
    → dot d d *ℤ dot a b ≡ (dot d a *ℤ dot d b) +ℤ (cross d a *ℤ cross d b)
frame_dot d a b =
    equal (times (dot_is d d) (dot_is a b))
    (plus (times (dot_is d a) (dot_is d b)) (times (cross_is d a) (cross_is d b)))
    (omega arith)
