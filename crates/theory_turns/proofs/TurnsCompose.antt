-- One turn after another is a turn, and so is the way back.

use Rattle.std.proofs.Common.{ℤ, pos, ◌≡◌, ◌+ℤ◌, ◌-ℤ◌, ◌*ℤ◌, neg_ℤ, arith, refl, ap, sym, ◌∙◌}
use Rattle.std.proofs.lemmas.Int.{ints}
use Rattle.theory_numbers.proofs.Shapes.{var, num, plus, minus, negated, times, equal}
use Rattle.theory_numbers.proofs.Ring.{mul_comm, mul-sub}
use Rattle.sb_fraction.specs.Spots.{Vector, vector, inner}
use Rattle.theory_turns.specs.Turns.{Quarter, cross_of, y_of, mixed, turned_by, then_of, back_of}
use Rattle.theory_turns.proofs.AreasOfMixtures.{area, area-turned, area-of-mixtures}
use Rattle.theory_turns.proofs.UprightTriples.{IsUpright, same_vector, x_of_others, z_of_others}
use Rattle.theory_turns.proofs.UprightTriples.{yy, xy, zy, inner-turned, read_back}

-- ---- mixtures

times_mixed : (k : ℤ) (v : Vector) (a b c : ℤ)
    → k *ℤ mixed v a b c ≡ ((v.x *ℤ (k *ℤ a)) +ℤ (v.y *ℤ (k *ℤ b))) +ℤ (v.z *ℤ (k *ℤ c))
times_mixed k v a b c =
    equal
    (times (var k)
    (plus (plus (times (var a) (var v.x)) (times (var b) (var v.y))) (times (var c) (var v.z))))
    (plus
    (plus (times (var v.x) (times (var k) (var a))) (times (var v.y) (times (var k) (var b))))
    (times (var v.z) (times (var k) (var c))))
    (omega arith)

times_three : (k a b c : ℤ)
    → k *ℤ ((a +ℤ b) +ℤ c) ≡ ((k *ℤ a) +ℤ (k *ℤ b)) +ℤ (k *ℤ c)
times_three k a b c =
    equal (times (var k) (plus (plus (var a) (var b)) (var c)))
    (plus (plus (times (var k) (var a)) (times (var k) (var b))) (times (var k) (var c)))
    (omega arith)

-- an inner product with a turned vector
pub inner-of-turned : (u : Vector) (q : Quarter) (v : Vector)
    → inner u (turned_by q v)
    ≡ ((v.x *ℤ inner u q.x) +ℤ (v.y *ℤ inner u (y_of q))) +ℤ (v.z *ℤ inner u q.z)
inner-of-turned u q v =
    gathered q.x (y_of q) q.z
  where
    gathered : (x y z : Vector)
        → ((u.x *ℤ mixed v x.x y.x z.x) +ℤ (u.y *ℤ mixed v x.y y.y z.y)) +ℤ (u.z *ℤ mixed v x.z y.z z.z)
        ≡ ((v.x *ℤ inner u x) +ℤ (v.y *ℤ inner u y)) +ℤ (v.z *ℤ inner u z)
    gathered x y z =
        omega (
          arith,
          ints,
          times_mixed u.x v x.x y.x z.x,
          times_mixed u.y v x.y y.y z.y,
          times_mixed u.z v x.z y.z z.z,
          times_three v.x (u.x *ℤ x.x) (u.y *ℤ x.y) (u.z *ℤ x.z),
          times_three v.y (u.x *ℤ y.x) (u.y *ℤ y.y) (u.z *ℤ y.z),
          times_three v.z (u.x *ℤ z.x) (u.y *ℤ z.y) (u.z *ℤ z.z),
        )

first_alone : (v : Vector) (a b c : ℤ) → a ≡ pos 1 → b ≡ pos 0 → c ≡ pos 0
    → ((v.x *ℤ a) +ℤ (v.y *ℤ b)) +ℤ (v.z *ℤ c) ≡ v.x
first_alone v a b c one none zero =
    rw (one, none, zero)
    (equal (plus (plus (times (var v.x) (num 1)) (times (var v.y) (num 0))) (times (var v.z) (num 0)))
    (var v.x) (omega arith))

second_alone : (v : Vector) (a b c : ℤ) → a ≡ pos 0 → b ≡ pos 1 → c ≡ pos 0
    → ((v.x *ℤ a) +ℤ (v.y *ℤ b)) +ℤ (v.z *ℤ c) ≡ v.y
second_alone v a b c one none zero =
    rw (one, none, zero)
    (equal (plus (plus (times (var v.x) (num 0)) (times (var v.y) (num 1))) (times (var v.z) (num 0)))
    (var v.y) (omega arith))

third_alone : (v : Vector) (a b c : ℤ) → a ≡ pos 0 → b ≡ pos 0 → c ≡ pos 1
    → ((v.x *ℤ a) +ℤ (v.y *ℤ b)) +ℤ (v.z *ℤ c) ≡ v.z
third_alone v a b c one none zero =
    rw (one, none, zero)
    (equal (plus (plus (times (var v.x) (num 0)) (times (var v.y) (num 0))) (times (var v.z) (num 1)))
    (var v.z) (omega arith))

-- how far a turned vector goes along each axis of the turn
pub along_x : (q : Quarter) (v : Vector) → IsUpright q → inner q.x (turned_by q v) ≡ v.x
along_x q v up =
    inner-of-turned q.x q v ∙ first_alone v _ _ _ up.xx (xy q) up.xz

pub along_y : (q : Quarter) (v : Vector) → IsUpright q → inner (y_of q) (turned_by q v) ≡ v.y
along_y q v up =
    inner-of-turned (y_of q) q v
    ∙ second_alone v _ _ _ (inner-turned (y_of q) q.x ∙ xy q) (yy q up)
    (inner-turned (y_of q) q.z ∙ zy q)

pub along_z : (q : Quarter) (v : Vector) → IsUpright q → inner q.z (turned_by q v) ≡ v.z
along_z q v up =
    inner-of-turned q.z q v
    ∙ third_alone v _ _ _ (inner-turned q.z q.x ∙ up.xz) (zy q) up.zz

-- inner products stay as they are
pub inner-stays : (q : Quarter) (v w : Vector) → IsUpright q
    → inner (turned_by q v) (turned_by q w) ≡ inner v w
inner-stays q v w up =
    let t = turned_by q v in
    inner-of-turned t q w
    ∙ rw (
      inner-turned t q.x ∙ along_x q v up,
      inner-turned t (y_of q) ∙ along_y q v up,
      inner-turned t q.z ∙ along_z q v up,
    ) (inner-turned w v)

-- one turn after another has upright axes
pub then_is_upright : (first second : Quarter) → IsUpright first → IsUpright second
    → IsUpright (then_of first second)
then_is_upright first second up down =
    record {
      xx = inner-stays second first.x first.x down ∙ up.xx;
      zz = inner-stays second first.z first.z down ∙ up.zz;
      xz = inner-stays second first.x first.z down ∙ up.xz;
    }

-- ---- one after another

-- a cross product is turned with its factors
cross-turned : (q : Quarter) (z x : Vector) → IsUpright q
    → cross_of (turned_by q z) (turned_by q x) ≡ turned_by q (cross_of z x)
cross-turned q z x up =
    let y = y_of q in
    let xs = x_of_others q up in
    let zs = z_of_others q up in
    same_vector
    (area-of-mixtures z x q.x.y y.y q.z.y q.x.z y.z q.z.z
    ∙ placed q.x.x y.x q.z.x (area q.x.y q.x.z y.y y.z) (area q.x.y q.x.z q.z.y q.z.z)
    (area y.y y.z q.z.y q.z.z) (ap (λ v. v.x) zs)
    (area-turned q.x.y q.x.z q.z.y q.z.z) (ap (λ v. v.x) xs))
    (area-of-mixtures z x q.x.z y.z q.z.z q.x.x y.x q.z.x
    ∙ placed q.x.y y.y q.z.y (area q.x.z q.x.x y.z y.x) (area q.x.z q.x.x q.z.z q.z.x)
    (area y.z y.x q.z.z q.z.x) (ap (λ v. v.y) zs)
    (area-turned q.x.z q.x.x q.z.z q.z.x) (ap (λ v. v.y) xs))
    (area-of-mixtures z x q.x.x y.x q.z.x q.x.y y.y q.z.y
    ∙ placed q.x.z y.z q.z.z (area q.x.x q.x.y y.x y.y) (area q.x.x q.x.y q.z.x q.z.y)
    (area y.x y.y q.z.x q.z.y) (ap (λ v. v.z) zs)
    (area-turned q.x.x q.x.y q.z.x q.z.y) (ap (λ v. v.z) xs))
  where
    reordered : (a b c p1 p2 m1 m2 n1 n2 : ℤ)
        → (((p1 -ℤ p2) *ℤ c) +ℤ ((m1 -ℤ m2) *ℤ neg_ℤ b)) +ℤ ((n1 -ℤ n2) *ℤ a)
        ≡ ((a *ℤ (n1 -ℤ n2)) +ℤ (b *ℤ (m2 -ℤ m1))) +ℤ (c *ℤ (p1 -ℤ p2))
    reordered a b c p1 p2 m1 m2 n1 n2 =
        equal
        (plus
        (plus (times (minus (var p1) (var p2)) (var c)) (times (minus (var m1) (var m2)) (negated (var b))))
        (times (minus (var n1) (var n2)) (var a)))
        (plus
        (plus (times (var a) (minus (var n1) (var n2))) (times (var b) (minus (var m2) (var m1))))
        (times (var c) (minus (var p1) (var p2))))
        (omega arith)

    placed : (a b c ab ac bc : ℤ) → ab ≡ c → ac ≡ neg_ℤ b → bc ≡ a
        → ((((z.x *ℤ x.y) -ℤ (z.y *ℤ x.x)) *ℤ ab) +ℤ (((z.x *ℤ x.z) -ℤ (z.z *ℤ x.x)) *ℤ ac))
        +ℤ (((z.y *ℤ x.z) -ℤ (z.z *ℤ x.y)) *ℤ bc)
        ≡ mixed (cross_of z x) a b c
    placed a b c ab ac bc first second third =
        rw (first, second, third)
        (reordered a b c (z.x *ℤ x.y) (z.y *ℤ x.x) (z.x *ℤ x.z) (z.z *ℤ x.x) (z.y *ℤ x.z)
        (z.z *ℤ x.y))

-- where the second turn after the first takes the local y
y_of_then : (first second : Quarter) → IsUpright second
    → y_of (then_of first second) ≡ turned_by second (y_of first)
y_of_then first second up = cross-turned second first.z first.x up

mixed_of_mixed : (v x y z : Vector) (a b c : ℤ)
    → mixed v (mixed x a b c) (mixed y a b c) (mixed z a b c)
    ≡ mixed (vector (mixed v x.x y.x z.x) (mixed v x.y y.y z.y) (mixed v x.z y.z z.z)) a b c
mixed_of_mixed v x y z a b c =
    omega (
      arith,
      ints,
      mul_comm (mixed x a b c) v.x,
      mul_comm (mixed y a b c) v.y,
      mul_comm (mixed z a b c) v.z,
      times_mixed_so v.x x,
      times_mixed_so v.y y,
      times_mixed_so v.z z,
      times_three a (x.x *ℤ v.x) (y.x *ℤ v.y) (z.x *ℤ v.z),
      times_three b (x.y *ℤ v.x) (y.y *ℤ v.y) (z.y *ℤ v.z),
      times_three c (x.z *ℤ v.x) (y.z *ℤ v.y) (z.z *ℤ v.z),
    )
  where
    times_mixed_so : (k : ℤ) (u : Vector)
        → k *ℤ mixed u a b c
        ≡ ((a *ℤ (u.x *ℤ k)) +ℤ (b *ℤ (u.y *ℤ k))) +ℤ (c *ℤ (u.z *ℤ k))
    times_mixed_so k u =
        equal
        (times (var k)
        (plus (plus (times (var a) (var u.x)) (times (var b) (var u.y))) (times (var c) (var u.z))))
        (plus
        (plus (times (var a) (times (var u.x) (var k))) (times (var b) (times (var u.y) (var k))))
        (times (var c) (times (var u.z) (var k))))
        (omega arith)

-- where a turn takes a vector, by where it takes the local y
by_local_y : (q : Quarter) (v y : Vector) → y_of q ≡ y
    → turned_by q v
    ≡ vector (mixed v q.x.x y.x q.z.x) (mixed v q.x.y y.y q.z.y) (mixed v q.x.z y.z q.z.z)
by_local_y q v y e =
    ap (λ t. vector (mixed v q.x.x t.x q.z.x) (mixed v q.x.y t.y q.z.y) (mixed v q.x.z t.z q.z.z)) e

-- one turn after another takes a vector where the second takes it from where the first does
pub then_takes : (first second : Quarter) (v : Vector) → IsUpright second
    → turned_by (then_of first second) v ≡ turned_by second (turned_by first v)
then_takes first second v up =
    let own = y_of second in
    by_local_y (then_of first second) v (turned_by second (y_of first)) (y_of_then first second up)
    ∙ (same_vector
    (mixed_of_mixed v first.x (y_of first) first.z second.x.x own.x second.z.x)
    (mixed_of_mixed v first.x (y_of first) first.z second.x.y own.y second.z.y)
    (mixed_of_mixed v first.x (y_of first) first.z second.x.z own.z second.z.z))

-- ---- the way back

-- where the way back takes the local y
y_of_back : (q : Quarter) → IsUpright q
    → y_of (back_of q) ≡ vector q.x.y (y_of q).y q.z.y
y_of_back q up =
    let y = y_of q in
    same_vector
    (commuted y.z q.z.x q.z.z y.x ∙ ap (λ v. v.y) (x_of_others q up))
    (commuted q.z.z q.x.x q.x.z q.z.x)
    (commuted q.x.z y.x y.z q.x.x ∙ ap (λ v. v.y) (z_of_others q up))
  where
    commuted : (a b c d : ℤ) → (a *ℤ b) -ℤ (c *ℤ d) ≡ (a *ℤ b) -ℤ (d *ℤ c)
    commuted a b c d = omega (arith, ints, mul_comm c d)

-- the way back takes a turned vector back
pub back_takes : (q : Quarter) (v : Vector) → IsUpright q → turned_by (back_of q) (turned_by q v) ≡ v
back_takes q v up =
    by_local_y (back_of q) (turned_by q v) (vector q.x.y (y_of q).y q.z.y) (y_of_back q up)
    ∙ same_vector (along_x q v up) (along_y q v up) (along_z q v up)

around_to : (a b c : ℤ) → a *ℤ (b *ℤ c) ≡ c *ℤ (a *ℤ b)
around_to a b c =
    equal (times (var a) (times (var b) (var c))) (times (var c) (times (var a) (var b)))
    (omega arith)

-- of upright axes the first coordinates make a vector of length 1
row_length : (x1 x2 x3 y1 y2 y3 z1 z2 z3 : ℤ) → (z2 *ℤ x3) -ℤ (z3 *ℤ x2) ≡ y1
    → (x2 *ℤ y3) -ℤ (x3 *ℤ y2) ≡ z1 → (y3 *ℤ z1) -ℤ (y1 *ℤ z3) ≡ x2
    → (y1 *ℤ z2) -ℤ (y2 *ℤ z1) ≡ x3
    → ((x1 *ℤ x1) +ℤ (y1 *ℤ y1)) +ℤ (z1 *ℤ z1) ≡ ((x1 *ℤ x1) +ℤ (x2 *ℤ x2)) +ℤ (x3 *ℤ x3)
row_length x1 x2 x3 y1 y2 y3 z1 z2 z3 of_y of_z of_x of_x3 =
    omega (
      arith,
      ints,
      sym (mul-sub y1 (z2 *ℤ x3) (z3 *ℤ x2)) ∙ ap (λ t. y1 *ℤ t) of_y,
      sym (mul-sub z1 (x2 *ℤ y3) (x3 *ℤ y2)) ∙ ap (λ t. z1 *ℤ t) of_z,
      sym (mul-sub x2 (y3 *ℤ z1) (y1 *ℤ z3)) ∙ ap (λ t. x2 *ℤ t) of_x,
      sym (mul-sub x3 (y1 *ℤ z2) (y2 *ℤ z1)) ∙ ap (λ t. x3 *ℤ t) of_x3,
      around_to y1 z2 x3,
      sym (around_to x2 y1 z3) ∙ ap (λ t. x2 *ℤ t) refl,
      around_to y1 z3 x2,
      around_to x2 y3 z1,
      around_to z1 x3 y2,
      around_to x3 y2 z1,
    )

-- and first and last ones stand at right angles
rows_apart : (x1 x2 x3 y1 y2 y3 z1 z2 z3 : ℤ) → (z1 *ℤ x2) -ℤ (z2 *ℤ x1) ≡ y3
    → (x1 *ℤ y2) -ℤ (x2 *ℤ y1) ≡ z3 → (y1 *ℤ z2) -ℤ (y2 *ℤ z1) ≡ x3
    → ((x1 *ℤ x3) +ℤ (y1 *ℤ y3)) +ℤ (z1 *ℤ z3) ≡ pos 0
rows_apart x1 x2 x3 y1 y2 y3 z1 z2 z3 of_y of_z of_x =
    omega (
      arith,
      ints,
      sym (mul-sub y1 (z1 *ℤ x2) (z2 *ℤ x1)) ∙ ap (λ t. y1 *ℤ t) of_y,
      sym (mul-sub z1 (x1 *ℤ y2) (x2 *ℤ y1)) ∙ ap (λ t. z1 *ℤ t) of_z,
      sym (mul-sub x1 (y1 *ℤ z2) (y2 *ℤ z1)) ∙ ap (λ t. x1 *ℤ t) of_x,
      around_to y1 z2 x1,
      around_to x1 y2 z1,
      around_to y1 z1 x2,
      around_to z1 x2 y1,
    )

-- the way back has upright axes
pub back_is_upright : (q : Quarter) → IsUpright q → IsUpright (back_of q)
back_is_upright q up =
    let y = y_of q in
    let xs = x_of_others q up in
    let zs = z_of_others q up in
    record {
      xx =
          row_length q.x.x q.x.y q.x.z y.x y.y y.z q.z.x q.z.y q.z.z refl (ap (λ v. v.x) zs)
          (ap (λ v. v.y) xs) (ap (λ v. v.z) xs) ∙ up.xx;
      zz =
          row_length q.x.z q.x.x q.x.y y.z y.x y.y q.z.z q.z.x q.z.y refl (ap (λ v. v.z) zs)
          (ap (λ v. v.x) xs) (ap (λ v. v.y) xs) ∙ read_back q.x q.x up.xx;
      xz =
          rows_apart q.x.x q.x.y q.x.z y.x y.y y.z q.z.x q.z.y q.z.z refl (ap (λ v. v.z) zs)
          (ap (λ v. v.z) xs);
    }
