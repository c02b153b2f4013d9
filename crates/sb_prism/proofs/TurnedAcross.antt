-- What is turned lies across a turned axis where it lies across the axis.
use Rattle.std.proofs.Common.{◌≡◌, ◌+◌, ℤ, pos, neg_ℤ, ◌+ℤ◌, ◌*ℤ◌, Bool, true, false, refl, sym, ap, ap₂, ◌∙◌, arith}
use Rattle.std.specs.Prelude.{unsigned_abs, int_lt, if◌then◌else◌}
use Rattle.std.specs.Ordering.{int_eq}
use Rattle.std.proofs.lemmas.Int.{ints}
use Rattle.std.proofs.lemmas.Bool.{eqb-true, false≢true}
use Rattle.std.proofs.lemmas.Bool.Decides.{Decides-int_eq}
use Rattle.theory_numbers.proofs.Shapes.{var, num, plus, times, equal}
use Rattle.sb_fraction.specs.Spots.{Vector, vector, inner}
use Rattle.theory_turns.specs.Turns.{Quarter, y_of, mixed, turned_by, is_signed_axis}
use Rattle.theory_turns.proofs.UprightTriples.{IsUpright, same_vector}
use Rattle.theory_turns.proofs.SignedAxes.{axis_of_length}
use Rattle.theory_turns.proofs.TurnsCompose.{inner-stays}
use Rattle.sb_model.specs.Frames.{sum_of}
use Rattle.sb_prism.specs.Moved.{depth_on}

-- ---- sums

mixed-sum : (v w : Vector) (a b c : ℤ) → mixed (sum_of v w) a b c ≡ mixed v a b c +ℤ mixed w a b c
mixed-sum v w a b c =
    equal
    (plus (plus (times (var a) (plus (var v.x) (var w.x))) (times (var b) (plus (var v.y) (var w.y))))
    (times (var c) (plus (var v.z) (var w.z))))
    (plus (plus (plus (times (var a) (var v.x)) (times (var b) (var v.y))) (times (var c) (var v.z)))
    (plus (plus (times (var a) (var w.x)) (times (var b) (var w.y))) (times (var c) (var w.z))))
    (omega arith)

-- a sum is turned item by item
pub turned-sum : (q : Quarter) (v w : Vector) → turned_by q (sum_of v w) ≡ sum_of (turned_by q v) (turned_by q w)
turned-sum q v w =
    same_vector (mixed-sum v w q.x.x (y_of q).x q.z.x) (mixed-sum v w q.x.y (y_of q).y q.z.y)
    (mixed-sum v w q.x.z (y_of q).z q.z.z)

add_none : (a : ℤ) → a +ℤ pos 0 ≡ a
add_none a = omega (arith, ints)

pub sum-none : (v : Vector) → sum_of v (vector (pos 0) (pos 0) (pos 0)) ≡ v
sum-none v = same_vector (add_none v.x) (add_none v.y) (add_none v.z)

swap_last : (a b c : ℤ) → (a +ℤ b) +ℤ c ≡ (a +ℤ c) +ℤ b
swap_last a b c = omega (arith, ints)

-- the order of what is added does not matter
pub sum-swapped : (u v w : Vector) → sum_of (sum_of u v) w ≡ sum_of (sum_of u w) v
sum-swapped u v w = same_vector (swap_last u.x v.x w.x) (swap_last u.y v.y w.y) (swap_last u.z v.z w.z)

-- ---- across a signed axis

by_sign : (c x : ℤ) → unsigned_abs c ≡ 1 → c *ℤ x ≡ pos 0 → x ≡ pos 0
by_sign c x one product = by (int_lt c (pos 0)) refl
  where
    up : c ≡ pos 1 → x ≡ pos 0
    up is =
        equal (var x) (times (num 1) (var x)) (omega arith) ∙ ap (λ k. k *ℤ x) (sym is) ∙ product

    down : c ≡ neg_ℤ (pos 1) → x ≡ pos 0
    down is =
        let same : neg_ℤ (pos 1) *ℤ x ≡ pos 0 = ap (λ k. k *ℤ x) (sym is) ∙ product in
        omega (arith, ints, same)

    by : (t : Bool) → int_lt c (pos 0) ≡ t → x ≡ pos 0
    by true is = down (omega (arith, ints, one, is))
    by false is = up (omega (arith, ints, one, is))

-- the one number that is not 0
alone : (a b c x y z : ℤ) → (unsigned_abs a + unsigned_abs b) + unsigned_abs c ≡ 1 → (c ≡ pos 0 → ⊥)
    → ((a *ℤ x) +ℤ (b *ℤ y)) +ℤ (c *ℤ z) ≡ pos 0 → z ≡ pos 0
alone a b c x y z one there across =
    let a_is : a ≡ pos 0 = omega (arith, ints, one, there) in
    let b_is : b ≡ pos 0 = omega (arith, ints, one, there) in
    let size : unsigned_abs c ≡ 1 = omega (arith, ints, one, there) in
    by_sign c z size
    (equal (times (var c) (var z)) (plus (plus (times (num 0) (var x)) (times (num 0) (var y))) (times (var c) (var z))) (omega arith)
    ∙ ap₂ (λ k l. ((k *ℤ x) +ℤ (l *ℤ y)) +ℤ (c *ℤ z)) (sym a_is) (sym b_is) ∙ across)

rotated : (a b c : ℤ) → (a +ℤ b) +ℤ c ≡ (b +ℤ c) +ℤ a
rotated a b c = omega (arith, ints)

is_there : (a : ℤ) → int_eq a (pos 0) ≡ false → a ≡ pos 0 → ⊥
is_there a test is = false≢true (sym test ∙ (Decides-int_eq a (pos 0)).1 is)

-- what stands at right angles to a signed axis lies at 0 along it
pub across_is_level : (w t : Vector) → is_signed_axis w ≡ true → inner w t ≡ pos 0 → depth_on w t ≡ pos 0
across_is_level w t axis across = by (int_eq w.z (pos 0)) refl (int_eq w.x (pos 0)) refl
  where
    one : (unsigned_abs w.x + unsigned_abs w.y) + unsigned_abs w.z ≡ 1
    one = eqb-true (unsigned_abs w.x + unsigned_abs w.y + unsigned_abs w.z) 1 axis

    one_y : (unsigned_abs w.z + unsigned_abs w.x) + unsigned_abs w.y ≡ 1
    one_y = omega (arith, one)

    one_x : (unsigned_abs w.y + unsigned_abs w.z) + unsigned_abs w.x ≡ 1
    one_x = omega (arith, one)

    by : (level : Bool) → int_eq w.z (pos 0) ≡ level → (side : Bool) → int_eq w.x (pos 0) ≡ side
        → (if level then (if side then t.y else t.x) else t.z) ≡ pos 0
    by false is side side_is = alone w.x w.y w.z t.x t.y t.z one (is_there w.z is) across
    by true is true side_is =
        alone w.z w.x w.y t.z t.x t.y one_y
        (λ none_too.
        let x_is = (Decides-int_eq w.x (pos 0)).0 side_is in
        let z_is = (Decides-int_eq w.z (pos 0)).0 is in
        absurd (omega (arith, ints, one, x_is, z_is, none_too)))
        (rotated (w.z *ℤ t.z) (w.x *ℤ t.x) (w.y *ℤ t.y) ∙ across)
    by true is false side_is =
        alone w.y w.z w.x t.y t.z t.x one_x (is_there w.x side_is)
        (sym (rotated (w.x *ℤ t.x) (w.y *ℤ t.y) (w.z *ℤ t.z)) ∙ across)

-- ---- turned twice

-- turned, and turned again
abbrev pub twice : Quarter → Quarter → Vector → Vector
twice q r v = turned_by q (turned_by r v)

-- carried by a frame of this turn and shift, and then by another
abbrev pub carried_twice : Quarter → Quarter → Vector → Vector → Vector → Vector
carried_twice q r inside outside p = sum_of (turned_by q (sum_of (turned_by r p) inside)) outside

-- where the local z goes
abbrev pub axis_of : Quarter → Quarter → Vector
axis_of q r = twice q r (vector (pos 0) (pos 0) (pos 1))

sum-grouped : (u v w : Vector) → sum_of (sum_of u v) w ≡ sum_of u (sum_of v w)
sum-grouped u v w =
    same_vector (grouped u.x v.x w.x) (grouped u.y v.y w.y) (grouped u.z v.z w.z)
  where
    grouped : (a b c : ℤ) → (a +ℤ b) +ℤ c ≡ a +ℤ (b +ℤ c)
    grouped a b c = omega (arith, ints)

-- the point turned, and then both shifts
carried-is : (q r : Quarter) (inside outside p : Vector)
    → carried_twice q r inside outside p ≡ sum_of (twice q r p) (sum_of (turned_by q inside) outside)
carried-is q r inside outside p =
    ap (λ v. sum_of v outside) (turned-sum q (turned_by r p) inside)
    ∙ sum-grouped (twice q r p) (turned_by q inside) outside

-- a point farther along a way lies farther along that way, turned
pub farther-is : (q r : Quarter) (inside outside p way : Vector)
    → carried_twice q r inside outside (sum_of p way) ≡ sum_of (carried_twice q r inside outside p) (twice q r way)
farther-is q r inside outside p way =
    carried-is q r inside outside (sum_of p way)
    ∙ ap (λ v. sum_of v (sum_of (turned_by q inside) outside))
    (ap (turned_by q) (turned-sum r p way) ∙ turned-sum q (turned_by r p) (turned_by r way))
    ∙ sum-swapped (twice q r p) (twice q r way) (sum_of (turned_by q inside) outside)
    ∙ ap (λ v. sum_of v (twice q r way)) (sym (carried-is q r inside outside p))

-- ---- how far along the axis

pub depth-sum : (w a b : Vector) → depth_on w (sum_of a b) ≡ depth_on w a +ℤ depth_on w b
depth-sum w a b = by (int_eq w.z (pos 0)) (int_eq w.x (pos 0))
  where
    by : (level side : Bool)
        → (if level then (if side then a.y +ℤ b.y else a.x +ℤ b.x) else a.z +ℤ b.z)
        ≡ (if level then (if side then a.y else a.x) else a.z) +ℤ (if level then (if side then b.y else b.x) else b.z)
    by true true = refl
    by true false = refl
    by false side = refl

module _ (q r : Quarter) (q_up : IsUpright q) (r_up : IsUpright r)
  where
    axis_is_signed : is_signed_axis (axis_of q r) ≡ true
    axis_is_signed =
        axis_of_length (axis_of q r)
        (inner-stays q (turned_by r (vector (pos 0) (pos 0) (pos 1))) (turned_by r (vector (pos 0) (pos 0) (pos 1))) q_up
        ∙ inner-stays r (vector (pos 0) (pos 0) (pos 1)) (vector (pos 0) (pos 0) (pos 1)) r_up)

    -- a point of the plane z = 0
    level : (p : Vector) → p.z ≡ pos 0 → depth_on (axis_of q r) (twice q r p) ≡ pos 0
    level p flat =
        across_is_level (axis_of q r) (twice q r p) axis_is_signed
        (inner-stays q (turned_by r (vector (pos 0) (pos 0) (pos 1))) (turned_by r p) q_up
        ∙ inner-stays r (vector (pos 0) (pos 0) (pos 1)) p r_up
        ∙ equal (plus (plus (times (num 0) (var p.x)) (times (num 0) (var p.y))) (times (num 1) (var p.z))) (var p.z) (omega arith)
        ∙ flat)

    module _ (inside outside : Vector)
      where
        carried_level : (p : Vector) → p.z ≡ pos 0
            → depth_on (axis_of q r) (carried_twice q r inside outside p)
            ≡ depth_on (axis_of q r) (sum_of (turned_by q inside) outside)
        carried_level p flat =
            ap (depth_on (axis_of q r)) (carried-is q r inside outside p)
            ∙ depth-sum (axis_of q r) (twice q r p) (sum_of (turned_by q inside) outside)
            ∙ ap (λ k. k +ℤ depth_on (axis_of q r) (sum_of (turned_by q inside) outside)) (level p flat)
            ∙ nothing_more (depth_on (axis_of q r) (sum_of (turned_by q inside) outside))
          where
            nothing_more : (k : ℤ) → pos 0 +ℤ k ≡ k
            nothing_more k = omega (arith, ints)

        -- all points of that plane lie equally far along the axis
        pub near_depth : (p o : Vector) → p.z ≡ pos 0 → o.z ≡ pos 0
            → depth_on (axis_of q r) (carried_twice q r inside outside p)
            ≡ depth_on (axis_of q r) (carried_twice q r inside outside o)
        near_depth p o flat too = carried_level p flat ∙ sym (carried_level o too)

        -- and all that lie a way farther
        pub far_depth : (way p o : Vector) → p.z ≡ pos 0 → o.z ≡ pos 0
            → depth_on (axis_of q r) (carried_twice q r inside outside (sum_of p way))
            ≡ depth_on (axis_of q r) (carried_twice q r inside outside (sum_of o way))
        far_depth way p o flat too =
            ap (depth_on (axis_of q r)) (farther-is q r inside outside p way)
            ∙ depth-sum (axis_of q r) (carried_twice q r inside outside p) (twice q r way)
            ∙ ap (λ k. k +ℤ depth_on (axis_of q r) (twice q r way)) (near_depth p o flat too)
            ∙ sym (depth-sum (axis_of q r) (carried_twice q r inside outside o) (twice q r way))
            ∙ ap (depth_on (axis_of q r)) (sym (farther-is q r inside outside o way))
