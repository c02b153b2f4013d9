-- The line along the way of the sweep passes points in range in the order by x and then by y.

use Rattle.std.proofs.Common.{◌≡◌, ◌⊎◌, inl, inr, sym, ap, arith, ℤ, pos}
use Rattle.std.proofs.Common.{◌<ℤ◌, ◌≤ℤ◌, ◌+ℤ◌, ◌*ℤ◌, true, ◌&&◌, int_lt}
use Rattle.std.proofs.Common.{neg_ℤ, ap₂, negsuc}
use Rattle.std.specs.Ordering.{int_eq}
use Rattle.std.proofs.lemmas.Int.{ints}
use Rattle.std.proofs.lemmas.Bool.{and_parts, and_from, or_left, or_right, or_cases}
use Rattle.std.proofs.lemmas.Bool.Decides.{Decides-int_eq}
use Rattle.theory_numbers.specs.Arrows.{dot}
use Rattle.theory_numbers.proofs.Signs.{less_from, test_less, order_cases}
use Rattle.theory_numbers.proofs.Shapes.{var, num, plus, times, equal}
use Rattle.sb_fraction.specs.declared.point.Point.{Point}
use Rattle.sb_fraction.specs.Plane.{is_plan_point, is_coordinate}
use Rattle.theory_plans.specs.Loops.{comes_before}
use Rattle.theory_parity.specs.Below.{IsWay}
use Rattle.theory_sweep.specs.Passing.{pass_of, sweep_way}

-- it is a way
pub sweep_is_way : IsWay sweep_way
unfolding dot
sweep_is_way = omega (arith, ints)

-- the number, by the coordinates
pub pass_is : (p : Point) → pass_of sweep_way p ≡ (pos 1000001 *ℤ p.x) +ℤ p.y
pass_is p =
    equal (plus (times (var p.x) (num 1000001)) (times (var p.y) (num 1)))
    (plus (times (num 1000001) (var p.x)) (var p.y)) (omega arith)

-- a coordinate, as a fact
record IsWithin (n : ℤ) : Type 0 where
  low : neg_ℤ (pos 500000) ≤ℤ n
  high : n ≤ℤ pos 500000

within : (n : ℤ) → is_coordinate n ≡ true → IsWithin n
within n is = record { low = grind (arith, ints); high = grind (arith, ints) }

less_by_x : (ax ay bx by m n : ℤ) → m ≡ (pos 1000001 *ℤ ax) +ℤ ay → n ≡ (pos 1000001 *ℤ bx) +ℤ by
    → IsWithin ay → IsWithin by → ax <ℤ bx → m <ℤ n
less_by_x ax ay bx by m n m_is n_is a_in b_in less =
    let a_high = a_in.high in
    let b_low = b_in.low in
    omega (arith, ints)

less_by_y : (ax ay bx by m n : ℤ) → m ≡ (pos 1000001 *ℤ ax) +ℤ ay → n ≡ (pos 1000001 *ℤ bx) +ℤ by
    → ax ≡ bx → ay <ℤ by → m <ℤ n
less_by_y ax ay bx by m n m_is n_is same less = omega (arith, ints)

-- of points in range the one that comes before is passed first
pub passed_first : (a b : Point) → is_plan_point a ≡ true → is_plan_point b ≡ true
    → comes_before a b ≡ true → pass_of sweep_way a <ℤ pass_of sweep_way b
passed_first a b a_in b_in before =
    from
    (or_cases (int_lt a.x b.x) (int_eq a.x b.x && int_lt a.y b.y) before)
  where
    a_parts : (is_coordinate a.x ≡ true) × (is_coordinate a.y ≡ true)
    a_parts = and_parts (is_coordinate a.x) (is_coordinate a.y) a_in

    b_parts : (is_coordinate b.x ≡ true) × (is_coordinate b.y ≡ true)
    b_parts = and_parts (is_coordinate b.x) (is_coordinate b.y) b_in

    from : (int_lt a.x b.x ≡ true) ⊎ ((int_eq a.x b.x && int_lt a.y b.y) ≡ true)
        → pass_of sweep_way a <ℤ pass_of sweep_way b
    from (inl less) =
        less_by_x a.x a.y b.x b.y (pass_of sweep_way a) (pass_of sweep_way b) (pass_is a)
        (pass_is b)
        (within a.y a_parts.1) (within b.y b_parts.1) (less_from a.x b.x less)
    from (inr same) =
        let parts = and_parts (int_eq a.x b.x) (int_lt a.y b.y) same in
        less_by_y a.x a.y b.x b.y (pass_of sweep_way a) (pass_of sweep_way b) (pass_is a)
        (pass_is b)
        ((Decides-int_eq a.x b.x).0 parts.0) (less_from a.y b.y parts.1)

-- two different points come one before the other
pub one_before : (a b : Point) → (a ≡ b) ⊎ ((comes_before a b ≡ true) ⊎ (comes_before b a ≡ true))
one_before a b = from (order_cases a.x b.x) (order_cases a.y b.y)
  where
    same : a.x ≡ b.x → a.y ≡ b.y → a ≡ b
    same x y =
        let at : Point → ℤ → ℤ → Point = λ p x y. record p { x = x; y = y } in
        ap₂ (at a) x y

    from : ((a.x <ℤ b.x) ⊎ (a.x ≡ b.x)) ⊎ (b.x <ℤ a.x)
        → ((a.y <ℤ b.y) ⊎ (a.y ≡ b.y)) ⊎ (b.y <ℤ a.y)
        → (a ≡ b) ⊎ ((comes_before a b ≡ true) ⊎ (comes_before b a ≡ true))
    from (inl (inl less)) other =
        inr (inl (or_left (int_lt a.x b.x) (int_eq a.x b.x && int_lt a.y b.y)
        (test_less a.x b.x less)))
    from (inr more) other =
        inr (inr (or_left (int_lt b.x a.x) (int_eq b.x a.x && int_lt b.y a.y)
        (test_less b.x a.x more)))
    from (inl (inr x)) (inl (inl less)) =
        inr (inl (or_right (int_lt a.x b.x) (int_eq a.x b.x && int_lt a.y b.y)
        (and_from (int_eq a.x b.x) (int_lt a.y b.y) ((Decides-int_eq a.x b.x).1 x)
        (test_less a.y b.y less))))
    from (inl (inr x)) (inr more) =
        inr (inr (or_right (int_lt b.x a.x) (int_eq b.x a.x && int_lt b.y a.y)
        (and_from (int_eq b.x a.x) (int_lt b.y a.y) ((Decides-int_eq b.x a.x).1 (sym x))
        (test_less b.y a.y more))))
    from (inl (inr x)) (inl (inr y)) = inl (same x y)

-- so each that is passed first comes before
pub before_if_first : (a b : Point) → is_plan_point a ≡ true → is_plan_point b ≡ true
    → pass_of sweep_way a <ℤ pass_of sweep_way b → comes_before a b ≡ true
before_if_first a b a_in b_in less = from (one_before a b)
  where
    from : (a ≡ b) ⊎ ((comes_before a b ≡ true) ⊎ (comes_before b a ≡ true))
        → comes_before a b ≡ true
    from (inl one) = let same = ap (pass_of sweep_way) one in absurd (omega (arith, ints))
    from (inr (inl before)) = before
    from (inr (inr after)) =
        let more = passed_first b a b_in a_in after in absurd (omega (arith, ints))

-- they are all passed after this number
pub passed_late : (p : Point) → is_plan_point p ≡ true
    → negsuc 500001000000 <ℤ pass_of sweep_way p
passed_late p p_in =
    let parts = and_parts (is_coordinate p.x) (is_coordinate p.y) p_in in
    late p.x p.y (pass_of sweep_way p) (pass_is p) (within p.x parts.0) (within p.y parts.1)
  where
    late : (x y m : ℤ) → m ≡ (pos 1000001 *ℤ x) +ℤ y → IsWithin x → IsWithin y
        → negsuc 500001000000 <ℤ m
    late x y m m_is x_in y_in =
        let x_low = x_in.low in
        let y_low = y_in.low in
        omega (arith, ints)
