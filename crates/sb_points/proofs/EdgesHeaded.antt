-- The direction of an edge that is not along y is its slope in lowest terms; it runs along it where x
-- grows.

use Rattle.std.proofs.Common.{ℕ, ℤ, pos, negsuc, neg_ℤ, suc, zero, ◌≡◌, ◌≤◌, ◌<ℤ◌, ◌-ℤ◌, ◌/◌, ◌∙◌, ap, sym, refl, arith}
use Rattle.std.proofs.Common.{nat_eq, ◌⊎◌, inl, inr, ◌≤ℤ◌, subst, ap₂, Bool, true, false, not, ◌&&◌, ◌||◌, IsTrue, unsigned_abs, int_lt, le_trans, lit≤}
use Rattle.std.specs.Ordering.{int_eq}
use Rattle.std.proofs.lemmas.Int.{to_z-of_z, ints}
use Rattle.std.proofs.lemmas.Bool.{and_from, and_parts, le-leb}
use Rattle.std.proofs.lemmas.Nat.Gcd.{same_from_IsGcd}
use Rattle.std.proofs.Math.Nat.{div-le_self, zero-div}
use Rattle.std.proofs.Math.IntN.{neg_ℤ-neg_ℤ}
use Rattle.theory_numbers.specs.Divisors.{greatest_divisor, are_coprime, divisor_within}
use Rattle.theory_numbers.specs.Fractions.{Ratio, divided, reduced, is_lowest}
use Rattle.theory_numbers.proofs.Fractions.GreatestDivisor.{greatest_divisor_is}
use Rattle.theory_numbers.proofs.Fractions.LowestTerms.{abs-divided, reduced_is_lowest}
use Rattle.theory_numbers.proofs.Signs.{test_less, test_not_less, test_not_equal, less_from}
use Rattle.theory_numbers.proofs.Signs.{not_less_from, order_cases}
use Rattle.theory_plans.proofs.Edges.DirectionsAlongAxes.{headed_along_y}
use Rattle.std.proofs.lemmas.Bool.{false≢true}
use Rattle.std.proofs.lemmas.Bool.Decides.{Decides-int_eq}
use Rattle.theory_plans.proofs.Edges.StepsOfEdges.{direction_along, direction_against}
use Rattle.sb_fraction.specs.declared.point.Point.{Point}
use Rattle.sb_fraction.specs.Plane.{are_two_points, longest_step}
use Rattle.sb_fraction.specs.Plane.{is_forward, is_direction}
use Rattle.sb_fraction.specs.Bounds.{greatest_num, greatest_den}
use Rattle.sb_fraction.specs.Numbers.{ratio}
use Rattle.sb_fraction.specs.Spots.{Vector, vector, opposite}
use Rattle.sb_fraction.specs.Edges.{Edge, edge}
use Rattle.sb_fraction.specs.Directions.{axis_y, step, runs_along, direction_of}

-- the greatest divisor does not know the order of its two numbers
divisor_of_both : (a b : ℕ) → greatest_divisor a b ≡ greatest_divisor b a
divisor_of_both a b =
    let left = greatest_divisor_is a b in
    let right = greatest_divisor_is b a in
    same_from_IsGcd a b _ _ left (right.1, right.0, λ d x y. right.2 d y x)

-- a number with its sign changed is divided to one with its sign changed
divided-neg : (z : ℤ) (d : ℕ) → divided (neg_ℤ z) d ≡ neg_ℤ (divided z d)
divided-neg (pos zero) d =
    ap pos (zero-div d) ∙ sym (ap (λ n. neg_ℤ (pos n)) (zero-div d))
divided-neg (pos (suc n)) d = refl
divided-neg (negsuc n) d = sym (neg_ℤ-neg_ℤ (pos (suc n / d)))

-- two numbers divided by their greatest divisor
abbrev way : ℤ → ℤ → Vector
way x y =
    let common = greatest_divisor (unsigned_abs x) (unsigned_abs y) in
    vector (divided x common) (divided y common) (pos 0)

-- the way to the right by a slope in lowest terms
abbrev pub along : Ratio → Vector
along slope = vector slope.den slope.num (pos 0)

way_is_slope : (x y : ℤ) → way x y ≡ along (reduced y x)
unfolding reduced
way_is_slope x y =
    ap (λ g. vector (divided x g) (divided y g) (pos 0))
    (divisor_of_both (unsigned_abs x) (unsigned_abs y))

abs-neg : (z : ℤ) → unsigned_abs (neg_ℤ z) ≡ unsigned_abs z
abs-neg z = omega (arith, ints)

way-back : (x y : ℤ) → way (neg_ℤ x) (neg_ℤ y) ≡ opposite (way x y)
way-back x y =
    rw (abs-neg x, abs-neg y)
    (both (divided-neg x (greatest_divisor (unsigned_abs x) (unsigned_abs y)))
    (divided-neg y (greatest_divisor (unsigned_abs x) (unsigned_abs y))))
  where
    both : {p q r s : ℤ} → p ≡ r → q ≡ s → vector p q (pos 0) ≡ vector r s (pos 0)
    both {p} {q} {r} {s} first second =
        ap (λ t. vector t q (pos 0)) first ∙ ap (λ t. vector r t (pos 0)) second

turned_back : (s : Ratio) → opposite (opposite (along s)) ≡ along s
turned_back s =
    ap (λ t. vector t (neg_ℤ (neg_ℤ s.num)) (pos 0)) (neg_ℤ-neg_ℤ s.den)
    ∙ ap (λ t. vector s.den t (pos 0)) (neg_ℤ-neg_ℤ s.num)

-- the denominator of a slope is positive
slope_runs_right : (x y : ℤ) → pos 0 <ℤ x → pos 0 <ℤ (reduced y x).den
slope_runs_right x y positive =
    less_from (pos 0) (reduced y x).den
    (and_parts (int_lt (pos 0) (reduced y x).den) _ (reduced_is_lowest y x positive)).0

forward_right : (d n : ℤ) → pos 0 <ℤ d → is_forward d n ≡ true
forward_right d n positive = rw (test_less (pos 0) d positive) refl

not_zero : (d : ℤ) → pos 0 <ℤ d → neg_ℤ d ≡ pos 0 → ⊥
not_zero d positive same = omega (arith, ints)

neither : (p q r : Bool) → p ≡ false → q ≡ false → (p || (q && r)) ≡ false
neither p q r p_is q_is = rw (p_is, q_is) refl

not_forward_left : (d n : ℤ) → pos 0 <ℤ d → is_forward (neg_ℤ d) (neg_ℤ n) ≡ false
not_forward_left d n positive =
    neither (int_lt (pos 0) (neg_ℤ d)) (int_eq (neg_ℤ d) (pos 0)) (int_eq (neg_ℤ n) (pos 1))
    (test_not_less (pos 0) (neg_ℤ d) (omega (arith, ints)))
    (test_not_equal (neg_ℤ d) (pos 0) (not_zero d positive))

-- the step of an edge
step_is_way : (e : Edge) → step e ≡ way (e.b.x -ℤ e.a.x) (e.b.y -ℤ e.a.y)
unfolding step
step_is_way e = refl

runs_by_step : (e : Edge) (v : Vector) → step e ≡ v → runs_along e ≡ is_forward v.x v.y
unfolding runs_along
runs_by_step e v is = rw is refl

to_right : (a b : ℤ) → a <ℤ b → pos 0 <ℤ (b -ℤ a)
to_right a b less = omega (arith, ints)

back : (a b : ℤ) → b -ℤ a ≡ neg_ℤ (a -ℤ b)
back a b = omega (arith, ints)

-- which way an edge runs that goes to greater x, and its direction
pub headed_right : (a b : Point) (x y : ℤ) → x ≡ b.x -ℤ a.x → y ≡ b.y -ℤ a.y → a.x <ℤ b.x
    → (runs_along (edge a b) ≡ true) × (along (reduced y x) ≡ direction_of (edge a b))
headed_right a b x y x_is y_is less =
    let is : step (edge a b) ≡ along (reduced y x) =
    step_is_way (edge a b) ∙ way_is_slope (b.x -ℤ a.x) (b.y -ℤ a.y)
    ∙ sym (ap₂ (λ s t. along (reduced s t)) y_is x_is) in
    let positive = subst (λ t. pos 0 <ℤ t) (sym x_is) (to_right a.x b.x less) in
    let runs = runs_by_step (edge a b) (along (reduced y x)) is
    ∙ forward_right (reduced y x).den (reduced y x).num (slope_runs_right x y positive) in
    (runs, sym (direction_along (edge a b) runs ∙ is))

-- and of one that goes to lesser x
pub headed_left : (a b : Point) (x y : ℤ) → x ≡ a.x -ℤ b.x → y ≡ a.y -ℤ b.y → b.x <ℤ a.x
    → (runs_along (edge a b) ≡ false) × (along (reduced y x) ≡ direction_of (edge a b))
headed_left a b x y x_is y_is less =
    let is : step (edge a b) ≡ opposite (along (reduced y x)) =
    step_is_way (edge a b) ∙ ap₂ way (back a.x b.x) (back a.y b.y)
    ∙ way-back (a.x -ℤ b.x) (a.y -ℤ b.y)
    ∙ ap opposite (way_is_slope (a.x -ℤ b.x) (a.y -ℤ b.y)
    ∙ sym (ap₂ (λ s t. along (reduced s t)) y_is x_is)) in
    let positive = subst (λ t. pos 0 <ℤ t) (sym x_is) (to_right b.x a.x less) in
    let runs = runs_by_step (edge a b) (opposite (along (reduced y x))) is
    ∙ not_forward_left (reduced y x).den (reduced y x).num (slope_runs_right x y positive) in
    (runs, sym (direction_against (edge a b) runs ∙ ap opposite is ∙ turned_back (reduced y x)))

-- of two numbers that differ the second is less where the first is not
pub less_elsewhere : (a b : ℤ) → (a ≡ b → ⊥) → int_lt a b ≡ false → b <ℤ a
less_elsewhere a b other not_less =
    let least = not_less_from a b not_less in
    from (order_cases a b) least
  where
    from : ((a <ℤ b) ⊎ (a ≡ b)) ⊎ (b <ℤ a) → b ≤ℤ a → b <ℤ a
    from (inl (inl less)) least = absurd (omega (arith, ints))
    from (inl (inr same)) least = absurd (other same)
    from (inr more) least = more

-- (0, 1) is a direction
pub up_is_direction : IsTrue (is_direction (pos 0) (pos 1))
unfolding greatest_divisor divisor_within
up_is_direction = refl

not_apart : (ax ay bx by : ℤ) → ax ≡ bx → ay ≡ by → are_two_points ax ay bx by ≡ false
not_apart ax ay bx by x y =
    ap not (and_from (int_eq ax bx) (int_eq ay by) ((Decides-int_eq ax bx).1 x)
    ((Decides-int_eq ay by).1 y))

-- an edge along y has this direction, and runs along it where y grows
pub headed_up : (a b : Point) → IsTrue (are_two_points a.x a.y b.x b.y) → a.x ≡ b.x
    → (runs_along (edge a b) ≡ int_lt a.y b.y) × (direction_of (edge a b) ≡ axis_y)
headed_up a b apart upright =
    let is = headed_along_y (edge a b) upright
    (λ level. false≢true (sym (not_apart a.x a.y b.x b.y upright level) ∙ apart)) in
    (is.runs_is, is.direction_is)

short : (z : ℤ) (g : ℕ) → unsigned_abs z ≤ longest_step → unsigned_abs (divided z g) ≤ longest_step
short z g size =
    let less = div-le_self (unsigned_abs z) g in
    let same = abs-divided z g in
    omega arith

num_in : (y x : ℤ) → unsigned_abs y ≤ longest_step → unsigned_abs (reduced y x).num ≤ longest_step
unfolding reduced
num_in y x size = short y (greatest_divisor (unsigned_abs y) (unsigned_abs x)) size

den_in : (y x : ℤ) → unsigned_abs x ≤ longest_step → unsigned_abs (reduced y x).den ≤ longest_step
unfolding reduced
den_in y x size = short x (greatest_divisor (unsigned_abs y) (unsigned_abs x)) size

-- the numbers of a slope in lowest terms are those of a direction
pub slope_is_direction : (x y n d : ℤ) → pos 0 <ℤ x → unsigned_abs x ≤ longest_step
    → unsigned_abs y ≤ longest_step → ratio n d ≡ reduced y x → IsTrue (is_direction d n)
slope_is_direction x y n d positive x_in y_in is =
    let num_is = ap (λ (r : Ratio). r.num) is in
    let den_is = ap (λ (r : Ratio). r.den) is in
    let n_in = subst (λ t. unsigned_abs t ≤ longest_step) (sym num_is) (num_in y x y_in) in
    let d_in = subst (λ t. unsigned_abs t ≤ longest_step) (sym den_is) (den_in y x x_in) in
    let lowest = and_parts (int_lt (pos 0) d) (are_coprime (unsigned_abs n) (unsigned_abs d))
    (subst (λ r. is_lowest r ≡ true) (sym is) (reduced_is_lowest y x positive)) in
    let coprime = ap (λ g. nat_eq g 1) (divisor_of_both (unsigned_abs d) (unsigned_abs n)) ∙ lowest.1 in
    rw (coprime, forward_right d n (less_from (pos 0) d lowest.0), le-leb _ _ n_in, le-leb _ _ d_in) refl

-- numbers of such sizes may be divided
pub step_is_num : (z : ℤ) → unsigned_abs z ≤ longest_step → unsigned_abs z ≤ greatest_num
step_is_num z size = le_trans size (lit≤ tt)

pub step_is_den : (z : ℤ) → unsigned_abs z ≤ longest_step → unsigned_abs z ≤ greatest_den
step_is_den z size = le_trans size (lit≤ tt)

-- for directions
pub ruleset headings = (to_z-of_z, step_is_num, step_is_den, slope_is_direction)
