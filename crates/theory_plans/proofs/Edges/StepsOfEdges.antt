-- The step of any edge: the way from end to end is a positive multiple of it, its numbers have no
-- common divisor and are at most 10^6 in size. So the direction of an edge is one.

use Rattle.std.proofs.Common.{◌≡◌, ◌⊎◌, inl, inr, refl, ap, sym, ◌∙◌, arith, ℕ, zero, suc, ℤ}
use Rattle.std.proofs.Common.{pos, negsuc, neg_ℤ, ◌*◌, ◌/◌, ◌<◌, ◌≤◌, ◌-ℤ◌, ◌*ℤ◌, ◌<ℤ◌, Bool}
use Rattle.std.proofs.Common.{true, false, not, ◌&&◌, unsigned_abs, int_lt}
use Rattle.std.proofs.Common.{subst, if◌then◌else◌}
use Rattle.std.specs.Int.{IsGcd, ◌∣◌}
use Rattle.std.specs.Ordering.{int_eq}
use Rattle.std.proofs.lemmas.Int.{ints}
use Rattle.std.proofs.lemmas.Bool.{and_from, and_parts, or_left, le-leb, eq-eqb, eqb-true, false≢true}
use Rattle.std.proofs.lemmas.Bool.Decides.{Decides-int_eq}
use Rattle.std.proofs.lemmas.Nat.Gcd.{same_from_IsGcd}
use Rattle.std.proofs.Math.Nat.{div-mul_cancel, div-le_self}
use Rattle.theory_numbers.specs.Divisors.{greatest_divisor, are_coprime}
use Rattle.theory_numbers.specs.Fractions.{divided}
use Rattle.theory_numbers.proofs.Fractions.GreatestDivisor.{greatest_divisor_is, divisor_is_positive}
use Rattle.theory_numbers.proofs.Fractions.GreatestDivisor.{quotients_are_coprime, greatest_divisor-zero}
use Rattle.theory_numbers.proofs.Fractions.GreatestDivisor.{zero-greatest_divisor}
use Rattle.theory_numbers.proofs.Signs.{sign_cases, test_less}
use Rattle.theory_numbers.proofs.Fractions.LowestTerms.{abs-divided, times_quotient}
use Rattle.sb_fraction.specs.Plane.{is_plan_point, is_coordinate, longest_step}
use Rattle.sb_fraction.specs.Plane.{is_forward, is_direction}
use Rattle.sb_fraction.specs.Spots.{vector, opposite}
use Rattle.sb_fraction.specs.Edges.{Edge, span_of}
use Rattle.sb_fraction.specs.Directions.{step, runs_along, direction_of}
use Rattle.theory_plans.specs.Plans.{is_same_point}
use Rattle.theory_plans.proofs.Edges.EdgesOfPlans.{is_proper_edge}

-- ---- numbers divided by their greatest common divisor

-- two numbers that are not both 0 have a positive divisor
some_divisor : (a b : ℕ) → (a ≡ 0 → b ≡ 0 → ⊥) → 0 < greatest_divisor a b
some_divisor zero zero apart = absurd (apart refl refl)
some_divisor (suc a) zero apart =
    subst (λ n. 0 < n) (sym (greatest_divisor-zero (suc a))) (omega arith)
some_divisor a (suc b) apart = divisor_is_positive a (suc b) (omega arith)

-- what is left has none
quotients_coprime : (x y : ℤ) (g : ℕ) → 0 < g → IsGcd (unsigned_abs x) (unsigned_abs y) g
    → are_coprime (unsigned_abs (divided x g)) (unsigned_abs (divided y g)) ≡ true
quotients_coprime x y g positive common =
    rw (abs-divided x g, abs-divided y g)
    (eq-eqb _ _ (same_from_IsGcd _ _ _ _ (greatest_divisor_is _ _)
    (quotients_are_coprime _ _ g positive common)))

quotient_in : (z : ℤ) (g : ℕ) → unsigned_abs z ≤ longest_step
    → unsigned_abs (divided z g) ≤ longest_step
quotient_in z g size =
    let less = div-le_self (unsigned_abs z) g in
    let same = abs-divided z g in
    omega arith

-- ---- steps

-- two coordinates in range are at most 10^6 apart
apart_in : (a b : ℤ) → is_coordinate a ≡ true → is_coordinate b ≡ true
    → unsigned_abs (b -ℤ a) ≤ longest_step
apart_in a b a_in b_in = grind (arith, ints)

no_size : (z : ℤ) → unsigned_abs z ≡ 0 → z ≡ pos 0
no_size (pos zero) none = refl
no_size (pos (suc n)) none = absurd (omega arith)
no_size (negsuc n) none = absurd (omega arith)

no_way : (a b : ℤ) → b -ℤ a ≡ pos 0 → int_eq a b ≡ true
no_way a b none = (Decides-int_eq a b).1 (omega (arith, ints))

-- what holds of the step of an edge
pub record IsStep (e : Edge) : Type 0 where
  pub times : ℕ
  pub positive : 0 < times
  pub x : (span_of e).x ≡ pos times *ℤ (step e).x
  pub y : (span_of e).y ≡ pos times *ℤ (step e).y
  pub level : (step e).z ≡ pos 0
  pub coprime : are_coprime (unsigned_abs (step e).x) (unsigned_abs (step e).y) ≡ true
  pub x_in : unsigned_abs (step e).x ≤ longest_step
  pub y_in : unsigned_abs (step e).y ≤ longest_step

-- what the test of an edge says
pub record IsProper (e : Edge) : Type 0 where
  pub a_in : is_plan_point e.a ≡ true
  pub b_in : is_plan_point e.b ≡ true
  pub differ : not (is_same_point e.a e.b) ≡ true

-- of each edge
pub proper_is : (e : Edge) → is_proper_edge e ≡ true → IsProper e
proper_is e is =
    let parts = and_parts (is_plan_point e.a && is_plan_point e.b) (not (is_same_point e.a e.b))
    is in
    let both = and_parts (is_plan_point e.a) (is_plan_point e.b) parts.0 in
    record { a_in = both.0; b_in = both.1; differ = parts.1 }

-- an edge between two points in range that differ is a positive multiple of its step, whose numbers
-- have no common divisor and are at most 10^6 in size
pub step_is : (e : Edge) → is_proper_edge e ≡ true → IsStep e
unfolding step
step_is e proper =
    let is = proper_is e proper in
    let a = and_parts (is_coordinate e.a.x) (is_coordinate e.a.y) is.a_in in
    let b = and_parts (is_coordinate e.b.x) (is_coordinate e.b.y) is.b_in in
    let x = e.b.x -ℤ e.a.x in
    let y = e.b.y -ℤ e.a.y in
    let g = greatest_divisor (unsigned_abs x) (unsigned_abs y) in
    let common : IsGcd (unsigned_abs x) (unsigned_abs y) g = greatest_divisor_is _ _ in
    let positive : 0 < g = some_divisor (unsigned_abs x) (unsigned_abs y) (λ none_x none_y.
    false≢true (ap not (sym (and_from (int_eq e.a.x e.b.x) (int_eq e.a.y e.b.y)
    (no_way e.a.x e.b.x (no_size x none_x)) (no_way e.a.y e.b.y (no_size y none_y)))) ∙ is.differ))
    in
    record {
      times = g;
      positive = positive;
      x = times_quotient x g common.0;
      y = times_quotient y g common.1;
      level = refl;
      coprime = quotients_coprime x y g positive common;
      x_in = quotient_in x g (apart_in e.a.x e.b.x a.0 b.0);
      y_in = quotient_in y g (apart_in e.a.y e.b.y a.1 b.1);
    }

-- ---- directions

abs-neg : (z : ℤ) → unsigned_abs (neg_ℤ z) ≡ unsigned_abs z
abs-neg z = omega (arith, ints)

forward_up : (x y : ℤ) → x ≡ pos 0 → y ≡ pos 1 → is_forward x y ≡ true
forward_up x y level up = rw (level, up) refl

-- of two opposite vectors without common divisor one is forward
forward_back : (x y : ℤ) → are_coprime (unsigned_abs x) (unsigned_abs y) ≡ true
    → is_forward x y ≡ false → is_forward (neg_ℤ x) (neg_ℤ y) ≡ true
forward_back x y coprime back = from (sign_cases x)
  where
    one_of : (z : ℤ) → unsigned_abs z ≡ 1 → (z ≡ pos 1 → ⊥) → neg_ℤ z ≡ pos 1
    one_of (pos n) size other = absurd (other (ap pos size))
    one_of (negsuc n) size other = omega (arith, ints)

    from : ((pos 0 <ℤ x) ⊎ (x ≡ pos 0)) ⊎ (x <ℤ pos 0) → is_forward (neg_ℤ x) (neg_ℤ y) ≡ true
    from (inl (inl above)) =
        absurd (false≢true (sym back ∙ or_left (int_lt (pos 0) x) _ (test_less (pos 0) x above)))
    from (inl (inr none)) =
        let size : unsigned_abs y ≡ 1 =
        sym (zero-greatest_divisor (unsigned_abs y))
        ∙ eqb-true (greatest_divisor 0 (unsigned_abs y)) 1
        (ap (λ n. are_coprime (unsigned_abs n) (unsigned_abs y)) (sym none) ∙ coprime) in
        forward_up (neg_ℤ x) (neg_ℤ y) (omega (arith, ints))
        (one_of y size (λ up. false≢true (sym back ∙ forward_up x y none up)))
    from (inr below) =
        or_left (int_lt (pos 0) (neg_ℤ x)) _ (test_less (pos 0) (neg_ℤ x) (omega (arith, ints)))

-- one of the two is a direction
turned_forward : (x y : ℤ) (b : Bool) → is_forward x y ≡ b
    → are_coprime (unsigned_abs x) (unsigned_abs y) ≡ true
    → unsigned_abs x ≤ longest_step → unsigned_abs y ≤ longest_step
    → is_direction (if b then vector x y (pos 0) else opposite (vector x y (pos 0))).x
    (if b then vector x y (pos 0) else opposite (vector x y (pos 0))).y ≡ true
turned_forward x y true forward coprime x_in y_in =
    rw (coprime, forward, le-leb _ _ x_in, le-leb _ _ y_in) refl
turned_forward x y false back coprime x_in y_in =
    rw (
      abs-neg x,
      abs-neg y,
      coprime,
      forward_back x y coprime back,
      le-leb _ _ x_in,
      le-leb _ _ y_in,
    ) refl

-- the direction of an edge is one
pub direction_is : (e : Edge) → is_proper_edge e ≡ true
    → is_direction (direction_of e).x (direction_of e).y ≡ true
unfolding direction_of runs_along step
direction_is e proper =
    let s = step_is e proper in
    turned_forward (step e).x (step e).y (is_forward (step e).x (step e).y) refl
    s.coprime s.x_in s.y_in

-- it is level
pub direction_is_level : (e : Edge) → (direction_of e).z ≡ pos 0
unfolding direction_of step
direction_is_level e = from (runs_along e)
  where
    from : (b : Bool) → (if b then step e else opposite (step e)).z ≡ pos 0
    from true = refl
    from false = refl

-- it is the step where the edge runs along it, and the opposite of the step elsewhere
pub direction_along : (e : Edge) → runs_along e ≡ true → direction_of e ≡ step e
unfolding direction_of
direction_along e along = rw along refl

-- against it
pub direction_against : (e : Edge) → runs_along e ≡ false → direction_of e ≡ opposite (step e)
unfolding direction_of
direction_against e against = rw against refl
