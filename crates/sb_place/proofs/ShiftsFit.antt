-- The origin of a placement, turned and shifted as those above it are, is not too far away.
use Rattle.std.proofs.Common.{ℕ, zero, suc, ℤ, pos, ◌+◌, ◌*◌, ◌≡◌, ◌≤◌, ◌<◌, ◌^◌, ◌+ℤ◌, ◌*ℤ◌, Bool, true, ◌&&◌, nat_le, IsTrue, List, [], ◌∷◌, arith, refl}
use Rattle.std.specs.Prelude.{unsigned_abs}
use Rattle.std.specs.List.{list_all}
use Rattle.std.proofs.lemmas.Int.{ints, unsigned_abs-mul}
use Rattle.std.proofs.lemmas.Bool.{and_parts, and_from, leb-true, le-leb}
use Rattle.sb_fixed.specs.Lengths.{greatest_nanometres}
use Rattle.sb_fraction.specs.Spots.{Vector, vector}
use Rattle.theory_turns.specs.Turns.{Quarter, is_quarter, y_of, mixed, turned_by}
use Rattle.theory_turns.proofs.SignedAxes.{units_of_axis, axis_of_length, upright_of_quarter}
use Rattle.theory_turns.proofs.UprightTriples.{yy}
use Rattle.sb_model.specs.Frames.{IsWithin, vector_of, numbers_of, sum_of, placed_by, are_framed}
use Rattle.sb_place.specs.Kept.{below}
use Rattle.sb_place.specs.Sizes.{are_lengths, fits_at}

-- each number is at most so great in size
abbrev are_within : ℕ → List ℤ → Bool
are_within n numbers = list_all (λ z. nat_le (unsigned_abs z) n) numbers

-- ---- a turned vector

at_most : (k n m : ℕ) → k ≤ 1 → n ≤ m → k * n ≤ m
at_most zero n m small near = omega arith
at_most (suc zero) n m small near = omega (arith, near)
at_most (suc (suc k)) n m small near = absurd (omega (arith, small))

unit_times : (a b : ℤ) (m : ℕ) → unsigned_abs a ≤ 1 → unsigned_abs b ≤ m → unsigned_abs (a *ℤ b) ≤ m
unit_times a b m small near =
    rw unsigned_abs-mul (at_most (unsigned_abs a) (unsigned_abs b) m small near)

sum_within : (p q r : ℤ) (m : ℕ) → unsigned_abs p ≤ m → unsigned_abs q ≤ m → unsigned_abs r ≤ m
    → unsigned_abs ((p +ℤ q) +ℤ r) ≤ 3 * m
sum_within p q r m first second third = omega (arith, ints, first, second, third)

mixed_within : (v : Vector) (a b c : ℤ) (m : ℕ) → IsWithin m v → unsigned_abs a ≤ 1
    → unsigned_abs b ≤ 1 → unsigned_abs c ≤ 1 → unsigned_abs (mixed v a b c) ≤ 3 * m
mixed_within v a b c m near first second third =
    sum_within (a *ℤ v.x) (b *ℤ v.y) (c *ℤ v.z) m
    (unit_times a v.x m first near.of_x) (unit_times b v.y m second near.of_y)
    (unit_times c v.z m third near.of_z)

turned_within : (q : Quarter) (v : Vector) (m : ℕ) → IsTrue (is_quarter q.x q.z) → IsWithin m v
    → IsWithin (3 * m) (turned_by q v)
turned_within q v m quarter near =
    let up = upright_of_quarter q quarter in
    let x = units_of_axis q.x (axis_of_length q.x up.xx) in
    let y = units_of_axis (y_of q) (axis_of_length (y_of q) (yy q up)) in
    let z = units_of_axis q.z (axis_of_length q.z up.zz) in
    record {
      of_x = mixed_within v q.x.x (y_of q).x q.z.x m near x.of_x y.of_x z.of_x;
      of_y = mixed_within v q.x.y (y_of q).y q.z.y m near x.of_y y.of_y z.of_y;
      of_z = mixed_within v q.x.z (y_of q).z q.z.z m near x.of_z y.of_z z.of_z;
    }

-- ---- lists of three numbers

none_is_within : (n : ℕ) → IsWithin n (vector (pos 0) (pos 0) (pos 0))
none_is_within n = record { of_x = omega arith; of_y = omega arith; of_z = omega arith }

at_most_from : (a : ℤ) (n : ℕ) → nat_le (unsigned_abs a) n ≡ true → unsigned_abs a ≤ n
at_most_from a n = leb-true (unsigned_abs a) n

first_of_two : (a b : Bool) → (a && b) ≡ true → a ≡ true
first_of_two a b both = (and_parts a b both).0

rest_of_two : (a b : Bool) → (a && b) ≡ true → b ≡ true
rest_of_two a b both = (and_parts a b both).1

vector_within : (n : ℕ) (numbers : List ℤ) → are_within n numbers ≡ true → IsWithin n (vector_of numbers)
vector_within n [] near = none_is_within n
vector_within n (x ∷ []) near = none_is_within n
vector_within n (x ∷ y ∷ []) near = none_is_within n
vector_within n (x ∷ y ∷ z ∷ []) near =
    let later = rest_of_two (nat_le (unsigned_abs x) n) (are_within n (y ∷ z ∷ [])) near in
    let last = rest_of_two (nat_le (unsigned_abs y) n) (are_within n (z ∷ [])) later in
    record {
      of_x = at_most_from x n (first_of_two (nat_le (unsigned_abs x) n) (are_within n (y ∷ z ∷ [])) near);
      of_y = at_most_from y n (first_of_two (nat_le (unsigned_abs y) n) (are_within n (z ∷ [])) later);
      of_z = at_most_from z n (first_of_two (nat_le (unsigned_abs z) n) (are_within n []) last);
    }
vector_within n (x ∷ y ∷ z ∷ w ∷ more) near = none_is_within n

numbers_within : (n : ℕ) (v : Vector) → IsWithin n v → are_within n (numbers_of v) ≡ true
numbers_within n v near =
    and_from (nat_le (unsigned_abs v.x) n) (are_within n (v.y ∷ v.z ∷ []))
    (le-leb (unsigned_abs v.x) n near.of_x)
    (and_from (nat_le (unsigned_abs v.y) n) (are_within n (v.z ∷ []))
    (le-leb (unsigned_abs v.y) n near.of_y)
    (and_from (nat_le (unsigned_abs v.z) n) true (le-leb (unsigned_abs v.z) n near.of_z) refl))

-- what is within so much is within more
within_more : (n m : ℕ) (numbers : List ℤ) → n ≤ m → are_within n numbers ≡ true
    → are_within m numbers ≡ true
within_more n m [] less near = refl
within_more n m (x ∷ numbers) less near =
    and_from (nat_le (unsigned_abs x) m) (are_within m numbers)
    (le-leb (unsigned_abs x) m (omega (
      arith,
      less,
      at_most_from x n (first_of_two (nat_le (unsigned_abs x) n) (are_within n numbers) near),
    )))
    (within_more n m numbers less
    (rest_of_two (nat_le (unsigned_abs x) n) (are_within n numbers) near))

-- ---- placements

sum_fits : (a b : ℤ) (m k : ℕ) → unsigned_abs a ≤ m → unsigned_abs b ≤ k → unsigned_abs (a +ℤ b) ≤ m + k
sum_fits a b m k first second = omega (arith, ints, first, second)

vectors_fit : (a b : Vector) (m k : ℕ) → IsWithin m a → IsWithin k b → IsWithin (m + k) (sum_of a b)
vectors_fit a b m k first second = record {
  of_x = sum_fits a.x b.x m k first.of_x second.of_x;
  of_y = sum_fits a.y b.y m k first.of_y second.of_y;
  of_z = sum_fits a.z b.z m k first.of_z second.of_z;
}

-- an origin within a frame of so many placements is that of one more
pub placed_fits : (q : Quarter) (depth : ℕ) (shift p : List ℤ) → IsTrue (is_quarter q.x q.z)
    → IsTrue (are_lengths p) → IsTrue (fits_at depth shift)
    → IsTrue (fits_at (depth + 1) (placed_by q shift p))
placed_fits q depth shift p quarter near fits =
    within_more (3 * greatest_nanometres + depth * (3 * greatest_nanometres))
    ((depth + 1) * (3 * greatest_nanometres)) (placed_by q shift p) (omega arith)
    (numbers_within (3 * greatest_nanometres + depth * (3 * greatest_nanometres))
    (sum_of (turned_by q (vector_of p)) (vector_of shift))
    (vectors_fit (turned_by q (vector_of p)) (vector_of shift) (3 * greatest_nanometres)
    (depth * (3 * greatest_nanometres))
    (turned_within q (vector_of p) greatest_nanometres quarter
    (vector_within greatest_nanometres p near))
    (vector_within (depth * (3 * greatest_nanometres)) shift fits)))

-- a frame can be applied to an origin
pub origin_is_framed : (p : List ℤ) → IsTrue (are_lengths p) → IsTrue (are_framed p)
origin_is_framed p near = within_more greatest_nanometres (10 ^ 18) p (omega arith) near

-- and the frame of fewer placements than are read can
pub shift_is_framed : (depth : ℕ) (shift : List ℤ) → depth < 64 → IsTrue (fits_at depth shift)
    → IsTrue (are_framed shift)
shift_is_framed depth shift few fits =
    within_more (depth * (3 * greatest_nanometres)) (10 ^ 18) shift (omega (arith, few)) fits

-- what fits so many placements fits one more
pub below_fits : (depth : ℕ) (shift : List ℤ) → IsTrue (fits_at depth shift)
    → IsTrue (fits_at (below depth) shift)
below_fits depth shift fits =
    within_more (depth * (3 * greatest_nanometres)) (below depth * (3 * greatest_nanometres)) shift
    (times_more depth (below depth) (grind arith)) fits
  where
    times_more : (a b : ℕ) → a ≤ b → a * (3 * greatest_nanometres) ≤ b * (3 * greatest_nanometres)
    times_more a b less = omega (arith, less)
