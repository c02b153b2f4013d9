-- Where its lengths are in range, no number is too great where a solid is turned.
use Rattle.std.proofs.Common.{ℕ, zero, suc, ℤ, pos, neg_ℤ, ◌≡◌, ◌≤◌, ◌+◌, ◌*◌, ◌+ℤ◌, ◌*ℤ◌, Bool, true, false, not, ◌&&◌, ◌||◌, nat_le, List, [], ◌∷◌, map, Option, Some, None, slice_get, refl, sym, arith}
use Rattle.std.specs.Prelude.{unsigned_abs, if◌then◌else◌}
use Rattle.std.specs.List.{list_all, list_any, AllByRecursion}
use Rattle.std.proofs.lemmas.Int.{ints, unsigned_abs-mul}
use Rattle.std.proofs.lemmas.Bool.{and_parts, and_from, or_parts, leb-true, le-leb}
use Rattle.sb_fraction.specs.declared.unit.Unit as units
use Rattle.sb_fraction.specs.Spots.{Vector, vector}
use Rattle.sb_fixed.specs.Lengths.{nanometres_of, greatest_nanometres}
use Rattle.theory_turns.specs.Turns.{Quarter, y_of, mixed, turned_by}
use Rattle.theory_turns.proofs.SignedAxes.{units_of_axis, axis_of_length}
use Rattle.theory_turns.proofs.UprightTriples.{IsUpright, yy}
use Rattle.sb_model.specs.Frames.{IsWithin, vector_of, numbers_of, sum_of, are_framed, greatest_framed}
use Rattle.sb_model.specs.declared.frame.Frame.{Frame}
use Rattle.sb_solid.specs.Turned.{turn_alone, is_carried, is_turned, is_fit, spot_vector}
use Rattle.sb_place.specs.declared.sight.Seen.{Seen}
use Rattle.sb_place.specs.declared.sight.Seen.TheVariants as seen
use Rattle.sb_place.specs.declared.position.Position.{Position}
use Rattle.sb_place.specs.Directions.{Coordinates, value_where, vector_by, passes_where, all_three}
use Rattle.sb_place.specs.Positions.{is_length, origin_at}
use Rattle.sb_prism.specs.Shapes.{Curve, Profile, Solid}
use Rattle.sb_prism.specs.Shapes.Profile.{rectangle, area}
use Rattle.sb_prism.specs.Outlines.{points_of, spot_by, half_of, carried, frame_where, corners_about, loops_in, is_upward, way_of}
use Rattle.sb_prism.specs.Prisms.{is_far_where, is_far_point, is_far_curve, is_far_profile, has_far_length}
use Rattle.sb_prism.specs.Kept.{spot_of}
use Rattle.sb_prism.proofs.TurnedFirst.{position_upright}

-- ---- a turned vector

at_most : (k n m : ℕ) → k ≤ 1 → n ≤ m → k * n ≤ m
at_most zero n m small near = omega arith
at_most (suc zero) n m small near = omega (arith, near)
at_most (suc (suc k)) n m small near = absurd (omega (arith, small))

unit_times : (a b : ℤ) (m : ℕ) → unsigned_abs a ≤ 1 → unsigned_abs b ≤ m → unsigned_abs (a *ℤ b) ≤ m
unit_times a b m small near =
    rw unsigned_abs-mul (at_most (unsigned_abs a) (unsigned_abs b) m small near)

sum_within : (p q r : ℤ) (m : ℕ) → unsigned_abs p ≤ m → unsigned_abs q ≤ m → unsigned_abs r ≤ m
    → unsigned_abs ((p +ℤ q) +ℤ r) ≤ 3 * m
sum_within p q r m first second third = omega (arith, ints, first, second, third)

mixed_within : (v : Vector) (a b c : ℤ) (m : ℕ) → IsWithin m v → unsigned_abs a ≤ 1
    → unsigned_abs b ≤ 1 → unsigned_abs c ≤ 1 → unsigned_abs (mixed v a b c) ≤ 3 * m
mixed_within v a b c m near first second third =
    sum_within (a *ℤ v.x) (b *ℤ v.y) (c *ℤ v.z) m
    (unit_times a v.x m first near.of_x) (unit_times b v.y m second near.of_y)
    (unit_times c v.z m third near.of_z)

turned_within : (q : Quarter) (v : Vector) (m : ℕ) → IsUpright q → IsWithin m v → IsWithin (3 * m) (turned_by q v)
turned_within q v m up near =
    let x = units_of_axis q.x (axis_of_length q.x up.xx) in
    let y = units_of_axis (y_of q) (axis_of_length (y_of q) (yy q up)) in
    let z = units_of_axis q.z (axis_of_length q.z up.zz) in
    record {
      of_x = mixed_within v q.x.x (y_of q).x q.z.x m near x.of_x y.of_x z.of_x;
      of_y = mixed_within v q.x.y (y_of q).y q.z.y m near x.of_y y.of_y z.of_y;
      of_z = mixed_within v q.x.z (y_of q).z q.z.z m near x.of_z y.of_z z.of_z;
    }

sum_fits : (a b : ℤ) (m k : ℕ) → unsigned_abs a ≤ m → unsigned_abs b ≤ k → unsigned_abs (a +ℤ b) ≤ m + k
sum_fits a b m k first second = omega (arith, ints, first, second)

vectors_fit : (a b : Vector) (m k : ℕ) → IsWithin m a → IsWithin k b → IsWithin (m + k) (sum_of a b)
vectors_fit a b m k first second = record {
  of_x = sum_fits a.x b.x m k first.of_x second.of_x;
  of_y = sum_fits a.y b.y m k first.of_y second.of_y;
  of_z = sum_fits a.z b.z m k first.of_z second.of_z;
}

-- ---- frames

-- a frame of a position: turned by quarters, and its origin no farther than a length
record IsNear (f : Frame) : Type 0 where
  up : IsUpright f.turn
  shift : IsWithin greatest_nanometres (vector_of f.shift)
  framed : are_framed f.shift ≡ true

framed_by : (v : Vector) (m : ℕ) → m ≤ greatest_framed → IsWithin m v → are_framed (numbers_of v) ≡ true
framed_by v m less near =
    and_from (nat_le (unsigned_abs v.x) greatest_framed) (are_framed (v.y ∷ v.z ∷ []))
    (le-leb (unsigned_abs v.x) greatest_framed (let n = near.of_x in omega (arith, less, n)))
    (and_from (nat_le (unsigned_abs v.y) greatest_framed) (are_framed (v.z ∷ []))
    (le-leb (unsigned_abs v.y) greatest_framed (let n = near.of_y in omega (arith, less, n)))
    (and_from (nat_le (unsigned_abs v.z) greatest_framed) true
    (le-leb (unsigned_abs v.z) greatest_framed (let n = near.of_z in omega (arith, less, n))) refl))

carried_within : (f : Frame) (v : Vector) (m : ℕ) → IsNear f → IsWithin m v
    → IsWithin (3 * m + greatest_nanometres) (carried f v)
carried_within f v m near v_near =
    vectors_fit (turned_by f.turn v) (vector_of f.shift) (3 * m) greatest_nanometres (turned_within f.turn v m near.up v_near)
    near.shift

is_carried_by : (f : Frame) (v : Vector) (m : ℕ) → 3 * m + greatest_nanometres ≤ greatest_framed → IsNear f → IsWithin m v
    → is_carried f v ≡ true
is_carried_by f v m less near v_near =
    and_from (are_framed (numbers_of v)) (are_framed f.shift && are_framed (numbers_of (carried f v)))
    (framed_by v m (omega (arith, less)) v_near)
    (and_from (are_framed f.shift) (are_framed (numbers_of (carried f v))) near.framed
    (framed_by (carried f v) (3 * m + greatest_nanometres) less (carried_within f v m near v_near)))

none_within : (n : ℕ) → IsWithin n (vector (pos 0) (pos 0) (pos 0))
none_within n = record { of_x = omega arith; of_y = omega arith; of_z = omega arith }

turn_is_near : (q : Quarter) → IsUpright q → IsNear (turn_alone q)
turn_is_near q up = record {
  up = up;
  shift = none_within greatest_nanometres;
  framed = framed_by (vector (pos 0) (pos 0) (pos 0)) 0 (omega arith) (none_within 0);
}

-- what is carried and then turned
is_turned_from : (q : Quarter) (f : Frame) (v : Vector) → IsUpright q → IsNear f → IsWithin (4 * greatest_nanometres) v
    → is_turned q f v ≡ true
is_turned_from q f v up near v_near =
    and_from (is_carried f v) (is_carried (turn_alone q) (carried f v))
    (is_carried_by f v (4 * greatest_nanometres) (omega arith) near v_near)
    (is_carried_by (turn_alone q) (carried f v) (3 * (4 * greatest_nanometres) + greatest_nanometres) (omega arith)
    (turn_is_near q up) (carried_within f v (4 * greatest_nanometres) near v_near))

-- ---- lengths in range

length_within : (u : units.Unit) (text : Option (List ℕ)) → passes_where (is_length u) text ≡ true
    → unsigned_abs (value_where (λ t. nanometres_of t u) text) ≤ greatest_nanometres
length_within u None passing = omega arith
length_within u (Some text) passing = leb-true (unsigned_abs (nanometres_of text u)) greatest_nanometres passing

point_within : (u : units.Unit) (texts : Coordinates) → all_three (is_length u) texts ≡ true
    → IsWithin greatest_nanometres (vector_by (λ t. nanometres_of t u) texts)
point_within u texts all =
    let one = and_parts (passes_where (is_length u) (slice_get texts 0))
    (passes_where (is_length u) (slice_get texts 1) && passes_where (is_length u) (slice_get texts 2)) all in
    let two = and_parts (passes_where (is_length u) (slice_get texts 1)) (passes_where (is_length u) (slice_get texts 2)) one.1 in
    record {
      of_x = length_within u (slice_get texts 0) one.0;
      of_y = length_within u (slice_get texts 1) two.0;
      of_z = length_within u (slice_get texts 2) two.1;
    }

origin_within : (u : units.Unit) (s : Seen Coordinates) → IsWithin greatest_nanometres (origin_at u s)
origin_within u (seen.Absent n) = none_within greatest_nanometres
origin_within u (seen.Broken n) = none_within greatest_nanometres
origin_within u seen.Other = none_within greatest_nanometres
origin_within u (seen.Shown texts) = by (all_three (is_length u) texts) refl
  where
    by : (t : Bool) → all_three (is_length u) texts ≡ t
        → IsWithin greatest_nanometres (if t then vector_by (λ text. nanometres_of text u) texts else vector (pos 0) (pos 0) (pos 0))
    by true all = point_within u texts all
    by false all = none_within greatest_nanometres

near_position : (u : units.Unit) (p : Option (Seen Position)) → IsNear (frame_where u p)
near_position u p = record { up = position_upright u p; shift = shift p; framed = framed p }
  where
    shift : (o : Option (Seen Position)) → IsWithin greatest_nanometres (vector_of (frame_where u o).shift)
    shift None = none_within greatest_nanometres
    shift (Some (seen.Absent n)) = none_within greatest_nanometres
    shift (Some (seen.Broken n)) = none_within greatest_nanometres
    shift (Some seen.Other) = none_within greatest_nanometres
    shift (Some (seen.Shown s)) = origin_within u s.location

    framed : (o : Option (Seen Position)) → are_framed (frame_where u o).shift ≡ true
    framed None = framed_by (vector (pos 0) (pos 0) (pos 0)) 0 (omega arith) (none_within 0)
    framed (Some (seen.Absent n)) = framed_by (vector (pos 0) (pos 0) (pos 0)) 0 (omega arith) (none_within 0)
    framed (Some (seen.Broken n)) = framed_by (vector (pos 0) (pos 0) (pos 0)) 0 (omega arith) (none_within 0)
    framed (Some seen.Other) = framed_by (vector (pos 0) (pos 0) (pos 0)) 0 (omega arith) (none_within 0)
    framed (Some (seen.Shown s)) =
        framed_by (origin_at u s.location) greatest_nanometres (omega arith) (origin_within u s.location)

-- ---- points of profiles

abbrev AreNear : List (List Vector) → Type 0
AreNear loops = AllByRecursion (AllByRecursion (IsWithin (4 * greatest_nanometres))) loops

wider : (v : Vector) → IsWithin greatest_nanometres v → IsWithin (4 * greatest_nanometres) v
wider v near = record {
  of_x = let n = near.of_x in omega (arith, n);
  of_y = let n = near.of_y in omega (arith, n);
  of_z = let n = near.of_z in omega (arith, n);
}

was_true : (b : Bool) → not b ≡ false → b ≡ true
was_true true e = refl
was_true false e = sym e

points_near : (u : units.Unit) (points : List Coordinates) → list_any (is_far_point u) points ≡ false
    → AllByRecursion (IsWithin (4 * greatest_nanometres)) (map (spot_by u) points)
points_near u [] near = tt
points_near u (p ∷ points) near =
    let parts = or_parts (is_far_point u p) (list_any (is_far_point u) points) near in
    (wider (spot_by u p) (point_within u p (was_true (all_three (is_length u) p) parts.0)), points_near u points parts.1)

curves_near : (u : units.Unit) (cs : List (Seen Curve)) → list_any (is_far_curve u) cs ≡ false
    → AreNear (map (λ c. map (spot_by u) (points_of c)) cs)
curves_near u [] near = tt
curves_near u (c ∷ cs) near =
    let parts = or_parts (is_far_curve u c) (list_any (is_far_curve u) cs) near in
    (points_near u (points_of c) parts.0, curves_near u cs parts.1)

half_within : (n : ℤ) → unsigned_abs n ≤ greatest_nanometres → unsigned_abs (half_of n) ≤ greatest_nanometres
half_within n near = omega (arith, ints, near)

opposite_within : (n : ℤ) → unsigned_abs n ≤ greatest_nanometres → unsigned_abs (neg_ℤ n) ≤ greatest_nanometres
opposite_within n near = omega (arith, ints, near)

corner_near : (f : Frame) (x y : ℤ) → IsNear f → unsigned_abs x ≤ greatest_nanometres → unsigned_abs y ≤ greatest_nanometres
    → IsWithin (4 * greatest_nanometres) (carried f (vector x y (pos 0)))
corner_near f x y near x_in y_in =
    let flat : IsWithin greatest_nanometres (vector x y (pos 0)) = record { of_x = x_in; of_y = y_in; of_z = omega arith } in
    let far = carried_within f (vector x y (pos 0)) greatest_nanometres near flat in
    record {
      of_x = let n = far.of_x in omega (arith, n);
      of_y = let n = far.of_y in omega (arith, n);
      of_z = let n = far.of_z in omega (arith, n);
    }

corners_near : (f : Frame) (x y : ℤ) → IsNear f → unsigned_abs x ≤ greatest_nanometres → unsigned_abs y ≤ greatest_nanometres
    → AreNear (corners_about f x y ∷ [])
corners_near f x y near x_in y_in = (
  (
    corner_near f (neg_ℤ x) (neg_ℤ y) near (opposite_within x x_in) (opposite_within y y_in),
    (
      corner_near f x (neg_ℤ y) near x_in (opposite_within y y_in),
      (corner_near f x y near x_in y_in, (corner_near f (neg_ℤ x) y near (opposite_within x x_in) y_in, tt)),
    ),
  ),
  tt,
)

length_in : (u : units.Unit) (text : List ℕ) → not (is_length u text) ≡ false
    → unsigned_abs (nanometres_of text u) ≤ greatest_nanometres
length_in u text near =
    leb-true (unsigned_abs (nanometres_of text u)) greatest_nanometres (was_true (is_length u text) near)

profile_near : (u : units.Unit) (p : Seen Profile) → is_far_profile u p ≡ false → AreNear (loops_in u p)
profile_near u (seen.Absent n) near = tt
profile_near u (seen.Broken n) near = tt
profile_near u seen.Other near = tt
profile_near u (seen.Shown (rectangle p x y)) near =
    let parts = or_parts (is_far_where u p) (not (is_length u x) || not (is_length u y)) near in
    let sides = or_parts (not (is_length u x)) (not (is_length u y)) parts.1 in
    corners_near (frame_where u p) (half_of (nanometres_of x u)) (half_of (nanometres_of y u)) (near_position u p)
    (half_within (nanometres_of x u) (length_in u x sides.0)) (half_within (nanometres_of y u) (length_in u y sides.1))
profile_near u (seen.Shown (area outer inner)) near =
    let parts = or_parts (is_far_curve u outer) (list_any (is_far_curve u) inner) near in
    (points_near u (points_of outer) parts.0, curves_near u inner parts.1)

-- ---- the solid

all_kept : (test : Vector → Bool) (P : Vector → Type 0) → ((v : Vector) → P v → test v ≡ true) → (points : List Vector)
    → AllByRecursion P points → list_all (λ s. test (spot_vector s)) (map spot_of points) ≡ true
all_kept test P each_one [] all = refl
all_kept test P each_one (p ∷ points) all =
    and_from (test p) (list_all (λ s. test (spot_vector s)) (map spot_of points)) (each_one p all.0)
    (all_kept test P each_one points all.1)

loops_kept : (test : Vector → Bool) (P : Vector → Type 0) → ((v : Vector) → P v → test v ≡ true) → (loops : List (List Vector))
    → AllByRecursion (AllByRecursion P) loops
    → list_all (list_all (λ s. test (spot_vector s))) (map (map spot_of) loops) ≡ true
loops_kept test P each_one [] all = refl
loops_kept test P each_one (l ∷ loops) all =
    and_from (list_all (λ s. test (spot_vector s)) (map spot_of l))
    (list_all (list_all (λ s. test (spot_vector s))) (map (map spot_of) loops)) (all_kept test P each_one l all.0)
    (loops_kept test P each_one loops all.1)

signed_within : (up : Bool) (n : ℤ) → unsigned_abs n ≤ greatest_nanometres
    → unsigned_abs (if up then n else neg_ℤ n) ≤ greatest_nanometres
signed_within true n near = near
signed_within false n near = opposite_within n near

straight : (z : ℤ) → unsigned_abs z ≤ greatest_nanometres → IsWithin (4 * greatest_nanometres) (vector (pos 0) (pos 0) z)
straight z near = record { of_x = omega arith; of_y = omega arith; of_z = omega (arith, near) }

pub solid_fits : (u : units.Unit) (q : Quarter) (s : Solid) → IsUpright q → has_far_length u s ≡ false
    → is_fit q (frame_where u s.position) (way_of u s).z (map (map spot_of) (loops_in u s.profile)) ≡ true
solid_fits u q s up near =
    let parts = or_parts (is_far_profile u s.profile) (is_far_where u s.position || not (is_length u s.depth)) near in
    let depth = or_parts (is_far_where u s.position) (not (is_length u s.depth)) parts.1 in
    let f = frame_where u s.position in
    let turn = turn_is_near f.turn (position_upright u s.position) in
    let far = is_turned q (turn_alone f.turn) (vector (pos 0) (pos 0) (way_of u s).z) in
    let along = is_turned q (turn_alone f.turn) (vector (pos 0) (pos 0) (pos 1)) in
    and_from (list_all (list_all (λ p. is_turned q f (spot_vector p))) (map (map spot_of) (loops_in u s.profile)))
    (far && along)
    (loops_kept (is_turned q f) (IsWithin (4 * greatest_nanometres))
    (λ v v_near. is_turned_from q f v up (near_position u s.position) v_near) (loops_in u s.profile)
    (profile_near u s.profile parts.0))
    (and_from far along
    (is_turned_from q (turn_alone f.turn) (vector (pos 0) (pos 0) (way_of u s).z) up turn
    (straight (way_of u s).z (signed_within (is_upward s.direction) (nanometres_of s.depth u) (length_in u s.depth depth.1))))
    (is_turned_from q (turn_alone f.turn) (vector (pos 0) (pos 0) (pos 1)) up turn (straight (pos 1) (omega arith))))
