-- The points of a profile lie in the plane z = 0: no third coordinate of a point is read, and the position of a
-- rectangle is one of the plane.
use Rattle.std.proofs.Common.{◌≡◌, ℕ, zero, suc, ℤ, pos, neg_ℤ, ◌+ℤ◌, ◌-ℤ◌, ◌*ℤ◌, Bool, true, false, inl, inr, List, [], ◌∷◌, map, take, length, get_or, Option, Some, None, slice_get, refl, sym, ap, ap₂, ◌∙◌, arith, subst}
use Rattle.std.specs.Prelude.{◌-◌, option_and_then, if◌then◌else◌}
use Rattle.std.specs.List.{flat_map, AllByRecursion}
use Rattle.std.proofs.lemmas.Bool.{eqb-true}
use Rattle.theory_numbers.proofs.Shapes.{var, num, plus, minus, times, equal}
use Rattle.sb_fraction.specs.declared.unit.Unit as units
use Rattle.sb_fraction.specs.Spots.{Vector, vector}
use Rattle.sb_fraction.specs.Directions.{axis_z}
use Rattle.sb_fixed.specs.Lengths.{nanometres_of}
use Rattle.theory_turns.specs.Turns.{Quarter, y_of, is_quarter}
use Rattle.theory_turns.proofs.SignedAxes.{upright_of_quarter}
use Rattle.sb_model.specs.Frames.{vector_of}
use Rattle.sb_model.specs.declared.frame.Frame.{Frame}
use Rattle.sb_step.specs.Indexed.{Indexed}
use Rattle.sb_step.specs.declared.parameters.param.Param.{Param}
use Rattle.sb_step.specs.Cursors.Forms.{number_in}
use Rattle.sb_schema.specs.Forms.{value, both, with_first, each, items_in, list_of, only_if, are_two, pair_in}
use Rattle.sb_schema.specs.Forms.Form.{pairs}
use Rattle.sb_schema.specs.Table.{has}
use Rattle.sb_schema.specs.Rows as rows
use Rattle.sb_schema.specs.Views.{Gives}
use Rattle.sb_place.specs.declared.sight.Seen.{Seen}
use Rattle.sb_place.specs.declared.sight.Seen.TheVariants as seen
use Rattle.sb_place.specs.declared.position.Position.{Position}
use Rattle.sb_place.specs.Directions.{Coordinates, value_where, vector_by, all_three}
use Rattle.sb_place.specs.Positions.{in_plan, IsPlanPosition, is_length, axis_where, x_in, turn_to, turn_or_none, turn_in, origin_at}
use Rattle.sb_prism.specs.Shapes.{Curve, Profile, Solid, Shape, AreEach, IsWhere, IsCurve, IsProfile, AreItems, first_body}
use Rattle.sb_prism.specs.Shapes.Curve.{polyline, indexed}
use Rattle.sb_prism.specs.Shapes.Profile.{rectangle, area}
use Rattle.sb_prism.specs.Faults.{index_of, only_solid}
use Rattle.sb_prism.specs.Outlines.{texts_at, point_numbered, points_of, spot_by, half_of, carried, frame_where, corners_about, loops_in}
use Rattle.sb_prism.specs.Moved.{HasSolid}

-- ---- points without a third coordinate

abbrev HasNoThird : Coordinates → Type 0
HasNoThird texts = slice_get texts 2 ≡ None

abbrev pub IsFlat : Vector → Type 0
IsFlat p = p.z ≡ pos 0

abbrev pub AreFlat : List (List Vector) → Type 0
AreFlat loops = AllByRecursion (AllByRecursion IsFlat) loops

first_two : (texts : Coordinates) → HasNoThird (take 2 texts)
first_two [] = refl
first_two (a ∷ []) = refl
first_two (a ∷ b ∷ texts) = refl

flat_spots : (u : units.Unit) (points : List Coordinates) → AllByRecursion HasNoThird points
    → AllByRecursion IsFlat (map (spot_by u) points)
flat_spots u [] each_one = tt
flat_spots u (p ∷ points) each_one =
    (ap (value_where (λ text. nanometres_of text u)) each_one.0, flat_spots u points each_one.1)

-- ---- those of a polyline

read_in_plan : (s : Seen Coordinates) → HasNoThird (texts_at s)
read_in_plan (seen.Shown texts) = first_two texts
read_in_plan (seen.Absent n) = refl
read_in_plan (seen.Broken n) = refl
read_in_plan seen.Other = refl

all_in_plan : (points : List (Seen Coordinates)) → AllByRecursion HasNoThird (map texts_at points)
all_in_plan [] = tt
all_in_plan (p ∷ points) = (read_in_plan p, all_in_plan points)

-- ---- those of a list of pairs

two_items : (texts : Coordinates) → are_two texts ≡ true → HasNoThird texts
two_items [] two = refl
two_items (a ∷ []) two = refl
two_items (a ∷ b ∷ []) two = refl
two_items (a ∷ b ∷ c ∷ texts) two =
    let same = eqb-true (length (a ∷ b ∷ c ∷ texts)) 2 two in absurd (omega (arith, same))

passes : {A : Type 0} (test : A → Bool) (o : Option A) (x : A) → only_if test o ≡ Some x → test x ≡ true
passes test None x is = absurd (cc)
passes test (Some a) x is = by (test a) refl is
  where
    by : (t : Bool) → test a ≡ t → (if t then Some a else None) ≡ Some x → test x ≡ true
    by true passing some = let same : a ≡ x = cc in sym (ap test same) ∙ passing
    by false passing some = absurd (cc)

each_given : (ps : List Param) (points : List Coordinates) → each pair_in ps ≡ Some points → AllByRecursion HasNoThird points
each_given [] points is = let same : [] ≡ points = cc in subst (AllByRecursion HasNoThird) same tt
each_given (p ∷ ps) points is = by (λ as_ e. each_given ps as_ e) (pair_in (Some p)) refl (each pair_in ps) refl is
  where
    by : ((as_ : List Coordinates) → each pair_in ps ≡ Some as_ → AllByRecursion HasNoThird as_)
        → (first : Option Coordinates) → pair_in (Some p) ≡ first → (later : Option (List Coordinates))
        → each pair_in ps ≡ later → with_first first later ≡ Some points → AllByRecursion HasNoThird points
    by behind None first_is later later_is some = absurd (cc)
    by behind (Some a) first_is None later_is some = absurd (cc)
    by behind (Some a) first_is (Some as_) later_is some =
        let same : (a ∷ as_) ≡ points = cc in
        subst (AllByRecursion HasNoThird) same
        (two_items a (passes are_two (list_of number_in (Some p)) a first_is), behind as_ later_is)

list_given : (p : Option Param) (points : List Coordinates) → list_of pair_in p ≡ Some points → AllByRecursion HasNoThird points
list_given p points is = by (items_in p) is
  where
    by : (items : Option (List Param)) → option_and_then (each pair_in) items ≡ Some points → AllByRecursion HasNoThird points
    by None some = absurd (cc)
    by (Some ps) some = each_given ps points some

same_first : {A : Type 0} (p q : A × Unit {0}) → Some p ≡ Some q → Some p.0 ≡ Some q.0
same_first p q is = let same : p ≡ q = cc in ap (λ r. Some r.0) same

first_given : {A : Type 0} (a : Option A) (b : Option (Unit {0})) (v : A) → both a b ≡ Some (v, tt) → a ≡ Some v
first_given None b v is = absurd (cc)
first_given (Some a) None v is = absurd (cc)
first_given (Some a) (Some t) v is = same_first (a, t) (v, tt) is

pairs_given : (i : Indexed) (n : ℕ) (points : List Coordinates)
    → Gives rows.cartesian_point_list_2d i n (Some (points, tt)) → AllByRecursion HasNoThird points
pairs_given i n points gives =
    list_given (slice_get gives.parameters 0) points
    (first_given (value pairs (slice_get gives.parameters 0)) (has 1 gives.parameters) points gives.give)

place_in : (points : List Coordinates) (k : ℕ) → AllByRecursion HasNoThird points → HasNoThird (get_or points k [])
place_in [] k each_one = refl
place_in (p ∷ points) zero each_one = each_one.0
place_in (p ∷ points) (suc k) each_one = place_in points k each_one.1

numbered : (points : List Coordinates) (texts : List (List ℕ)) → AllByRecursion HasNoThird points
    → AllByRecursion HasNoThird (map (point_numbered points) texts)
numbered points [] each_one = tt
numbered points (t ∷ texts) each_one = (place_in points (index_of t - 1) each_one, numbered points texts each_one)

-- ---- curves

curve_points : (i : Indexed) (n : ℕ) (c : Seen Curve) → IsCurve i n c → AllByRecursion HasNoThird (points_of c)
curve_points i n (seen.Absent m) is = tt
curve_points i n (seen.Broken m) is = tt
curve_points i n seen.Other is = tt
curve_points i n (seen.Shown (polyline points)) is = all_in_plan points
curve_points i n (seen.Shown (indexed (seen.Absent m) s)) is = tt
curve_points i n (seen.Shown (indexed (seen.Broken m) s)) is = tt
curve_points i n (seen.Shown (indexed seen.Other s)) is = tt
curve_points i n (seen.Shown (indexed (seen.Shown points) None)) (number, gives, are) = pairs_given i number points are
curve_points i n (seen.Shown (indexed (seen.Shown points) (Some segments))) (number, gives, are) =
    numbered points (flat_map (λ s. s.list) segments) (pairs_given i number points are)

curve_flat : (u : units.Unit) (i : Indexed) (n : ℕ) (c : Seen Curve) → IsCurve i n c
    → AllByRecursion IsFlat (map (spot_by u) (points_of c))
curve_flat u i n c is = flat_spots u (points_of c) (curve_points i n c is)

curves_flat : (u : units.Unit) (i : Indexed) (ns : List ℕ) (cs : List (Seen Curve)) → AreEach (IsCurve i) ns cs
    → AreFlat (map (λ c. map (spot_by u) (points_of c)) cs)
curves_flat u i [] [] are = tt
curves_flat u i [] (c ∷ cs) are = absurd are
curves_flat u i (n ∷ ns) [] are = absurd are
curves_flat u i (n ∷ ns) (c ∷ cs) are = (curve_flat u i n c are.0, curves_flat u i ns cs are.1)

-- ---- rectangles

-- a turn about the local z
record IsLevel (q : Quarter) : Type 0 where
  z : q.z ≡ vector (pos 0) (pos 0) (pos 1)
  x : q.x.z ≡ pos 0

last_of : (a b c : ℤ) → ((a *ℤ pos 0) +ℤ (b *ℤ pos 0)) +ℤ (c *ℤ pos 1) ≡ c
last_of a b c =
    equal (plus (plus (times (var a) (num 0)) (times (var b) (num 0))) (times (var c) (num 1))) (var c) (omega arith)

turn_to_z : (x : Option Vector) → IsLevel (turn_or_none (turn_to x (Some axis_z)))
turn_to_z None = record { z = refl; x = refl }
turn_to_z (Some a) = by (is_quarter a axis_z) refl
  where
    by : (t : Bool) → is_quarter a axis_z ≡ t
        → IsLevel (turn_or_none (if t then Some (record { x = a; z = axis_z }) else None))
    by true is = record {
      z = refl;
      x = sym (last_of a.x a.y a.z) ∙ (upright_of_quarter (record { x = a; z = axis_z }) is).xz;
    }
    by false is = record { z = refl; x = refl }

level_where : (p : Position) → p.axis ≡ None → IsLevel (turn_in (seen.Shown p))
level_where p none =
    subst (λ a. IsLevel (turn_or_none (turn_to (x_in p) (axis_where axis_z a)))) (sym none) (turn_to_z (x_in p))

flat_origin : (u : units.Unit) (s : Seen Coordinates) → IsFlat (origin_at u (in_plan s))
flat_origin u (seen.Absent n) = refl
flat_origin u (seen.Broken n) = refl
flat_origin u seen.Other = refl
flat_origin u (seen.Shown texts) = by (all_three (is_length u) (take 2 texts))
  where
    by : (t : Bool) → IsFlat (if t then vector_by (λ text. nanometres_of text u) (take 2 texts) else vector (pos 0) (pos 0) (pos 0))
    by true = ap (value_where (λ text. nanometres_of text u)) (first_two texts)
    by false = refl

-- a frame of the plane
record IsPlanar (f : Frame) : Type 0 where
  turn : IsLevel f.turn
  shift : IsFlat (vector_of f.shift)

no_cross : (a b c d : ℤ) → a ≡ pos 0 → c ≡ pos 0 → (a *ℤ b) -ℤ (c *ℤ d) ≡ pos 0
no_cross a b c d first second =
    ap₂ (λ k l. (k *ℤ b) -ℤ (l *ℤ d)) first second
    ∙ equal (minus (times (num 0) (var b)) (times (num 0) (var d))) (num 0) (omega arith)

nothing_of : (a b c x y s : ℤ) → a ≡ pos 0 → b ≡ pos 0 → s ≡ pos 0
    → (((a *ℤ x) +ℤ (b *ℤ y)) +ℤ (c *ℤ pos 0)) +ℤ s ≡ pos 0
nothing_of a b c x y s first second third =
    ap₂ (λ k l. (((k *ℤ x) +ℤ (l *ℤ y)) +ℤ (c *ℤ pos 0)) +ℤ s) first second
    ∙ ap (λ k. (((pos 0 *ℤ x) +ℤ (pos 0 *ℤ y)) +ℤ (c *ℤ pos 0)) +ℤ k) third
    ∙ equal (plus (plus (plus (times (num 0) (var x)) (times (num 0) (var y))) (times (var c) (num 0))) (num 0)) (num 0) (omega arith)

flat_corner : (f : Frame) (x y : ℤ) → IsPlanar f → IsFlat (carried f (vector x y (pos 0)))
flat_corner f x y planar =
    nothing_of f.turn.x.z (y_of f.turn).z f.turn.z.z x y (vector_of f.shift).z planar.turn.x
    (no_cross f.turn.z.x f.turn.x.y f.turn.z.y f.turn.x.x (ap (λ v. v.x) planar.turn.z) (ap (λ v. v.y) planar.turn.z))
    planar.shift

corners_flat : (f : Frame) (x y : ℤ) → IsPlanar f → AreFlat (corners_about f x y ∷ [])
corners_flat f x y planar = (
  (
    flat_corner f (neg_ℤ x) (neg_ℤ y) planar,
    (flat_corner f x (neg_ℤ y) planar, (flat_corner f x y planar, (flat_corner f (neg_ℤ x) y planar, tt))),
  ),
  tt,
)

planar_where : (u : units.Unit) (i : Indexed) (at : Option ℕ) (p : Option (Seen Position)) → IsWhere (IsPlanPosition i) at p
    → IsPlanar (frame_where u p)
planar_where u i at None is = record { turn = record { z = refl; x = refl }; shift = refl }
planar_where u i None (Some s) is = absurd is
planar_where u i (Some n) (Some (seen.Absent m)) is = record { turn = record { z = refl; x = refl }; shift = refl }
planar_where u i (Some n) (Some (seen.Broken m)) is = record { turn = record { z = refl; x = refl }; shift = refl }
planar_where u i (Some n) (Some seen.Other) is = record { turn = record { z = refl; x = refl }; shift = refl }
planar_where u i (Some n) (Some (seen.Shown p)) is = record {
  turn = level_where p is.no_axis;
  shift = ap (λ l. (origin_at u l).z) is.location_in_plan ∙ flat_origin u is.whole_location;
}

-- ---- profiles, and the one solid of a shape

profile_flat : (u : units.Unit) (i : Indexed) (n : ℕ) (p : Seen Profile) → IsProfile i n p → AreFlat (loops_in u p)
profile_flat u i n (seen.Absent m) is = tt
profile_flat u i n (seen.Broken m) is = tt
profile_flat u i n seen.Other is = tt
profile_flat u i n (seen.Shown (rectangle p x y)) (at, gives, where_it_is) =
    corners_flat (frame_where u p) (half_of (nanometres_of x u)) (half_of (nanometres_of y u))
    (planar_where u i at p where_it_is)
profile_flat u i n (seen.Shown (area outer inner)) (curve, is, inl (gives, none)) =
    (curve_flat u i curve outer is, subst (λ cs. AreFlat (map (λ c. map (spot_by u) (points_of c)) cs)) (sym none) tt)
profile_flat u i n (seen.Shown (area outer inner)) (curve, is, inr (voids, gives, are)) =
    (curve_flat u i curve outer is, curves_flat u i voids inner are)

items_flat : (u : units.Unit) (i : Indexed) (numbers : Option (List ℕ)) (items : Option (List (Seen Solid))) (solid : Solid)
    → AreItems i numbers items → only_solid items ≡ Some solid → AreFlat (loops_in u solid.profile)
items_flat u i numbers None solid are is = absurd (cc)
items_flat u i None (Some solids) solid are is = absurd are
items_flat u i (Some ns) (Some []) solid are is = absurd (cc)
items_flat u i (Some ns) (Some (seen.Absent m ∷ [])) solid are is = absurd (cc)
items_flat u i (Some ns) (Some (seen.Broken m ∷ [])) solid are is = absurd (cc)
items_flat u i (Some ns) (Some (seen.Other ∷ [])) solid are is = absurd (cc)
items_flat u i (Some ns) (Some (seen.Absent m ∷ t ∷ later)) solid are is = absurd (cc)
items_flat u i (Some ns) (Some (seen.Broken m ∷ t ∷ later)) solid are is = absurd (cc)
items_flat u i (Some ns) (Some (seen.Other ∷ t ∷ later)) solid are is = absurd (cc)
items_flat u i (Some ns) (Some (seen.Shown s ∷ t ∷ later)) solid are is = absurd (cc)
items_flat u i (Some []) (Some (seen.Shown s ∷ [])) solid are is = absurd are
items_flat u i (Some (n ∷ ns)) (Some (seen.Shown s ∷ [])) solid are is =
    let same : s ≡ solid = cc in
    subst (λ t. AreFlat (loops_in u t.profile)) same (profile_flat u i are.0.profile_at s.profile are.0.profile_is)

pub profile_is_flat : (i : Indexed) (n : ℕ) (s : Seen Shape) (solid : Solid) → HasSolid i n s solid → (u : units.Unit)
    → AreFlat (loops_in u solid.profile)
profile_is_flat i n (seen.Absent m) solid has_it u = absurd (never has_it.is)
  where
    never : None ≡ Some solid → ⊥
    never e = absurd (cc)
profile_is_flat i n (seen.Broken m) solid has_it u = absurd (never has_it.is)
  where
    never : None ≡ Some solid → ⊥
    never e = absurd (cc)
profile_is_flat i n seen.Other solid has_it u = absurd (never has_it.is)
  where
    never : None ≡ Some solid → ⊥
    never e = absurd (cc)
profile_is_flat i n (seen.Shown s) solid has_it u =
    items_flat u i (first_body s.representations) s.items solid has_it.is_shape.items_are has_it.is
