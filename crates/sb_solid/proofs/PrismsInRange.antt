-- A solid whose points are in range has a prism in range.
use Rattle.std.proofs.Common.{◌≡◌, ℕ, ℤ, pos, ◌≤◌, ◌+◌, ◌/◌, Bool, true, false, ◌&&◌, ◌||◌, List, [], ◌∷◌, map, Option, Some, None, refl, sym, ap, ◌∙◌, arith, subst}
use Rattle.std.specs.Prelude.{neg_ℤ, unsigned_abs, int_lt, nat_le, if◌then◌else◌}
use Rattle.std.specs.List.{list_all}
use Rattle.std.specs.Ordering.{int_eq}
use Rattle.std.proofs.lemmas.Int.{ints}
use Rattle.std.proofs.lemmas.Bool.{and_parts, and_from, or_parts, le-leb}
use Rattle.sb_fraction.specs.declared.point.Point.{Point}
use Rattle.sb_fraction.specs.Spots.{Vector}
use Rattle.sb_fraction.specs.Plane.{is_plan_point, is_coordinate, greatest_coordinate}
use Rattle.theory_plans.specs.Rectangles.{rectangle}
use Rattle.theory_plans.proofs.LoopsInRange.{points_in_range}
use Rattle.theory_loops.specs.Normal.{normal_loop}
use Rattle.theory_loops.specs.Answers.{keeps_few, are_flat, are_knotted, plan_of}
use Rattle.theory_loops.proofs.PlanComesOut.{plan_comes_out}
use Rattle.sb_model.specs.Solids.{Upright, upright}
use Rattle.sb_solid.specs.Grid.{is_in_world, nearest_millimetre}
use Rattle.sb_solid.specs.Solids.{lower_of, upper_of, in_the_plan, beside_x, beside_y, rectangle_in, only_rectangle, standing, box_along_x, box_along_y, prism_between}
use Rattle.sb_solid.specs.Moving.{is_in_range}
use Rattle.sb_solid.proofs.Coordinates.SpansTellAll.{world_of}
use Rattle.sb_solid.proofs.Coordinates.EveryPoint.{every, every-from, every-map}
use Rattle.sb_solid.proofs.Rectangles.RectanglesArePlans.{IsBox, is_box, normal_is_seen, few_give_none}

-- ---- numbers

size_in : (n : ℕ) → n ≤ 500000010000 → (n + 500000) / 1000000 ≤ 500000
size_in n less = omega (arith, less)

negative_size : (n : ℕ) → unsigned_abs (neg_ℤ (pos n)) ≡ n
negative_size n = omega (arith, ints)

-- the millimetre of a number in range is in range
pub millimetre_in_range : (n : ℤ) → is_in_world n ≡ true → is_coordinate (nearest_millimetre n) ≡ true
millimetre_in_range n world = by (int_lt n (pos 0))
  where
    small : (unsigned_abs n + 500000) / 1000000 ≤ 500000
    small = size_in (unsigned_abs n) (world_of n world)

    by : (t : Bool) → is_coordinate (if t then neg_ℤ (pos ((unsigned_abs n + 500000) / 1000000)) else pos ((unsigned_abs n + 500000) / 1000000)) ≡ true
    by true =
        ap (λ m. nat_le m greatest_coordinate) (negative_size ((unsigned_abs n + 500000) / 1000000))
        ∙ le-leb ((unsigned_abs n + 500000) / 1000000) greatest_coordinate small
    by false = le-leb ((unsigned_abs n + 500000) / 1000000) greatest_coordinate small

-- each coordinate of a point in millimetres is
abbrev pub are_coordinates : Vector → Bool
are_coordinates v = is_coordinate v.x && (is_coordinate v.y && is_coordinate v.z)

pub lower_in : (a b : ℤ) → is_coordinate a ≡ true → is_coordinate b ≡ true → is_coordinate (lower_of a b) ≡ true
lower_in a b a_in b_in = by (int_lt b a)
  where
    by : (t : Bool) → is_coordinate (if t then b else a) ≡ true
    by true = b_in
    by false = a_in

pub upper_in : (a b : ℤ) → is_coordinate a ≡ true → is_coordinate b ≡ true → is_coordinate (upper_of a b) ≡ true
upper_in a b a_in b_in = by (int_lt b a)
  where
    by : (t : Bool) → is_coordinate (if t then a else b) ≡ true
    by true = a_in
    by false = b_in

-- ---- loops

-- loops as they are seen
seen_in : (see : Vector → Point) → ((v : Vector) → are_coordinates v ≡ true → is_plan_point (see v) ≡ true)
    → (loops : List (List Vector)) → every are_coordinates loops ≡ true → list_all (list_all is_plan_point) (map (map see) loops) ≡ true
seen_in see each loops all =
    every-map is_plan_point see loops ∙ every-from are_coordinates (λ v. is_plan_point (see v)) each loops all

plan_in : (v : Vector) → are_coordinates v ≡ true → is_plan_point (in_the_plan v) ≡ true
plan_in v all =
    let one = and_parts (is_coordinate v.x) (is_coordinate v.y && is_coordinate v.z) all in
    let two = and_parts (is_coordinate v.y) (is_coordinate v.z) one.1 in
    and_from (is_coordinate v.x) (is_coordinate v.y) one.0 two.0

x_in : (v : Vector) → are_coordinates v ≡ true → is_plan_point (beside_x v) ≡ true
x_in v all = (and_parts (is_coordinate v.x) (is_coordinate v.y && is_coordinate v.z) all).1

y_in : (v : Vector) → are_coordinates v ≡ true → is_plan_point (beside_y v) ≡ true
y_in v all =
    let one = and_parts (is_coordinate v.x) (is_coordinate v.y && is_coordinate v.z) all in
    let two = and_parts (is_coordinate v.y) (is_coordinate v.z) one.1 in
    and_from (is_coordinate v.x) (is_coordinate v.z) one.0 two.1

-- ---- prisms

some_of : {X : Type 0} (t : Bool) (x q : X) → (if t then None else Some x) ≡ Some q → (t ≡ false) × (x ≡ q)
some_of true x q is = absurd (cc)
some_of false x q is = (refl, cc)

neither : (s t u : Bool) → (s || (t || u)) ≡ false → (s ≡ false) × (t ≡ false)
neither s t u none = let one = or_parts s (t || u) none in (one.0, (or_parts t u one.1).0)

standing_in : (loops : List (List Point)) (a b : ℤ) (q : Upright) → list_all (list_all is_plan_point) loops ≡ true
    → is_coordinate a ≡ true → is_coordinate b ≡ true → standing loops a b ≡ Some q → is_in_range q ≡ true
standing_in loops a b q all a_in b_in is =
    let some = some_of (are_flat loops || (are_knotted loops || int_eq a b)) (upright (plan_of loops) (lower_of a b) (upper_of a b)) q is in
    let good = neither (are_flat loops) (are_knotted loops) (int_eq a b) some.0 in
    subst (λ p. is_in_range p ≡ true) some.1
    (and_from (list_all (list_all is_plan_point) (plan_of loops)) (is_coordinate (lower_of a b) && is_coordinate (upper_of a b))
    (points_in_range (plan_of loops) (plan_comes_out loops all good.0 good.1))
    (and_from (is_coordinate (lower_of a b)) (is_coordinate (upper_of a b)) (lower_in a b a_in b_in) (upper_in a b a_in b_in)))

-- a loop that is a rectangle has its corners in range
pub corners_in_range : (points : List Point) (r : Point × Point) → list_all is_plan_point points ≡ true
    → rectangle_in (normal_loop points) ≡ Some r → IsBox r.0 r.1 (normal_loop points)
corners_in_range points r all is = by (keeps_few points) refl
  where
    by : (t : Bool) → keeps_few points ≡ t → IsBox r.0 r.1 (normal_loop points)
    by true few = absurd (never (sym (few_give_none (normal_loop points) few) ∙ is))
      where
        never : None ≡ Some r → ⊥
        never e = absurd (cc)
    by false many = is_box (normal_loop points) (normal_is_seen points all many) r is

pub only_in_range : (loops : List (List Point)) (r : Point × Point) → list_all (list_all is_plan_point) loops ≡ true
    → only_rectangle loops ≡ Some r → (is_plan_point r.0 ≡ true) × (is_plan_point r.1 ≡ true)
only_in_range [] r all is = absurd (cc)
only_in_range (loop ∷ []) r all is =
    let box = corners_in_range loop r (and_parts (list_all is_plan_point loop) true all).0 is in
    (box.low_in, box.high_in)
only_in_range (loop ∷ other ∷ loops) r all is = absurd (cc)

pub rectangle_points_in : (x0 x1 y0 y1 : ℤ) → is_coordinate x0 ≡ true → is_coordinate x1 ≡ true → is_coordinate y0 ≡ true
    → is_coordinate y1 ≡ true → list_all (list_all is_plan_point) (rectangle x0 x1 y0 y1 ∷ []) ≡ true
rectangle_points_in x0 x1 y0 y1 a b c d =
    and_from (list_all is_plan_point (rectangle x0 x1 y0 y1)) true
    (and_from (is_coordinate x0 && is_coordinate y0) _ (and_from (is_coordinate x0) (is_coordinate y0) a c)
    (and_from (is_coordinate x1 && is_coordinate y0) _ (and_from (is_coordinate x1) (is_coordinate y0) b c)
    (and_from (is_coordinate x1 && is_coordinate y1) _ (and_from (is_coordinate x1) (is_coordinate y1) b d)
    (and_from (is_coordinate x0 && is_coordinate y1) true (and_from (is_coordinate x0) (is_coordinate y1) a d) refl)))) refl

upright_in : (loops : List (List Point)) (a b : ℤ) → list_all (list_all is_plan_point) loops ≡ true
    → is_coordinate a ≡ true → is_coordinate b ≡ true → is_in_range (upright loops a b) ≡ true
upright_in loops a b all a_in b_in =
    and_from (list_all (list_all is_plan_point) loops) (is_coordinate a && is_coordinate b) all
    (and_from (is_coordinate a) (is_coordinate b) a_in b_in)

box_x_in : (r : Option (Point × Point)) (a b : ℤ) (q : Upright)
    → ((c : Point × Point) → r ≡ Some c → (is_plan_point c.0 ≡ true) × (is_plan_point c.1 ≡ true))
    → is_coordinate a ≡ true → is_coordinate b ≡ true → box_along_x r a b ≡ Some q → is_in_range q ≡ true
box_x_in None a b q corners a_in b_in is = absurd (cc)
box_x_in (Some (low, high)) a b q corners a_in b_in is =
    let some = some_of (int_eq a b) (upright (rectangle (lower_of a b) (upper_of a b) low.x high.x ∷ []) low.y high.y) q is in
    let at = corners (low, high) refl in
    let l = and_parts (is_coordinate low.x) (is_coordinate low.y) at.0 in
    let h = and_parts (is_coordinate high.x) (is_coordinate high.y) at.1 in
    subst (λ p. is_in_range p ≡ true) some.1
    (upright_in (rectangle (lower_of a b) (upper_of a b) low.x high.x ∷ []) low.y high.y
    (rectangle_points_in (lower_of a b) (upper_of a b) low.x high.x (lower_in a b a_in b_in) (upper_in a b a_in b_in) l.0 h.0) l.1 h.1)

box_y_in : (r : Option (Point × Point)) (a b : ℤ) (q : Upright)
    → ((c : Point × Point) → r ≡ Some c → (is_plan_point c.0 ≡ true) × (is_plan_point c.1 ≡ true))
    → is_coordinate a ≡ true → is_coordinate b ≡ true → box_along_y r a b ≡ Some q → is_in_range q ≡ true
box_y_in None a b q corners a_in b_in is = absurd (cc)
box_y_in (Some (low, high)) a b q corners a_in b_in is =
    let some = some_of (int_eq a b) (upright (rectangle low.x high.x (lower_of a b) (upper_of a b) ∷ []) low.y high.y) q is in
    let at = corners (low, high) refl in
    let l = and_parts (is_coordinate low.x) (is_coordinate low.y) at.0 in
    let h = and_parts (is_coordinate high.x) (is_coordinate high.y) at.1 in
    subst (λ p. is_in_range p ≡ true) some.1
    (upright_in (rectangle low.x high.x (lower_of a b) (upper_of a b) ∷ []) low.y high.y
    (rectangle_points_in low.x high.x (lower_of a b) (upper_of a b) l.0 h.0 (lower_in a b a_in b_in) (upper_in a b a_in b_in)) l.1 h.1)

pub prism_in_range : (along : Vector) (loops : List (List Vector)) (near far : Vector) (q : Upright)
    → every are_coordinates loops ≡ true → are_coordinates near ≡ true → are_coordinates far ≡ true
    → prism_between along loops near far ≡ Some q → is_in_range q ≡ true
prism_in_range along loops near far q all near_in far_in is = by (int_eq along.z (pos 0)) (int_eq along.x (pos 0)) is
  where
    by : (level side : Bool)
        → (if level
        then
        (if side
        then box_along_y (only_rectangle (map (map beside_y) loops)) near.y far.y
        else box_along_x (only_rectangle (map (map beside_x) loops)) near.x far.x)
        else standing (map (map in_the_plan) loops) near.z far.z) ≡ Some q → is_in_range q ≡ true
    by true true some =
        box_y_in (only_rectangle (map (map beside_y) loops)) near.y far.y q
        (λ c is. only_in_range (map (map beside_y) loops) c (seen_in beside_y y_in loops all) is)
        (and_parts (is_coordinate near.x) (is_coordinate near.y) (plan_in near near_in)).1
        (and_parts (is_coordinate far.x) (is_coordinate far.y) (plan_in far far_in)).1 some
    by true false some =
        box_x_in (only_rectangle (map (map beside_x) loops)) near.x far.x q
        (λ c is. only_in_range (map (map beside_x) loops) c (seen_in beside_x x_in loops all) is)
        (and_parts (is_coordinate near.x) (is_coordinate near.y) (plan_in near near_in)).0
        (and_parts (is_coordinate far.x) (is_coordinate far.y) (plan_in far far_in)).0 some
    by false side some =
        standing_in (map (map in_the_plan) loops) near.z far.z q (seen_in in_the_plan plan_in loops all)
        (and_parts (is_coordinate near.x) (is_coordinate near.z) (y_in near near_in)).1
        (and_parts (is_coordinate far.x) (is_coordinate far.z) (y_in far far_in)).1 some
