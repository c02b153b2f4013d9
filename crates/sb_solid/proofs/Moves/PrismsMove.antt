-- The prism of loops that are moved by whole millimetres is their prism, moved.
use Rattle.std.proofs.Common.{◌≡◌, ℤ, pos, ◌+ℤ◌, Bool, true, false, ◌&&◌, ◌||◌, List, [], ◌∷◌, map, Option, Some, None, refl, ap, ap₂, ◌∙◌}
use Rattle.std.specs.Prelude.{int_lt, if◌then◌else◌}
use Rattle.std.specs.Option.{option_map}
use Rattle.std.specs.Ordering.{int_eq}
use Rattle.sb_fraction.specs.declared.point.Point.{Point}
use Rattle.sb_fraction.specs.Spots.{Vector}
use Rattle.theory_numbers.specs.Arrows.{Arrow, arrow}
use Rattle.theory_plans.specs.Rectangles.{rectangle}
use Rattle.theory_loops.specs.Normal.{normal_loop}
use Rattle.theory_loops.specs.Answers.{are_flat, are_knotted, plan_of}
use Rattle.theory_shifts.specs.Shifts.{moved, moved_loop, moved_loops}
use Rattle.theory_shifts.proofs.StepsStay.{less-moved, equal-moved, same-moved}
use Rattle.theory_shifts.proofs.NormalMoves.{normal-moved}
use Rattle.theory_shifts.proofs.PlansMove.{flat-moved, knotted-moved, plan-moved}
use Rattle.sb_model.specs.Frames.{sum_of}
use Rattle.sb_model.specs.Solids.{upright}
use Rattle.sb_solid.specs.Solids.{lower_of, upper_of, in_the_plan, beside_x, beside_y, are_same_points, rectangle_in, only_rectangle, standing, box_along_x, box_along_y, prism_between}
use Rattle.sb_solid.specs.Moving.{in_plan, moved_upright}

-- a point moved so far
abbrev pub shifted : Vector → Vector → Vector
shifted v p = sum_of p v

abbrev pub shifted_loops : Vector → List (List Vector) → List (List Vector)
shifted_loops v loops = map (map (shifted v)) loops

-- ---- intervals

lower-moved : (a b d : ℤ) → lower_of (a +ℤ d) (b +ℤ d) ≡ lower_of a b +ℤ d
lower-moved a b d = ap (λ t. if t then b +ℤ d else a +ℤ d) (less-moved b a d) ∙ by (int_lt b a)
  where
    by : (t : Bool) → (if t then b +ℤ d else a +ℤ d) ≡ (if t then b else a) +ℤ d
    by true = refl
    by false = refl

upper-moved : (a b d : ℤ) → upper_of (a +ℤ d) (b +ℤ d) ≡ upper_of a b +ℤ d
upper-moved a b d = ap (λ t. if t then a +ℤ d else b +ℤ d) (less-moved b a d) ∙ by (int_lt b a)
  where
    by : (t : Bool) → (if t then a +ℤ d else b +ℤ d) ≡ (if t then a else b) +ℤ d
    by true = refl
    by false = refl

-- ---- one answer or another

chosen : {X Y : Type 0} (f : X → Y) (s t : Bool) (y : Y) (x : X) → s ≡ t → y ≡ f x
    → (if s then None else Some y) ≡ option_map f (if t then None else Some x)
chosen f s t y x same is = ap (λ b. if b then None else Some y) same ∙ by t
  where
    by : (b : Bool) → (if b then None else Some y) ≡ option_map f (if b then None else Some x)
    by true = refl
    by false = ap Some is

picked : {X Y : Type 0} (f : X → Y) (s t : Bool) (y : Y) (x : X) → s ≡ t → y ≡ f x
    → (if s then Some y else None) ≡ option_map f (if t then Some x else None)
picked f s t y x same is = ap (λ b. if b then Some y else None) same ∙ by t
  where
    by : (b : Bool) → (if b then Some y else None) ≡ option_map f (if b then Some x else None)
    by true = ap Some is
    by false = refl

-- ---- rectangles

abbrev moved_pair : Arrow → (Point × Point) → (Point × Point)
moved_pair d p = (moved d p.0, moved d p.1)

same_points-moved : (d : Arrow) (as_ bs : List Point)
    → are_same_points (moved_loop d as_) (moved_loop d bs) ≡ are_same_points as_ bs
same_points-moved d [] [] = refl
same_points-moved d [] (b ∷ bs) = refl
same_points-moved d (a ∷ as_) [] = refl
same_points-moved d (a ∷ as_) (b ∷ bs) = ap₂ (λ s t. s && t) (same-moved d a b) (same_points-moved d as_ bs)

rectangle_in-moved : (d : Arrow) (points : List Point)
    → rectangle_in (moved_loop d points) ≡ option_map (moved_pair d) (rectangle_in points)
rectangle_in-moved d [] = refl
rectangle_in-moved d (a ∷ []) = refl
rectangle_in-moved d (a ∷ b ∷ []) = refl
rectangle_in-moved d (a ∷ b ∷ c ∷ []) = refl
rectangle_in-moved d (a ∷ b ∷ c ∷ e ∷ []) =
    picked (moved_pair d)
    (are_same_points (moved_loop d (a ∷ b ∷ c ∷ e ∷ [])) (moved_loop d (rectangle a.x c.x a.y c.y))
    || are_same_points (moved_loop d (a ∷ e ∷ c ∷ b ∷ [])) (moved_loop d (rectangle a.x c.x a.y c.y)))
    (are_same_points (a ∷ b ∷ c ∷ e ∷ []) (rectangle a.x c.x a.y c.y)
    || are_same_points (a ∷ e ∷ c ∷ b ∷ []) (rectangle a.x c.x a.y c.y))
    (moved d a, moved d c) (a, c)
    (ap₂ (λ s t. s || t) (same_points-moved d (a ∷ b ∷ c ∷ e ∷ []) (rectangle a.x c.x a.y c.y))
    (same_points-moved d (a ∷ e ∷ c ∷ b ∷ []) (rectangle a.x c.x a.y c.y))) refl
rectangle_in-moved d (a ∷ b ∷ c ∷ e ∷ f ∷ points) = refl

only-moved : (d : Arrow) (loops : List (List Point))
    → only_rectangle (moved_loops d loops) ≡ option_map (moved_pair d) (only_rectangle loops)
only-moved d [] = refl
only-moved d (loop ∷ []) = ap rectangle_in (normal-moved d loop) ∙ rectangle_in-moved d (normal_loop loop)
only-moved d (loop ∷ other ∷ loops) = refl

-- ---- prisms

standing-moved : (v : Vector) (loops : List (List Point)) (a b : ℤ)
    → standing (moved_loops (in_plan v) loops) (a +ℤ v.z) (b +ℤ v.z)
    ≡ option_map (moved_upright v) (standing loops a b)
standing-moved v loops a b =
    chosen (moved_upright v)
    (are_flat (moved_loops (in_plan v) loops) || (are_knotted (moved_loops (in_plan v) loops) || int_eq (a +ℤ v.z) (b +ℤ v.z)))
    (are_flat loops || (are_knotted loops || int_eq a b))
    (upright (plan_of (moved_loops (in_plan v) loops)) (lower_of (a +ℤ v.z) (b +ℤ v.z)) (upper_of (a +ℤ v.z) (b +ℤ v.z)))
    (upright (plan_of loops) (lower_of a b) (upper_of a b))
    (ap₂ (λ s t. s || t) (flat-moved (in_plan v) loops)
    (ap₂ (λ s t. s || t) (knotted-moved (in_plan v) loops) (equal-moved a b v.z)))
    (ap (λ l. upright l (lower_of (a +ℤ v.z) (b +ℤ v.z)) (upper_of (a +ℤ v.z) (b +ℤ v.z))) (plan-moved (in_plan v) loops)
    ∙ ap₂ (λ m n. upright (moved_loops (in_plan v) (plan_of loops)) m n) (lower-moved a b v.z) (upper-moved a b v.z))

box_x-moved : (v : Vector) (r : Option (Point × Point)) (a b : ℤ)
    → box_along_x (option_map (moved_pair (arrow v.y v.z)) r) (a +ℤ v.x) (b +ℤ v.x)
    ≡ option_map (moved_upright v) (box_along_x r a b)
box_x-moved v None a b = refl
box_x-moved v (Some (low, high)) a b =
    chosen (moved_upright v) (int_eq (a +ℤ v.x) (b +ℤ v.x)) (int_eq a b)
    (upright (rectangle (lower_of (a +ℤ v.x) (b +ℤ v.x)) (upper_of (a +ℤ v.x) (b +ℤ v.x)) (low.x +ℤ v.y) (high.x +ℤ v.y) ∷ [])
    (low.y +ℤ v.z) (high.y +ℤ v.z))
    (upright (rectangle (lower_of a b) (upper_of a b) low.x high.x ∷ []) low.y high.y)
    (equal-moved a b v.x)
    (ap₂ (λ m n. upright (rectangle m n (low.x +ℤ v.y) (high.x +ℤ v.y) ∷ []) (low.y +ℤ v.z) (high.y +ℤ v.z))
    (lower-moved a b v.x) (upper-moved a b v.x))

box_y-moved : (v : Vector) (r : Option (Point × Point)) (a b : ℤ)
    → box_along_y (option_map (moved_pair (arrow v.x v.z)) r) (a +ℤ v.y) (b +ℤ v.y)
    ≡ option_map (moved_upright v) (box_along_y r a b)
box_y-moved v None a b = refl
box_y-moved v (Some (low, high)) a b =
    chosen (moved_upright v) (int_eq (a +ℤ v.y) (b +ℤ v.y)) (int_eq a b)
    (upright (rectangle (low.x +ℤ v.x) (high.x +ℤ v.x) (lower_of (a +ℤ v.y) (b +ℤ v.y)) (upper_of (a +ℤ v.y) (b +ℤ v.y)) ∷ [])
    (low.y +ℤ v.z) (high.y +ℤ v.z))
    (upright (rectangle low.x high.x (lower_of a b) (upper_of a b) ∷ []) low.y high.y)
    (equal-moved a b v.y)
    (ap₂ (λ m n. upright (rectangle (low.x +ℤ v.x) (high.x +ℤ v.x) m n ∷ []) (low.y +ℤ v.z) (high.y +ℤ v.z))
    (lower-moved a b v.y) (upper-moved a b v.y))

-- ---- loops as they are seen

seen-moved : (see : Vector → Point) (v : Vector) (d : Arrow) → ((p : Vector) → see (sum_of p v) ≡ moved d (see p))
    → (loops : List (List Vector)) → map (map see) (shifted_loops v loops) ≡ moved_loops d (map (map see) loops)
seen-moved see v d each [] = refl
seen-moved see v d each (points ∷ loops) =
    ap₂ (λ s t. s ∷ t) (along points) (seen-moved see v d each loops)
  where
    along : (ps : List Vector) → map see (map (shifted v) ps) ≡ moved_loop d (map see ps)
    along [] = refl
    along (p ∷ ps) = ap₂ (λ s t. s ∷ t) (each p) (along ps)

-- ---- all of it

pub prism-moved : (along v : Vector) (loops : List (List Vector)) (near far : Vector)
    → prism_between along (shifted_loops v loops) (sum_of near v) (sum_of far v)
    ≡ option_map (moved_upright v) (prism_between along loops near far)
prism-moved along v loops near far = by (int_eq along.z (pos 0)) (int_eq along.x (pos 0))
  where
    by : (level side : Bool)
        → (if level
        then
        (if side
        then box_along_y (only_rectangle (map (map beside_y) (shifted_loops v loops))) (near.y +ℤ v.y) (far.y +ℤ v.y)
        else box_along_x (only_rectangle (map (map beside_x) (shifted_loops v loops))) (near.x +ℤ v.x) (far.x +ℤ v.x))
        else standing (map (map in_the_plan) (shifted_loops v loops)) (near.z +ℤ v.z) (far.z +ℤ v.z))
        ≡ option_map (moved_upright v)
        (if level
        then
        (if side
        then box_along_y (only_rectangle (map (map beside_y) loops)) near.y far.y
        else box_along_x (only_rectangle (map (map beside_x) loops)) near.x far.x)
        else standing (map (map in_the_plan) loops) near.z far.z)
    by true true =
        ap (λ l. box_along_y (only_rectangle l) (near.y +ℤ v.y) (far.y +ℤ v.y))
        (seen-moved beside_y v (arrow v.x v.z) (λ p. refl) loops)
        ∙ ap (λ r. box_along_y r (near.y +ℤ v.y) (far.y +ℤ v.y)) (only-moved (arrow v.x v.z) (map (map beside_y) loops))
        ∙ box_y-moved v (only_rectangle (map (map beside_y) loops)) near.y far.y
    by true false =
        ap (λ l. box_along_x (only_rectangle l) (near.x +ℤ v.x) (far.x +ℤ v.x))
        (seen-moved beside_x v (arrow v.y v.z) (λ p. refl) loops)
        ∙ ap (λ r. box_along_x r (near.x +ℤ v.x) (far.x +ℤ v.x)) (only-moved (arrow v.y v.z) (map (map beside_x) loops))
        ∙ box_x-moved v (only_rectangle (map (map beside_x) loops)) near.x far.x
    by false side =
        ap (λ l. standing l (near.z +ℤ v.z) (far.z +ℤ v.z))
        (seen-moved in_the_plan v (in_plan v) (λ p. refl) loops)
        ∙ standing-moved v (map (map in_the_plan) loops) near.z far.z
