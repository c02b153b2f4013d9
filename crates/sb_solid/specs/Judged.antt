-- What is kept of a solid under one turn: where its coordinates lie, and its prism in whole millimetres
-- counted from its least coordinates, which is the same wherever it is moved.
use Rattle.std.specs.Prelude.{◌≡◌, ℕ, ℤ, pos, ◌+ℤ◌, ◌-ℤ◌, Bool, true, false, not, ◌&&◌, int_lt, int_le, min, List, [], ◌∷◌, map, length, Option, Some, None, Result, Ok, Err, IsTrue, if◌then◌else◌}
use Rattle.std.specs.List.{list_all, flat_map}
use Rattle.std.specs.Ordering.{int_eq}
use Rattle.sb_fraction.specs.declared.point.Point.{Point}
use Rattle.sb_fraction.specs.Spots.{Vector, vector}
use Rattle.sb_fraction.specs.Plane.{is_plan_point, is_coordinate}
use Rattle.theory_plans.specs.Rectangles.{corner}
use Rattle.theory_plans.specs.Plans.{corners_in}
use Rattle.sb_model.specs.Frames.{sum_of}
use Rattle.sb_model.specs.Solids.{Upright}
use Rattle.sb_solid.specs.declared.points.axes.Coordinate.{Coordinate}
use Rattle.sb_solid.specs.declared.points.axes.Coordinate.TheVariants as coordinate
use Rattle.sb_solid.specs.declared.points.axes.View.{View}
use Rattle.sb_solid.specs.declared.points.axes.View.TheVariants as view
use Rattle.sb_solid.specs.declared.points.sizes.Wide.{Wide}
use Rattle.sb_solid.specs.declared.points.sizes.Lying.{Lying}
use Rattle.sb_solid.specs.declared.placing.Placing.{Placing}
use Rattle.sb_solid.specs.declared.judged.Judged.{Judged}
use Rattle.sb_solid.specs.declared.error.SolidError.{SolidError}
use Rattle.sb_solid.specs.declared.error.SolidError.TheVariants as solid_error
use Rattle.sb_solid.specs.Grid.{nearest_millimetre}
use Rattle.sb_solid.specs.Solids.{Extruded, lower_of, in_the_plan, beside_x, beside_y, first_in, prism_between, JudgesAt}
use Rattle.sb_solid.specs.Spans.{IsSpanOf}
use Rattle.sb_solid.specs.Steps.{vector_at, wide_at, coordinate_of}

-- ---- counted from an anchor

-- the least number at both ends
abbrev pub anchor_of : ℤ → ℤ → ℤ
anchor_of low way = lower_of low (low +ℤ way)

-- a number lies at most 1 km and 20 µm above the anchor: where two numbers lie farther apart, one of them is
-- out of range wherever they are moved
abbrev pub is_close : ℤ → ℤ → Bool
is_close anchor n = not (int_lt (n -ℤ anchor) (pos 0)) && int_le (n -ℤ anchor) (pos 1000000020000)

-- its whole millimetre, counted from 500 m below the anchor
abbrev pub base_of : ℤ → ℤ → ℤ
base_of anchor n = nearest_millimetre (n -ℤ anchor) -ℤ pos 500000

abbrev pub IsBase : ℤ → ℤ → Option ℤ → Type 0
IsBase anchor n None = is_close anchor n ≡ false
IsBase anchor n (Some k) = (is_close anchor n ≡ true) × (k ≡ base_of anchor n) × IsTrue (is_coordinate k)

-- how many whole millimetres all are moved from there by a shift
abbrev pub step_of : ℤ → ℤ → ℤ
step_of anchor shift = nearest_millimetre (anchor +ℤ shift) +ℤ pos 500000

-- along each axis
abbrev pub steps_of : Vector → Vector → Vector
steps_of anchor shift =
    vector (step_of anchor.x shift.x) (step_of anchor.y shift.y) (step_of anchor.z shift.z)

-- ---- points

-- the solid of points that the code keeps
abbrev pub lying_solid : List (List Lying) → Lying → Vector → Extruded
lying_solid loops way along = record { loops = map (map vector_at) loops; way = vector_at way; along = along }

abbrev pub base_at : Vector → Vector → Vector
base_at anchor p = vector (base_of anchor.x p.x) (base_of anchor.y p.y) (base_of anchor.z p.z)

abbrev pub is_close_point : Vector → Vector → Bool
is_close_point anchor p = is_close anchor.x p.x && (is_close anchor.y p.y && is_close anchor.z p.z)

-- a point and where it lies at the far end
abbrev pub are_close_ends : Vector → Vector → Vector → Bool
are_close_ends anchor way p = is_close_point anchor p && is_close_point anchor (sum_of p way)

abbrev pub are_close : Extruded → Vector → Bool
are_close e anchor = list_all (list_all (are_close_ends anchor e.way)) e.loops

-- the prism counted from the anchors
abbrev pub base_prism : Extruded → Vector → Option Upright
base_prism e anchor =
    prism_between e.along (map (map (base_at anchor)) e.loops) (base_at anchor (first_in e.loops))
    (base_at anchor (sum_of (first_in e.loops) e.way))

-- ---- seen from one side

-- from above where the local z goes up or down, else along the axis on which it goes
abbrev pub view_along : Vector → View
view_along v =
    if int_eq v.z (pos 0) then (if int_eq v.x (pos 0) then view.AlongY else view.AlongX) else view.Above

abbrev pub in_view : View → Vector → Point
in_view view.Above v = in_the_plan v
in_view view.AlongX v = beside_x v
in_view view.AlongY v = beside_y v

abbrev pub is_close_in : View → Vector → Vector → Bool
is_close_in view.Above a v = is_close a.x v.x && is_close a.y v.y
is_close_in view.AlongX a v = is_close a.y v.y && is_close a.z v.z
is_close_in view.AlongY a v = is_close a.x v.x && is_close a.z v.z

-- along the line of sight
abbrev pub depth_in : View → Vector → ℤ
depth_in view.Above v = v.z
depth_in view.AlongX v = v.x
depth_in view.AlongY v = v.y

abbrev pub IsSeenPoint : View → Wide → Lying → Option Point → Type 0
IsSeenPoint v a l None = is_close_in v (wide_at a) (vector_at l) ≡ false
IsSeenPoint v a l (Some p) =
    (is_close_in v (wide_at a) (vector_at l) ≡ true)
    × (p ≡ in_view v (base_at (wide_at a) (vector_at l))) × IsTrue (is_plan_point p)

abbrev pub seen_at : View → Wide → Lying → Point
seen_at v a l = in_view v (base_at (wide_at a) (vector_at l))

abbrev pub IsSeenLoop : View → Wide → List Lying → Option (List Point) → Type 0
IsSeenLoop v a points None = list_all (λ l. is_close_in v (wide_at a) (vector_at l)) points ≡ false
IsSeenLoop v a points (Some all) = (all ≡ map (seen_at v a) points) × (list_all is_plan_point all ≡ true)

abbrev pub AreSeen : View → Wide → List (List Lying) → Option (List (List Point)) → Type 0
AreSeen v a loops None =
    list_all (list_all (λ l. is_close_in v (wide_at a) (vector_at l))) loops ≡ false
AreSeen v a loops (Some all) =
    (all ≡ map (map (seen_at v a)) loops) × (list_all (list_all is_plan_point) all ≡ true)

abbrev pub point_of : Option ℤ → Option ℤ → Option Point
point_of (Some x) (Some y) = Some (corner x y)
point_of _ _ = None

abbrev pub both : Option ℤ → Option ℤ → Option (ℤ × ℤ)
both (Some a) (Some b) = Some (a, b)
both _ _ = None

abbrev pub first_of : List (List Lying) → Option Lying
first_of ((l ∷ _) ∷ _) = Some l
first_of _ = None

-- where this point lies along the line of sight at both ends
abbrev pub AreEndsOf : View → Vector → Vector → Vector → Option (ℤ × ℤ) → Type 0
AreEndsOf v a way p None =
    (is_close (depth_in v a) (depth_in v p) && is_close (depth_in v a) (depth_in v (sum_of p way))) ≡ false
AreEndsOf v a way p (Some (m, n)) =
    (m ≡ base_of (depth_in v a) (depth_in v p)) × (n ≡ base_of (depth_in v a) (depth_in v (sum_of p way)))
    × IsTrue (is_coordinate m) × IsTrue (is_coordinate n)

abbrev pub AreEnds : View → Wide → Lying → List (List Lying) → Option (ℤ × ℤ) → Type 0
AreEnds v a way ((l ∷ _) ∷ _) result = AreEndsOf v (wide_at a) (vector_at way) (vector_at l) result
AreEnds v a way _ result = result ≡ None

-- ---- what is kept

-- the coordinates of loops along an axis
abbrev pub numbers_in : Coordinate → List (List Vector) → List ℤ
numbers_in c loops = flat_map (map (coordinate_of c)) loops

pub record AreSpansOf (loops : List (List Vector)) (p : Placing) : Type 0 where
  pub x : IsSpanOf (numbers_in coordinate.X loops) p.x
  pub y : IsSpanOf (numbers_in coordinate.Y loops) p.y
  pub z : IsSpanOf (numbers_in coordinate.Z loops) p.z

-- the anchors of a solid
abbrev pub anchor_at : Placing → Vector → Vector
anchor_at p way =
    vector (anchor_of p.x.reach.low way.x) (anchor_of p.y.reach.low way.y) (anchor_of p.z.reach.low way.z)

-- a count that stands still at the end of its type
abbrev pub counted : ℕ → ℕ
counted n = min n 18446744073709551615

abbrev pub points_in : Upright → ℕ
points_in prism = length (corners_in prism.loops)

abbrev pub points_where : Option Upright → ℕ
points_where None = 0
points_where (Some prism) = counted (points_in prism)

pub record IsPlacingOf (e : Extruded) (p : Placing) : Type 0 where
  pub spans : AreSpansOf e.loops p
  pub prism : are_close e (anchor_at p e.way) ≡ true → p.prism ≡ base_prism e (anchor_at p e.way)
  pub points : p.points ≡ points_where p.prism

-- no loop has a point
abbrev pub IsEmpty : List (List Vector) → Type 0
IsEmpty loops = numbers_in coordinate.X loops ≡ []

abbrev pub IsPlacingWhere : Extruded → Option Placing → Type 0
IsPlacingWhere e None = IsEmpty e.loops
IsPlacingWhere e (Some p) = IsPlacingOf e p

-- what is kept of a solid that is turned
pub record IsJudgedOf (e : Extruded) (j : Judged) : Type 0 where
  pub way : vector_at j.way ≡ e.way
  pub placing : IsPlacingWhere e j.placing

-- what is answered of a solid that is moved: the first that holds of Range, OffGrid and Loops, or of how many
-- points its prism is
abbrev pub PlacedAt : Extruded → Vector → Result ℕ SolidError → Type 0
PlacedAt e shift (Err solid_error.NoMemory) = ⊥
PlacedAt e shift (Err error) = JudgesAt e shift (Err error)
PlacedAt e shift (Ok n) = (prism : Upright) × JudgesAt e shift (Ok prism) × (n ≡ counted (points_in prism))
