-- Steps from loops in whole millimetres to a prism.
use Rattle.std.specs.Prelude.{◌≡◌, ℤ, Bool, true, false, ◌||◌, int_lt, List, [], ◌∷◌, Option, Some, None, IsTrue, if◌then◌else◌}
use Rattle.sb_fraction.specs.declared.point.Point.{Point}
use Rattle.sb_fraction.specs.Plane.{is_plan_point, is_coordinate}
use Rattle.theory_loops.specs.Answers.{are_flat, are_knotted, plan_of}
use Rattle.sb_model.specs.Solids.{Upright, upright}
use Rattle.sb_solid.specs.declared.points.axes.View.{View}
use Rattle.sb_solid.specs.declared.points.axes.View.TheVariants as view
use Rattle.sb_solid.specs.declared.boxes.Corners.{Corners}
use Rattle.sb_solid.specs.Solids as solids

-- the plan of loops that have one
abbrev pub plan_where : List (List Point) → Option (List (List Point))
plan_where loops = if are_flat loops || are_knotted loops then None else Some (plan_of loops)

-- a plan between two heights
abbrev pub between : List (List Point) → ℤ → ℤ → Option Upright
between loops a b =
    if int_lt a b then Some (upright loops a b) else (if int_lt b a then Some (upright loops b a) else None)

abbrev pub boxed : Bool → List (List Point) → ℤ → ℤ → Option Upright
boxed true points a b = solids.box_along_x (solids.only_rectangle points) a b
boxed false points a b = solids.box_along_y (solids.only_rectangle points) a b

abbrev pub prism_seen : View → List (List Point) → ℤ → ℤ → Option Upright
prism_seen view.Above points a b = solids.standing points a b
prism_seen view.AlongX points a b = boxed true points a b
prism_seen view.AlongY points a b = boxed false points a b

abbrev pub pair_of : Option Corners → Option (Point × Point)
pair_of None = None
pair_of (Some c) = Some (c.low, c.high)

-- an interval in range, of a length
pub record IsInterval (low high : ℤ) : Type 0 where
  pub apart : int_lt low high ≡ true
  pub low_in : IsTrue (is_coordinate low)
  pub high_in : IsTrue (is_coordinate high)

-- corners in range, the first lower in both coordinates
pub record AreCorners (c : Corners) : Type 0 where
  pub low_in : IsTrue (is_plan_point c.low)
  pub high_in : IsTrue (is_plan_point c.high)
  pub along_x : int_lt c.low.x c.high.x ≡ true
  pub along_y : int_lt c.low.y c.high.y ≡ true

abbrev pub AreCornersWhere : Option Corners → Type 0
AreCornersWhere None = Unit {0}
AreCornersWhere (Some c) = AreCorners c

abbrev pub IsOnly : List (List Point) → Option Corners → Type 0
IsOnly points corners = (pair_of corners ≡ solids.only_rectangle points) × AreCornersWhere corners

-- the corners of the first loop
abbrev pub first_rectangle : List (List Point) → Option (Point × Point)
first_rectangle [] = None
first_rectangle (loop ∷ _) = solids.rectangle_in loop

abbrev pub IsFirst : List (List Point) → Option Corners → Type 0
IsFirst points corners = pair_of corners ≡ first_rectangle points

abbrev pub box_of : Bool → Corners → ℤ → ℤ → Option Upright
box_of true c a b = solids.box_along_x (Some (c.low, c.high)) a b
box_of false c a b = solids.box_along_y (Some (c.low, c.high)) a b
