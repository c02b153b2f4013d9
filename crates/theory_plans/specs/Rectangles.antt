-- Rectangles with sides along x and y.
use Rattle.std.specs.Prelude.{ℤ, ◌*ℤ◌, Bool, ◌&&◌, int_lt, List, [], ◌∷◌}
use Rattle.sb_fraction.specs.declared.point.Point.{Point}
use Rattle.sb_fraction.specs.Spots.{Spot}

-- a plan point
abbrev pub corner : ℤ → ℤ → Point
corner x y = record { x = x; y = y }

-- the loop of a rectangle, counterclockwise from its least corner
abbrev pub rectangle : ℤ → ℤ → ℤ → ℤ → List Point
rectangle x0 x1 y0 y1 = corner x0 y0 ∷ corner x1 y0 ∷ corner x1 y1 ∷ corner x0 y1 ∷ []

-- x lies strictly between two abscissae
abbrev pub is_between_xs : ℤ → ℤ → Spot → Bool
is_between_xs x0 x1 p = int_lt (x0 *ℤ p.w) p.x && int_lt p.x (x1 *ℤ p.w)

-- y lies strictly between two numbers
abbrev pub is_between_ys : ℤ → ℤ → Spot → Bool
is_between_ys y0 y1 p = int_lt (y0 *ℤ p.w) p.y && int_lt p.y (y1 *ℤ p.w)

-- the point lies strictly between the sides of a rectangle
abbrev pub is_between_sides : ℤ → ℤ → ℤ → ℤ → Spot → Bool
is_between_sides x0 x1 y0 y1 p = is_between_xs x0 x1 p && is_between_ys y0 y1 p
