-- Which lists of points are the loops of a plan.

use Rattle.std.specs.Prelude.{ℤ, pos, Bool, true, false, not, ◌&&◌, ◌||◌, ◌-ℤ◌, ◌*ℤ◌, List, [], ◌∷◌, length}
use Rattle.std.specs.Prelude.{nat_le, int_lt}
use Rattle.std.specs.Ordering.{int_eq}
use Rattle.std.specs.List.{list_all}
use Rattle.sb_fraction.specs.declared.point.Point.{Point}
use Rattle.sb_fraction.specs.Plane.{is_plan_point}

-- (b - a) × (c - b): above 0 where the way from a over b to c turns left, 0 where it goes straight
abbrev pub bend : Point → Point → Point → ℤ
bend a b c = ((b.x -ℤ a.x) *ℤ (c.y -ℤ b.y)) -ℤ ((b.y -ℤ a.y) *ℤ (c.x -ℤ b.x))

-- the way from a over b to c does not go straight
abbrev pub is_bent : Point → Point → Point → Bool
is_bent a b c = not (int_eq (bend a b c) (pos 0))

-- the way from a over b and the further points to the first and the second is bent at each point
abbrev pub are_bent : Point → Point → List Point → Point → Point → Bool
are_bent a b [] first second = is_bent a b first && is_bent b first second
are_bent a b (c ∷ cs) first second = is_bent a b c && are_bent b c cs first second

-- no three neighbours of the closed loop lie on one line
abbrev pub is_bent_loop : List Point → Bool
is_bent_loop [] = false
is_bent_loop (a ∷ []) = false
is_bent_loop (a ∷ b ∷ rest) = are_bent a b rest a b

-- a comes before b: it has the lesser x, or the same x and the lesser y
abbrev pub comes_before : Point → Point → Bool
comes_before a b = int_lt a.x b.x || (int_eq a.x b.x && int_lt a.y b.y)

-- the loop begins at its least point
abbrev pub is_least_first : List Point → Bool
is_least_first [] = true
is_least_first (a ∷ points) = list_all (comes_before a) points

-- a loop of at least three points in range, from its least point on, no three neighbours on one
-- line
abbrev pub is_loop : List Point → Bool
is_loop points =
    nat_le 3 (length points)
    && (list_all is_plan_point points
    && (is_bent_loop points && is_least_first points))

-- at least one loop, and each is one
abbrev pub are_loops : List (List Point) → Bool
are_loops loops = nat_le 1 (length loops) && list_all is_loop loops

-- four corners of a rectangle along x and y, from the least corner on, counterclockwise
abbrev pub are_corners : Point → Point → Point → Point → Bool
are_corners a b c d =
    int_lt a.x b.x && (int_lt a.y c.y
    && (int_eq b.y a.y && (int_eq c.x b.x && (int_eq d.x a.x && int_eq d.y c.y))))

-- one loop, of the four corners of a rectangle in range
abbrev pub is_rectangle : List (List Point) → Bool
is_rectangle ((a ∷ b ∷ c ∷ d ∷ []) ∷ []) = are_corners a b c d
    && (is_plan_point a && is_plan_point c)
is_rectangle _ = false
