-- Normalising a closed loop: points that are not needed are dropped, and it begins at its least.

use Rattle.std.specs.Prelude.{ℕ, zero, suc, List, [], ◌∷◌, ◌++◌, length, if◌then◌else◌}
use Rattle.sb_fraction.specs.declared.point.Point.{Point}
use Rattle.theory_plans.specs.Loops.{is_bent, comes_before}
use Rattle.theory_plans.specs.Plans.{is_same_point}

-- ---- dropping points

-- the first of these points; where there is none, the one beyond them
abbrev pub first_of : List Point → Point → Point
first_of [] beyond = beyond
first_of (a ∷ points) beyond = a

-- the last of a and the points after it
abbrev pub last_of : Point → List Point → Point
last_of a [] = a
last_of a (b ∷ points) = last_of b points

-- of the points on the way from one point to another, the first that lies on one line with its two
-- neighbours is dropped. A point that equals a neighbour does so, and so does the tip of a spike
abbrev pub drop_between : Point → List Point → Point → List Point
drop_between before [] beyond = []
drop_between before (b ∷ points) beyond =
    if is_bent before b (first_of points beyond) then b ∷ drop_between b points beyond else points

-- of a closed loop, the first point on one line with its two neighbours is dropped. The last point
-- is a neighbour of the first; a point alone is its own neighbour
abbrev pub drop_first : List Point → List Point
drop_first [] = []
drop_first (a ∷ points) = drop_between (last_of a points) (a ∷ points) a

-- so many times
abbrev pub dropped_times : ℕ → List Point → List Point
dropped_times zero points = points
dropped_times (suc n) points = dropped_times n (drop_first points)

-- until there is none: a loop has no more points to be dropped than it has points
abbrev pub dropped : List Point → List Point
dropped points = dropped_times (length points) points

-- ---- the least point first

-- the least of a and these points, by x and then by y
abbrev pub least_of : Point → List Point → Point
least_of a [] = a
least_of a (b ∷ points) = least_of (if comes_before b a then b else a) points

-- the closed loop of those passed and these points, read from the first of these that is m
abbrev pub read_from : Point → List Point → List Point → List Point
read_from m passed [] = passed
read_from m passed (b ∷ points) =
    if is_same_point b m then b ∷ (points ++ passed) else read_from m (passed ++ (b ∷ [])) points

-- the closed loop, read from its least point on
abbrev pub from_least : List Point → List Point
from_least [] = []
from_least (a ∷ points) = read_from (least_of a points) [] (a ∷ points)

-- ---- both

-- the loop without the points that are not needed, from its least point on. Its sense is as it was
abbrev pub normal_loop : List Point → List Point
normal_loop points = from_least (dropped points)
