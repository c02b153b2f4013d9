-- Loops of plan points that are moved as a whole, by whole steps along x and y.
use Rattle.std.specs.Prelude.{ℤ, ◌+ℤ◌, List, map}
use Rattle.sb_fraction.specs.declared.point.Point.{Point}
use Rattle.theory_numbers.specs.Arrows.{Arrow}
use Rattle.theory_plans.specs.Rectangles.{corner}

-- the point so far along x and y from this one
abbrev pub moved : Arrow → Point → Point
moved d p = corner (p.x +ℤ d.x) (p.y +ℤ d.y)

abbrev pub moved_loop : Arrow → List Point → List Point
moved_loop d points = map (moved d) points

abbrev pub moved_loops : Arrow → List (List Point) → List (List Point)
moved_loops d loops = map (moved_loop d) loops
