-- A line passes over the plan along d. It passes a point p at the number p·d.

use Rattle.std.specs.Prelude.{ℤ, pos, ◌<ℤ◌}
use Rattle.theory_numbers.specs.Arrows.{Arrow, arrow}
use Rattle.theory_numbers.specs.Rationals.{rational}
use Rattle.sb_fraction.specs.declared.point.Point.{Point}
use Rattle.sb_fraction.specs.Crossings.{abscissa_at}
use Rattle.sb_fraction.specs.Edges.{Edge}
use Rattle.sb_fraction.specs.Lines.{flat}

-- the number at which the line passes a plan point
abbrev pub pass_of : Arrow → Point → ℤ
pass_of d p = abscissa_at p (flat d)

-- a whole number, as a place of the line
abbrev pub at_pass : ℤ → Arrow
at_pass k = rational k (pos 1)

-- the line passes the edge's end a first
abbrev pub IsRising : Arrow → Edge → Type 0
IsRising d e = pass_of d e.a <ℤ pass_of d e.b

-- the way by which the line passes points in range by x, and by y where these are equal: a step of
-- 1 in x is more than each difference in y
abbrev pub sweep_way : Arrow
sweep_way = arrow (pos 1000001) (pos 1)
