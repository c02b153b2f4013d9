-- Sides of patches. In the coordinates u (along) and v (across or up) of a face each side is a line
-- that no line u = constant is parallel to, so it has one value v at each u. The side of a patch
-- on a slab face runs along plan edges; on a side face it is a height.
use Rattle.std.specs.Prelude.{ℤ, pos, ◌+ℤ◌, ◌-ℤ◌, ◌*ℤ◌, ◌<ℤ◌, Bool, ◌&&◌}
use Rattle.std.specs.Ordering.{int_eq}
use Rattle.theory_numbers.specs.Arrows.{Arrow, arrow}
use Rattle.theory_numbers.specs.Rationals.{value_at}
use Rattle.theory_numbers.specs.Reduced.{IsReduced}

-- the points with dx·v = dy·u + off
pub record LineSide : Type 0 where
  pub dx : ℤ
  pub dy : ℤ
  pub off : ℤ

-- the line of direction (dx, dy) and offset off
abbrev pub line : ℤ → ℤ → ℤ → LineSide
line dx dy off = record { dx = dx; dy = dy; off = off }

-- the height h: the line of direction (1, 0)
abbrev pub level : ℤ → LineSide
level h = line (pos 1) (pos 0) h

-- its first part is positive, so it has a value at each u
abbrev pub IsLineSide : LineSide → Type 0
IsLineSide l = pos 0 <ℤ l.dx

-- and its direction is reduced: then one line is one record. Off is whole then
abbrev pub IsReducedSide : LineSide → Type 0
IsReducedSide l = IsReduced l.dy l.dx

-- the value v = (dy·u + off)/dx at the rational number u; `value_on (level h) u` is h, over u's
-- denominator
unfoldable pub value_on : LineSide → Arrow → Arrow
value_on l u = arrow (l.dx *ℤ u.x) ((l.dy *ℤ u.y) +ℤ (l.off *ℤ u.x))

-- how far m lies above l, as a linear form in (denominator, numerator) of u, up to a positive
-- factor: above 0 where m is above l, 0 where they meet. It is the only way in which two sides are
-- compared
unfoldable pub clearance : LineSide → LineSide → Arrow
clearance l m =
    arrow ((m.off *ℤ l.dx) -ℤ (l.off *ℤ m.dx)) ((m.dy *ℤ l.dx) -ℤ (l.dy *ℤ m.dx))

-- its value at u
abbrev pub clearance_at : LineSide → LineSide → Arrow → ℤ
clearance_at l m u = value_at (clearance l m) u

-- the two are one side, as data
abbrev pub is_same_side : LineSide → LineSide → Bool
is_same_side l m = int_eq l.dx m.dx && (int_eq l.dy m.dy && int_eq l.off m.off)
