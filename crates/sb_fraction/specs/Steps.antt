-- What the private steps of the calls promise.

use Rattle.std.specs.Prelude.{ℤ, pos, ◌-ℤ◌, ◌*ℤ◌, Bool, not, ◌&&◌, int_le}
use Rattle.std.specs.Prelude.{if◌then◌else◌}
use Rattle.std.specs.declared.cmp.Ordering.{Ordering}
use Rattle.std.specs.Ordering.{int_eq, int_cmp}
use Rattle.theory_numbers.specs.Rationals.{value_at}
use Rattle.theory_numbers.specs.Arrows.{Arrow, arrow, cross, dot}
use Rattle.sb_fraction.specs.Edges.{Edge, span_of}
use Rattle.sb_fraction.specs.Crossings.{are_parallel}
use Rattle.sb_fraction.specs.Lines.{place, span_along}

-- the cross product of the vectors of two edges
abbrev pub turn_between : Edge → Edge → ℤ
turn_between e f = cross (span_of e) (span_of f)

-- the line of the second edge meets the line of the first the share s/w of the first edge's vector
-- from its beginning: this is s, and w is the cross product of the two vectors
abbrev pub share_of : Edge → Edge → ℤ
share_of e f = cross (arrow (f.a.x -ℤ e.a.x) (f.a.y -ℤ e.a.y)) (span_of f)

-- s/w lies from 0 to 1, both taken in, whatever the sign of w is
abbrev pub is_share : ℤ → ℤ → Bool
is_share w s = int_le (s *ℤ s) (s *ℤ w)

-- the line of the second edge meets the first one within it, where the two are not parallel
abbrev pub is_met : Edge → Edge → Bool
is_met e f = is_share (turn_between e f) (share_of e f)

-- the two edges have one common point
abbrev pub meet_once : Edge → Edge → Bool
meet_once e f = not (are_parallel e f) && (is_met e f && is_met f e)

-- how far the line through b along t lies above the line through a along s over d, as a linear form
-- over the abscissa, for s and t that run along d. Times d·d it is the clearance of the two lines
abbrev pub gap_between : Arrow → Arrow → Arrow → Arrow → Arrow → Arrow
gap_between d s a t b =
    arrow ((cross t b *ℤ dot d s) -ℤ (cross s a *ℤ dot d t)) (cross s t)

-- the same of two edges
abbrev pub gap_over : Arrow → Edge → Edge → Arrow
gap_over d e f = gap_between d (span_along d e) (place e.a) (span_along d f) (place f.a)

-- the order by a gap, or where it is 0 by its slope
abbrev pub gap_order : ℤ → ℤ → Ordering
gap_order gap slope =
    if int_eq gap (pos 0) then int_cmp (pos 0) slope else int_cmp (pos 0) gap

-- the order of two edges over d just after u, by their gap
abbrev pub order_of_gap : Arrow → Edge → Edge → Arrow → Ordering
order_of_gap d e f u = gap_order (value_at (gap_over d e f) u) (gap_over d e f).y
