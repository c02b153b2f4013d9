-- Where two edges cross, and which abscissae of a direction their ends and their crossing have.

use Rattle.std.specs.Prelude.{ℤ, pos, neg_ℤ, ◌+ℤ◌, ◌-ℤ◌, ◌*ℤ◌, Bool, not, ◌&&◌, ◌||◌, int_lt}
use Rattle.std.specs.Prelude.{if◌then◌else◌}
use Rattle.std.specs.Ordering.{int_eq}
use Rattle.sb_fraction.specs.declared.point.Point.{Point}
use Rattle.theory_numbers.specs.Arrows.{Arrow, arrow, cross}
use Rattle.theory_numbers.specs.Rationals.{rational}
use Rattle.sb_fraction.specs.Spots.{Spot, spot, Vector, reading}
use Rattle.sb_fraction.specs.Edges.{Edge, span_of, is_within}

abbrev pub are_parallel : Edge → Edge → Bool
are_parallel e f = int_eq (cross (span_of e) (span_of f)) (pos 0)

-- two edges cross at p: they are not parallel, and p lies strictly inside both
abbrev pub cross_at : Spot → Edge → Edge → Bool
cross_at p e f = not (are_parallel e f) && (is_within p e && is_within p f)

-- the same point with a positive denominator
abbrev pub with_positive : Spot → Spot
with_positive p =
    if int_lt p.w (pos 0) then spot (neg_ℤ p.x) (neg_ℤ p.y) (neg_ℤ p.z) (neg_ℤ p.w) else p

-- the point where the lines of two edges meet that are not parallel: from a it lies the share s/w
-- of the first edge's vector further, where w = span e × span f and s = (f.a - e.a) × span f
abbrev pub meeting_of : Edge → Edge → Spot
meeting_of e f =
    let w = cross (span_of e) (span_of f) in
    let s = cross (arrow (f.a.x -ℤ e.a.x) (f.a.y -ℤ e.a.y)) (span_of f) in
    with_positive (spot
    ((e.a.x *ℤ w) +ℤ (s *ℤ (span_of e).x))
    ((e.a.y *ℤ w) +ℤ (s *ℤ (span_of e).y))
    (pos 0) w)

-- the two edges cross at a point with this abscissa
abbrev pub cross_over : Vector → Arrow → Edge → Edge → Bool
cross_over d u e f =
    let p = meeting_of e f in
    cross_at p e f && int_eq (cross u (reading p d)) (pos 0)

-- the abscissa p·d of a plan point
abbrev pub abscissa_at : Point → Vector → ℤ
abscissa_at p d = (p.x *ℤ d.x) +ℤ (p.y *ℤ d.y)

-- an end of the edge has this abscissa
abbrev pub ends_over : Vector → Arrow → Edge → Bool
ends_over d u e =
    int_eq (cross u (rational (abscissa_at e.a d) (pos 1))) (pos 0)
    || int_eq (cross u (rational (abscissa_at e.b d) (pos 1))) (pos 0)
