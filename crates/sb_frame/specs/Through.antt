-- The plan edges that have a crossing strictly inside.

use Rattle.std.specs.Prelude.{◌≡◌, ℕ, ◌*◌, ◌^◌, ℤ, Bool, ◌&&◌, nat_le, int_le, unsigned_abs, List}
use Rattle.std.specs.Int.{int_min, int_max, int_div_euclid}
use Rattle.theory_numbers.specs.Arrows.{Arrow}
use Rattle.sb_fraction.specs.Spots.{Spot}
use Rattle.sb_fraction.specs.Edges.{Edge, is_within}
use Rattle.sb_model.specs.PlanEdges.{PlanEdge}
use Rattle.theory_lines.specs.Slabs.{places_from}

-- the places of the edges that have p strictly inside
abbrev pub places_through : List PlanEdge → Spot → List ℕ
places_through edges p = places_from (λ e. is_within p e.edge) 0 edges

-- ---- edges beside a point

-- the whole number at a/w or next below it, where w is positive
abbrev pub whole_below : ℤ → ℤ → ℤ
whole_below a w = int_div_euclid a w

-- (x, y) is the lower left corner of the square millimetre in which p lies
abbrev pub IsCellOf : Spot → ℤ → ℤ → Type 0
IsCellOf p x y = (x ≡ whole_below p.x p.w) × (y ≡ whole_below p.y p.w)

-- n lies between a and b or is one of them
abbrev pub is_between : ℤ → ℤ → ℤ → Bool
is_between a b n = int_le (int_min a b) n && int_le n (int_max a b)

-- (x, y) lies between the ends of the edge, along x and along y
abbrev pub is_beside : ℤ → ℤ → Edge → Bool
is_beside x y e = is_between e.a.x e.b.x x && is_between e.a.y e.b.y y

-- ---- sizes

-- the greatest size of a coordinate of a way from a crossing to a plan point
abbrev pub greatest_seen : ℕ
greatest_seen = 2 * 10 ^ 18

-- the greatest size of a product of two such
abbrev pub greatest_half : ℕ
greatest_half = 4 * 10 ^ 36

-- both coordinates are within that bound
abbrev pub is_near : Arrow → Bool
is_near a = nat_le (unsigned_abs a.x) greatest_seen && nat_le (unsigned_abs a.y) greatest_seen
