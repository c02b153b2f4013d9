-- On which side of its edges the solid of loops lies, and loops turned round.

use Rattle.std.specs.Prelude.{◌≡◌, pos, ◌+ℤ◌, ◌*ℤ◌, ◌<ℤ◌, ◌≤ℤ◌, Bool, true, false, List, []}
use Rattle.std.specs.Prelude.{◌∷◌, ℤ, if◌then◌else◌, reverse}
use Rattle.std.specs.List.{list_all, list_any}
use Rattle.theory_numbers.specs.Arrows.{Arrow, turned, mirror}
use Rattle.theory_numbers.specs.Rationals.{IsRational, IsAtMost}
use Rattle.sb_fraction.specs.declared.point.Point.{Point}
use Rattle.sb_fraction.specs.Spots.{Spot, spot}
use Rattle.sb_fraction.specs.Edges.{Edge, edge, span_of, is_on}
use Rattle.theory_plans.specs.LoopEdges.{edges_of}
use Rattle.theory_plans.specs.Inside.{is_in_plan}
use Rattle.theory_plans.specs.Loops.{is_bent_loop}
use Rattle.theory_plans.specs.Plans.{are_apart, is_solid_left_of}
use Rattle.theory_parity.specs.Halves.{on_way}

-- the loops are bent, and their edges apart: they are a plan but for their number, their range,
-- their first points and the side of the solid
pub record AreBentApart (loops : List (List Point)) : Type 0 where
  pub bent : list_all is_bent_loop loops ≡ true
  pub apart : are_apart loops ≡ true

-- ---- loops turned round

-- the edge from b to a
abbrev pub turned_edge : Edge → Edge
turned_edge e = edge e.b e.a

-- the loop run through the other way, from the same point on
abbrev pub turned_loop : List Point → List Point
turned_loop [] = []
turned_loop (a ∷ points) = a ∷ reverse points

-- the solid of these edges lies on the left of the loop's first edge
abbrev pub is_left_at_first : List Edge → List Point → Bool
is_left_at_first edges [] = true
is_left_at_first edges (a ∷ []) = true
is_left_at_first edges (a ∷ b ∷ points) = is_solid_left_of (edge a b) edges

-- the loop, turned round where the solid does not lie there
abbrev pub put_left : List Edge → List Point → List Point
put_left edges points = if is_left_at_first edges points then points else turned_loop points

-- ---- points beside an edge

-- on the way from p to m no edge passes, but for m itself
abbrev pub IsFreeTo : List (List Point) → Spot → Spot → Type 0
IsFreeTo loops p m =
    (k l : ℤ) → pos 0 <ℤ k → pos 0 ≤ℤ l
    → list_any (is_on (on_way k p l m)) (edges_of loops) ≡ false

-- the point m + t·n
abbrev pub aside : Arrow → Spot → Arrow → Spot
aside n m t =
    spot ((t.x *ℤ m.x) +ℤ ((t.y *ℤ m.w) *ℤ n.x)) ((t.x *ℤ m.y) +ℤ ((t.y *ℤ m.w) *ℤ n.y)) (pos 0)
    (t.x *ℤ m.w)

-- the point that is left of m, as the edge runs, by t times the edge's length; right of it where t
-- is negative
abbrev pub beside : Edge → Spot → Arrow → Spot
beside e m t = aside (turned (span_of e)) m t

-- up to this number the points left of m lie inside the loops, and those right of m outside
pub record IsClosenessAt (loops : List (List Point)) (e : Edge) (m : Spot) (most : Arrow) : Type 0
  where
    pub rational : IsRational most
    pub positive : pos 0 <ℤ most.y
    pub inside : (t : Arrow) → IsRational t → pos 0 <ℤ t.y → IsAtMost t most
        → is_in_plan loops (beside e m t) ≡ true
    pub outside : (t : Arrow) → IsRational t → pos 0 <ℤ t.y → IsAtMost t most
        → is_in_plan loops (beside e m (mirror t)) ≡ false
