-- The crossing of two edges.

use Rattle.std.specs.Prelude.{◌≡◌, ◌*ℤ◌, Bool, true, ◌&&◌, ◌||◌}
use Rattle.std.specs.Ordering.{int_eq}
use Rattle.sb_fraction.specs.declared.point.Point.{Point}
use Rattle.sb_fraction.specs.Spots.{Spot, IsSpot}
use Rattle.sb_fraction.specs.Edges.{Edge}
use Rattle.sb_fraction.specs.Crossings.{cross_at}
use Rattle.sb_fraction.specs.Meetings.{IsSamePoint}

-- the two edges cross at p and nowhere else
pub record IsCrossingOf (e f : Edge) (p : Spot) : Type 0 where
  pub crosses : cross_at p e f ≡ true
  pub only : (q : Spot) → IsSpot q → cross_at q e f ≡ true → IsSamePoint q p

-- the two edges do not cross
abbrev pub CrossNowhere : Edge → Edge → Type 0
CrossNowhere e f = (p : Spot) → IsSpot p → cross_at p e f ≡ true → ⊥

-- the plan point a is p
abbrev pub is_at : Spot → Point → Bool
is_at p a = int_eq (a.x *ℤ p.w) p.x && int_eq (a.y *ℤ p.w) p.y

-- an end of the edge is p
abbrev pub is_end : Spot → Edge → Bool
is_end p e = is_at p e.a || is_at p e.b
