-- Crossings in order, by x and then by y, each point once.

use Rattle.std.specs.Prelude.{◌≡◌, ◌⊎◌, ◌≤◌, ◌<◌, ℤ, true, List, length}
use Rattle.std.specs.Int.{int_min, int_max}
use Rattle.std.specs.List.{AllByRecursion}
use Rattle.std.specs.declared.cmp.Ordering.{Ordering}
use Rattle.std.specs.declared.cmp.Ordering.TheVariants.{Less}
use Rattle.std.specs.Ordering.{then_cmp, on}
use Rattle.theory_lists.specs.Members.{Stands, AllOfTwo}
use Rattle.theory_numbers.specs.Rationals.{rational}
use Rattle.sb_fraction.specs.Numbers.{order_of}
use Rattle.sb_fraction.specs.Spots.{Spot, IsSpot, spot_of}
use Rattle.sb_fraction.specs.Edges.{Edge, edge_of}
use Rattle.sb_fraction.specs.Crossings.{cross_at}
use Rattle.sb_fraction.specs.Meetings.{IsSamePoint}
use Rattle.sb_frame.specs.declared.crossing.Crossing.{Crossing}
use Rattle.sb_frame.specs.declared.edge.PlanEdge.{PlanEdge}
use Rattle.sb_frame.specs.declared.finding.FoundCrossings.{FoundCrossings}
use Rattle.sb_frame.specs.declared.finding.FoundCrossings.TheVariants.{Within, Beyond}
use Rattle.sb_frame.specs.Network.{most_crossings}

-- ---- a list of crossings

abbrev pub order_of_points : Crossing → Crossing → Ordering
order_of_points =
    then_cmp (on (λ c. rational c.point.x c.point.w) order_of)
    (on (λ c. rational c.point.y c.point.w) order_of)

-- each comes before those behind it
abbrev pub Ascend : List Crossing → Type 0
Ascend = AllOfTwo (λ c d. order_of_points c d ≡ Less)

-- the point is one of these
abbrev pub IsFound : List Crossing → Spot → Type 0
IsFound list p = (c : Crossing) × (Stands c list × IsSamePoint p (spot_of c.point))

-- a crossing was put into the list, or its point stood there
pub record IsAdded (c : Crossing) (old new : List Crossing) : Type 0 where
  pub ascend : Ascend new
  pub there : IsFound new (spot_of c.point)
  pub kept : (d : Crossing) → Stands d old → Stands d new
  pub only : (d : Crossing) → Stands d new → (d ≡ c) ⊎ Stands d old

-- ---- the crossings of edges

-- the edge crosses one of these at p
abbrev pub CrossesOne : Edge → List PlanEdge → Spot → Type 0
CrossesOne e fs p = (f : PlanEdge) × (Stands f fs × (cross_at p e (edge_of f.segment) ≡ true))

-- the crossings of an edge with those behind it were put into the list, if it is short enough
pub record AreAdded (e : Edge) (fs : List PlanEdge) (old new : List Crossing) : Type 0 where
  pub ascend : Ascend new
  pub kept : (c : Crossing) → Stands c old → Stands c new
  pub only : (c : Crossing) → Stands c new → CrossesOne e fs (spot_of c.point) ⊎ Stands c old
  pub all : length new ≤ most_crossings → (p : Spot) → IsSpot p → CrossesOne e fs p → IsFound new p

-- two of the edges cross at p
abbrev pub TwoCross : List PlanEdge → Spot → Type 0
TwoCross es p = (e : PlanEdge) × (Stands e es × CrossesOne (edge_of e.segment) es p)

-- each of these is a crossing of the edges, and no two are one point
pub record AreSome (es : List PlanEdge) (list : List Crossing) : Type 0 where
  pub ascend : Ascend list
  pub each : AllByRecursion (λ c. TwoCross es (spot_of c.point)) list

-- and there is no other
pub record AreAll (es : List PlanEdge) (list : List Crossing) : Type 0 where
  pub some : AreSome es list
  pub few : length list ≤ most_crossings
  pub all : (p : Spot) → IsSpot p → TwoCross es p → IsFound list p

-- what was found: all crossings, or more than there may be
abbrev pub HasFound : List PlanEdge → FoundCrossings → Type 0
HasFound es (Within list) = AreAll es list.items
HasFound es Beyond =
    (list : List Crossing) × (AreSome es list × (most_crossings < length list))

-- ---- along x

abbrev pub left_of : Edge → ℤ
left_of e = int_min e.a.x e.b.x

abbrev pub right_of : Edge → ℤ
right_of e = int_max e.a.x e.b.x
