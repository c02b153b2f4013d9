-- The plan edges of a model as a list, and their crossings, each once.

use Rattle.std.specs.Prelude.{◌≡◌, ◌≢◌, ◌<◌, ℕ, true, List, map, length, slice_get, Option}
use Rattle.std.specs.Prelude.{Result, Err}
use Rattle.std.specs.Option.{option_map}
use Rattle.std.specs.List.{AllByRecursion}
use Rattle.theory_lists.specs.Members.{Stands, AllOfTwo}
use Rattle.sb_fraction.specs.declared.point.HPoint.{HPoint}
use Rattle.sb_fraction.specs.Spots.{Spot, IsSpot, spot_of}
use Rattle.sb_fraction.specs.Edges.{edge_of}
use Rattle.sb_fraction.specs.Meetings.{IsSamePoint}
use Rattle.sb_model.specs.Building.{Building}
use Rattle.sb_model.specs.PlanEdges.{PlanEdge, plan_edges, is_crossing}
use Rattle.sb_frame.specs.declared.edge.PlanEdge.{PlanEdge as GivenEdge}
use Rattle.sb_frame.specs.declared.network.EdgesError.{EdgesError}
use Rattle.sb_frame.specs.declared.network.EdgesError.TheVariants as error

-- how many plan edges a model may have
abbrev pub most_edges : ℕ
most_edges = 2048

-- how many crossings they may have
abbrev pub most_crossings : ℕ
most_crossings = 1024

-- ---- plan edges

-- a plan edge as it is given out: its segment from a to b, and its product
abbrev pub plan_edge_of : GivenEdge → PlanEdge
plan_edge_of e = record { edge = edge_of e.segment; product = e.product }

abbrev pub plan_edges_of : List GivenEdge → List PlanEdge
plan_edges_of = map plan_edge_of

-- the product whose edges pass the limit: that of the edge which has `most` edges before it. There is
-- none where there are no more edges than that
abbrev pub product_beyond : ℕ → List PlanEdge → Option ℕ
product_beyond most edges = option_map (λ e. e.product) (slice_get edges most)

-- ---- crossings

-- each of the points is a crossing of the model, and no two are one point
pub record AreSomeCrossings (m : Building) (points : List Spot) : Type 0 where
  pub spots : AllByRecursion IsSpot points
  pub each : AllByRecursion (λ p. is_crossing m p ≡ true) points
  pub once : AllOfTwo (λ p q. IsSamePoint p q → ⊥) points

-- these are the crossings of the model, each once
pub record AreCrossings (m : Building) (points : List Spot) : Type 0 where
  pub some : AreSomeCrossings m points
  pub all : (p : Spot) → IsSpot p → is_crossing m p ≡ true
      → (q : Spot) × (Stands q points × IsSamePoint p q)

-- a model has more than so many crossings
abbrev pub HasMoreCrossings : Building → ℕ → Type 0
HasMoreCrossings m most = (points : List Spot) × (AreSomeCrossings m points × (most < length points))

-- ---- both

-- plan edges, and crossings
pub record Network : Type 0 where
  pub edges : List PlanEdge
  pub crossings : List Spot

-- the plan edges of a model in order, and its crossings, each once
pub record IsNetwork (m : Building) (n : Network) : Type 0 where
  pub edges : n.edges ≡ plan_edges m
  pub crossings : AreCrossings m n.crossings

abbrev pub network : List PlanEdge → List Spot → Network
network edges crossings = record { edges = edges; crossings = crossings }

-- points as they are given out
abbrev pub spots_of : List HPoint → List Spot
spots_of = map spot_of

-- there was memory enough for an answer
abbrev pub IsMade : Result Network EdgesError → Type 0
IsMade answer = answer ≢ Err error.NoMemory
