-- The solid lies on the left of each edge.
pub mod RaysAnywhere
pub mod OwnPoints
pub mod RaysFromEdges
pub mod RoundACorner
pub mod EdgesApart
pub mod OneSideALoop
pub mod TurnedLoops
pub mod TurnedIsApart
pub mod TurnedIsPlan
pub mod AlongAnEdge
pub mod BesideAnEdge
pub mod NearAnEdge
pub mod SensesAlternate
pub mod LeftIsInside
