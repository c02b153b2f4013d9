-- What the calls rest on.
mod SizesFit
mod CrossedAsSeen
mod PointsOver
mod EdgesHeaded
