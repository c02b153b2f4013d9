-- The proofs by topic.
mod Examples
mod NumbersStay
mod NumbersTell
mod TablesGrow
mod TablesSeen
mod MaterialsGrow
mod NamesGrow
mod ItemsAreNumbered
mod ConstructionsGrow
mod ItemsInTurn
mod ListsAreSurveyed
mod BoundariesGrow
mod ObjectsInTurn
mod PartsOfObjects
