-- What is shown of the crate.
mod ProductsFit
mod ReachingSoFar
mod AfterAnAbscissa
mod TableIsOver
mod LinesInOrder
mod SortedByLines
mod SortedPlaces
mod NextSlab
mod Examples
