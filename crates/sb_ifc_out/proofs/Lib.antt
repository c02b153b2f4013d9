-- Worked rows, and the laws that the calls cite.
mod Examples
mod Appended
mod DigitsBelow
mod SpansFit
mod FoundIfThere
mod ShiftsOfModels
mod NumbersOfLines
mod LinesOfFaces
mod NamedInModel
mod NamesKept
mod OutlinesOfLists
