-- The laws that the calls cite.
mod ProductsFit
mod SignedAxesAreAxes
mod SameFractions
mod PartsAreItems
mod ItemsAlong
mod ExtentsAreSmall
mod LongestIsFirst
mod RoundedThickness
mod Examples
