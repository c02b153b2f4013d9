-- The errors of a solid as those of a shape.
use Rattle.sb_solid.specs.declared.error.SolidError.{SolidError}
use Rattle.sb_solid.specs.declared.error.SolidError.TheVariants as solid_error
use Rattle.sb_prism.specs.declared.error.PrismError.{PrismError}
use Rattle.sb_prism.specs.declared.error.PrismError.TheVariants as prism_error

abbrev pub of_solid : SolidError → PrismError
of_solid solid_error.Range = prism_error.Range
of_solid solid_error.OffGrid = prism_error.OffGrid
of_solid solid_error.Loops = prism_error.Loops
of_solid solid_error.NoMemory = prism_error.NoMemory
