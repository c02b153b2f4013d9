-- Sound lists.

use Rattle.std.specs.Prelude.{List}
use Rattle.sb_model.specs.declared.boundary.Boundary.{Boundary}
use Rattle.sb_model.specs.Building.{Building}
use Rattle.sb_model.specs.Boundaries.Covers.{Covers}
use Rattle.sb_model.specs.Boundaries.Trimmed.{AreTopsTrimmed}
use Rattle.sb_model.specs.Boundaries.Mirrors.{ArePaired}
use Rattle.sb_model.specs.Boundaries.Nested.{IsNested}

-- a list is sound for a model: it covers it, its top-level patches are trimmed, counterparts name
-- each other, and the openings are nested. Nothing is said of how long it is
pub record IsSound (m : Building) (list : List Boundary) : Type 0 where
  pub covers : Covers m list
  pub trimmed : AreTopsTrimmed m list
  pub paired : ArePaired m list
  pub nested : IsNested m list
