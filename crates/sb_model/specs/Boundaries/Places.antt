-- The boundary with an id.

use Rattle.std.specs.Prelude.{ℕ, zero, suc, List, Option, None, slice_get}
use Rattle.sb_model.specs.declared.boundary.Boundary.{Boundary}

-- the boundary with this id: ids are places, counted from 1
abbrev pub boundary_at : List Boundary → ℕ → Option Boundary
boundary_at list zero = None
boundary_at list (suc i) = slice_get list i
