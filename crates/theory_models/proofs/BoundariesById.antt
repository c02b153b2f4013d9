-- A boundary with an id stands in its list.
use Rattle.std.proofs.Common.{◌≡◌, ℕ, zero, suc, List, Some}
use Rattle.std.proofs.lemmas.Option.{none-some}
use Rattle.sb_model.specs.declared.boundary.Boundary.{Boundary}
use Rattle.sb_model.specs.Boundaries.Places.{boundary_at}
use Rattle.theory_lists.specs.Members.{Stands}
use Rattle.theory_lists.proofs.Members.{stands_at}

-- a boundary with an id stands in the list
pub stands_with_id : (list : List Boundary) (id : ℕ) (b : Boundary) → boundary_at list id ≡ Some b
    → Stands b list
stands_with_id list zero b at = absurd (none-some b at)
stands_with_id list (suc i) b at = stands_at list i b at
