-- The models that are one box in the open.
use Rattle.std.specs.Prelude.{◌≡◌, ℕ, ℤ, pos, [], ◌∷◌, true, ◌&&◌, int_lt, IsTrue}
use Rattle.std.proofs.lemmas.Bool.{and_parts}
use Rattle.sb_fraction.specs.Plane.{is_coordinate}
use Rattle.sb_model.specs.declared.products.Space.{Space}
use Rattle.sb_model.specs.Solids.{Upright, upright, is_upright}
use Rattle.theory_models.proofs.BoxesAreSolid.{IsRange, ranges_are_solid}
use Rattle.sb_box.specs.Extents.{is_interval}
use Rattle.sb_model.specs.Building.{Building}
use Rattle.theory_plans.specs.Rectangles.{rectangle}
use Rattle.sb_box.specs.declared.extent.Extent.{Extent}

-- the prism of a box: one loop, counterclockwise from its least corner, between two heights
abbrev pub prism_of : Extent → Upright
prism_of e = upright (rectangle e.x0 e.x1 e.y0 e.y1 ∷ []) e.z0 e.z1

-- an interval is a range
interval_is_range : (low high : ℤ) → is_interval low high ≡ true → IsRange low high
interval_is_range low high interval =
    let both = and_parts (int_lt low high && is_coordinate low) (is_coordinate high) interval in
    let first = and_parts (int_lt low high) (is_coordinate low) both.0 in
    record { order = first.0; low_in = first.1; high_in = both.1 }

-- the prism of a box is a solid
pub prism_is_solid : (e : Extent) → IsTrue (is_upright (prism_of e))
prism_is_solid e =
    let both = and_parts (is_interval e.x0 e.x1 && is_interval e.y0 e.y1) (is_interval e.z0 e.z1)
    e.is_extent in
    let plan = and_parts (is_interval e.x0 e.x1) (is_interval e.y0 e.y1) both.0 in
    ranges_are_solid e.x0 e.x1 e.y0 e.y1 e.z0 e.z1
    (interval_is_range e.x0 e.x1 plan.0) (interval_is_range e.y0 e.y1 plan.1)
    (interval_is_range e.z0 e.z1 both.1)

-- the model has this box as its one space, of this number, and no other product; the ground is at
-- height 0. Unit, reach and the space's frame are any
pub record IsBoxModel (n : ℕ) (e : Extent) (m : Building) : Type 0 where
  pub space : Space
  pub spaces : m.spaces ≡ space ∷ []
  pub number : space.number ≡ n
  pub prism : space.prism ≡ prism_of e
  pub elements : m.elements ≡ []
  pub openings : m.openings ≡ []
  pub fillings : m.fillings ≡ []
  pub ground_height : m.ground_height ≡ pos 0
