-- No number of the report is a float, so that its text is told exactly.

use Rattle.std.proofs.Common.{◌≡◌, ℕ, ◌+◌, ℤ, pos, negsuc, false, List, [], ◌∷◌, map, Option, Some}
use Rattle.std.proofs.Common.{None, refl}
use Rattle.serde_json.specs.Data.{Data}
use Rattle.serde_json.specs.View.{items_of}
use Rattle.serde_json.specs.Written.{has_float, items_have_float}
use Rattle.sb_model.specs.declared.boundary.Boundary.{Boundary}
use Rattle.sb_model.specs.declared.patches.corner.Corners.{Corners}
use Rattle.sb_model.specs.declared.patches.corner.Corners.TheVariants.{Three, Four}
use Rattle.sb_model.specs.declared.walk.Item.{Item}
use Rattle.sb_fraction.specs.Spots.{Vector, inner}
use Rattle.sb_model.specs.Building.{Building}
use Rattle.sb_model.specs.Surfaces.Corners.{corners_of}
use Rattle.sb_model.specs.Surfaces.Facings.{normal_of}
use Rattle.sb_report.specs.Entries.{count, signed, count_or_null, corners_data, normal_data}
use Rattle.sb_report.specs.Entries.{unit_data, target, item_data, boundary_data}
use Rattle.sb_report.specs.Report.{entries_from, report_data}

-- the data of each item of a list
each : {X : Type 0} (data_of : X → Data) → ((x : X) → has_float (data_of x) ≡ false)
    → (xs : List X) → items_have_float (items_of (map data_of xs)) ≡ false
each data_of none [] = refl
each data_of none (x ∷ xs) = rw (none x) (each data_of none xs)

signed_has_none : (z : ℤ) → has_float (signed z) ≡ false
signed_has_none (pos n) = refl
signed_has_none (negsuc n) = refl

count_has_none : (n : Option ℕ) → has_float (count_or_null n) ≡ false
count_has_none None = refl
count_has_none (Some n) = refl

corners_have_none : (c : Option Corners) → has_float (corners_data c) ≡ false
corners_have_none None = refl
corners_have_none (Some (Three a b c)) = refl
corners_have_none (Some (Four a b c d)) = refl

normal_has_none : (n : Option Vector) → has_float (normal_data n) ≡ false
normal_has_none None = refl
normal_has_none (Some n) = rw (signed_has_none n.x, signed_has_none n.y, signed_has_none n.z) refl

unit_has_none : (n : Option Vector) → has_float (unit_data n) ≡ false
unit_has_none None = refl
unit_has_none (Some n) = signed_has_none (inner n n)

item_has_none : (m : Building) (i : Item) → has_float (item_data m i) ≡ false
unfolding item_data
item_has_none m i = refl

boundary_has_none : (m : Building) (id : ℕ) (b : Boundary)
    → has_float (boundary_data m id b) ≡ false
unfolding boundary_data
boundary_has_none m id b = rw (
  corners_have_none (corners_of m b.patch),
  signed_has_none b.walk.depth,
  each (item_data m) (item_has_none m) b.walk.items,
  count_has_none b.key,
  normal_has_none (normal_of m b.patch.face),
  count_has_none b.pair,
  count_has_none b.parent,
  count_has_none (target b.walk.end),
  unit_has_none (normal_of m b.patch.face),
) refl

entries_have_none : (m : Building) (id : ℕ) (bs : List Boundary)
    → items_have_float (items_of (entries_from m id bs)) ≡ false
entries_have_none m id [] = refl
entries_have_none m id (b ∷ bs) = rw (boundary_has_none m id b) (entries_have_none m (id + 1) bs)

-- the whole report has no float
pub report_has_no_float : (m : Building) (bs : List Boundary) → has_float (report_data m bs) ≡ false
unfolding report_data
report_has_no_float m bs = rw (
  entries_have_none m 1 bs,
  signed_has_none m.ground_height,
  each (λ s. count s.number) (λ s. refl) m.spaces,
) refl
