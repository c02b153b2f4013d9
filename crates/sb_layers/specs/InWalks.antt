-- The items of a crossing are those that the definition of walks asks for.

use Rattle.std.specs.Prelude.{◌≡◌, ℤ, ◌-ℤ◌, pos, List, IsTrue, Some}
use Rattle.theory_numbers.specs.Rationals.{rational}
use Rattle.theory_cuttings.specs.Cuttings.{Break}
use Rattle.sb_fraction.specs.Spots.{IsSpot, Vector}
use Rattle.sb_model.specs.declared.labels.label.Label.{Label}
use Rattle.sb_model.specs.declared.products.Element.{Element}
use Rattle.sb_model.specs.declared.walk.Item.{Item}
use Rattle.sb_model.specs.Building.{Building, is_building}
use Rattle.sb_model.specs.Passages.{Ray}
use Rattle.sb_model.specs.Walks.{AreItems}
use Rattle.theory_sight.specs.Crossings.{StartsAt, IsCrossing, piece_to}

-- in every model, along every ray with this normal that begins at a whole position: wherever the ray
-- crosses the element from position x to position y, cut into passages of one label each, these are
-- the items of this piece of the ray
abbrev pub AreItemsInWalks : Element → Vector → ℤ → ℤ → List Item → Type 0
AreItemsInWalks e n x y items =
    (m : Building) → IsTrue (is_building m) → (r : Ray) → r.normal ≡ n → IsSpot r.start → (x0 : ℤ)
    → StartsAt r x0 → (b : Break Label) → (more : List (Break Label))
    → IsCrossing m r x0 x y e.number e b more
    → AreItems m r (piece_to b more (Some (rational (y -ℤ x0) (pos 1)))) items
