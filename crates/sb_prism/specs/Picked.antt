-- The points of a list that segments name, by their places in the list.
use Rattle.std.specs.Prelude.{◌≡◌, ℕ, ◌-◌, min, Bool, List, Option, Some, None, nat_eq, is_some, get_or, if◌then◌else◌}
use Rattle.std.specs.List.{list_any}
use Rattle.sb_solid.specs.declared.spot.Spot.{Spot}
use Rattle.sb_fraction.specs.declared.unit.Unit as units
use Rattle.sb_place.specs.Directions.{Coordinates}
use Rattle.sb_prism.specs.Faults.{index_of}
use Rattle.sb_prism.specs.Outlines.{point_numbered}
use Rattle.sb_prism.specs.Kept.{no_spot, held, spot_in}

-- the place of the point that a text names, counted from 0; one that is held back lies past every end
abbrev pub place_of : List ℕ → ℕ
place_of text = min (index_of text - 1) (held - 1)

-- one of these texts names this place
abbrev pub is_named : List (List ℕ) → ℕ → Bool
is_named texts place = list_any (λ text. nat_eq place (place_of text)) texts

-- a table with the places that texts name, at each the origin until its point is read
abbrev pub with_named : (ℕ → Option (Option Spot)) → List (List ℕ) → ℕ → Option (Option Spot)
with_named table texts place = if is_named texts place then Some (Some no_spot) else table place

-- each place of the one table has its point in the other: the origin where none was read
abbrev pub AreRead : (ℕ → Option (Option Spot)) → List (Option Spot) → (ℕ → Option (Option Spot)) → Type 0
AreRead places points table =
    (q : ℕ) → table q ≡ (if is_some (places q) then Some (get_or points q (Some no_spot)) else None)

-- a table has exactly the points at the places that these texts name
abbrev pub ArePicked : List (Option Spot) → List (List ℕ) → (ℕ → Option (Option Spot)) → Type 0
ArePicked points texts table =
    (q : ℕ) → table q ≡ (if is_named texts q then Some (get_or points q (Some no_spot)) else None)

-- the point at a place of a table
abbrev pub point_where : Option (Option Spot) → Option Spot
point_where None = Some no_spot
point_where (Some spot) = spot

-- a text names the point of its index
abbrev pub Names : units.Unit → List Coordinates → (ℕ → Option (Option Spot)) → List ℕ → Type 0
Names u points table text = point_where (table (place_of text)) ≡ spot_in u (point_numbered points text)
