-- What is kept of a chain that is composed from above, placement by placement.
use Rattle.std.specs.Prelude.{◌≡◌, ◌≤◌, ℕ, ◌+◌, Bool, List, [], ◌∷◌, length, take, nat_le, ◌&&◌, if◌then◌else◌}
use Rattle.std.specs.Prelude.{Option, Some, None, option_map, slice_get}
use Rattle.std.specs.List.{list_any}
use Rattle.sb_fraction.specs.declared.unit.Unit as units
use Rattle.sb_step.specs.Indexed.{Indexed}
use Rattle.sb_place.specs.declared.sight.Seen.{Seen}
use Rattle.sb_place.specs.declared.position.Position.{Position}
use Rattle.sb_place.specs.declared.position.Local.{Local}
use Rattle.sb_place.specs.declared.kept.Sighting.{Sighting}
use Rattle.sb_place.specs.declared.kept.Placed.{Placed}
use Rattle.sb_place.specs.Positions as position
use Rattle.sb_place.specs.Chains.{Link, IsChain, most_placements, is_stray, is_turned, is_far, broken_of, absent_of, frame_of}

-- what a position says: the first of its instances that is not of its row, the first that is absent, its
-- other faults, and its frame
abbrev pub local_of : units.Unit → Seen Position → Local
local_of u s = record {
  broken = slice_get (position.broken_in s) 0;
  absent = slice_get (position.absent_in s) 0;
  stray = position.is_stray s;
  turned = position.is_turned s;
  far = position.is_far u s;
  frame = position.frame_in u s;
}

-- the same sighting, from the placement below
abbrev pub from_below : Sighting → Sighting
from_below s = record { number = s.number; above = s.above + 1 }

-- a number of this placement, or else one from above
abbrev pub nearest_of : List ℕ → Option Sighting → Option Sighting
nearest_of [] above = option_map from_below above
nearest_of (n ∷ _) above = Some (record { number = n; above = 0 })

-- the nearest number, and how many placements above it stands
abbrev pub nearest : (Link → List ℕ) → List Link → Option Sighting
nearest of [] = None
nearest of (l ∷ links) = nearest_of (of l) (nearest of links)

-- the number of placements, and one more than are read for all that are too many
abbrev pub counted : ℕ → ℕ
counted n = if nat_le n most_placements then n else most_placements + 1

-- the same with one placement more
abbrev pub below : ℕ → ℕ
below n = if nat_le n most_placements then n + 1 else n

-- the placements that are read of a chain from its lowest placement upwards
abbrev pub read_of : List Link → List Link
read_of links = take most_placements links

-- and whether these end where they should
abbrev pub is_reached_by : List Link → Bool → Bool
is_reached_by links reached = reached && nat_le (length links) most_placements

-- what is kept of a chain
pub record IsKept (u : units.Unit) (links : List Link) (reached : Bool) (placed : Placed) : Type 0 where
  pub depth : placed.depth ≡ counted (length links)
  pub reached_is : placed.reached ≡ reached
  pub broken : placed.broken ≡ nearest broken_of (read_of links)
  pub absent : placed.absent ≡ nearest absent_of (read_of links)
  pub stray : placed.stray ≡ list_any is_stray links
  pub turned : placed.turned ≡ list_any is_turned links
  pub far : placed.far ≡ list_any (is_far u) links
  pub frame : length links ≤ most_placements → placed.frame ≡ frame_of u links

-- what is kept of the chain from this reference upwards, of which so many placements are read at most
pub record IsPlaced (indexed : Indexed) (building : Option ℕ) (u : units.Unit) (left : ℕ) (from : Option ℕ)
    (placed : Placed) : Type 0 where
  pub links : List Link
  pub reached : Bool
  pub few : length links ≤ left
  pub chain : IsChain indexed building left from links reached
  pub kept : IsKept u links reached placed

-- what is kept of the whole chain from this reference upwards, however long it is: more placements might
-- be read than it has
pub record IsKeptOf (indexed : Indexed) (building : Option ℕ) (u : units.Unit) (from : Option ℕ)
    (placed : Placed) : Type 0 where
  pub links : List Link
  pub reached : Bool
  pub chain : IsChain indexed building (length links + 1) from links reached
  pub kept : IsKept u links reached placed
