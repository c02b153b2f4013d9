-- The chain of placements (IfcLocalPlacement) from a product upwards, and where it ends.
use Rattle.std.specs.Prelude.{◌≡◌, ℕ, pos, ◌-◌, ◌<◌, ◌++◌, Bool, false, not, nat_eq, List, [], ◌∷◌}
use Rattle.std.specs.Prelude.{Option, Some, None, is_some}
use Rattle.sb_fraction.specs.declared.unit.Unit as units
use Rattle.theory_turns.specs.Turns.{then_of}
use Rattle.sb_step.specs.Indexed.{Indexed}
use Rattle.sb_schema.specs.Rows as rows
use Rattle.sb_schema.specs.Views.{Gives}
use Rattle.sb_model.specs.Frames.{placed_by, numbers_of}
use Rattle.sb_model.specs.declared.frame.Frame.{Frame}
use Rattle.sb_fraction.specs.Spots.{vector}
use Rattle.sb_place.specs.declared.sight.Seen.{Seen}
use Rattle.sb_place.specs.declared.sight.Seen.TheVariants as seen
use Rattle.sb_place.specs.declared.position.Position.{Position}
use Rattle.sb_place.specs.Sight.{Sees, absent_at, broken_at, is_other}
use Rattle.sb_place.specs.Positions as position

-- a placement of the chain: what is seen of it, and of its position where it is of its row
abbrev pub Link : Type 0
Link = Seen (Seen Position)

-- the greatest number of placements of a chain that are read
abbrev pub most_placements : ℕ
most_placements = 64

-- the building's placement has this number
abbrev pub is_at : Option ℕ → ℕ → Bool
is_at None n = false
is_at (Some b) n = nat_eq b n

-- Where no placement follows. At `$` the chain has reached its end unless a building has a placement
-- that it should have met; at the building's placement it has. Beyond the greatest number of
-- placements, with `left` more to be read, it has not, and what stands there is not read.
abbrev pub Stops : Option ℕ → ℕ → Option ℕ → Bool → Type 0
Stops building left None reached = reached ≡ not (is_some building)
Stops building left (Some n) reached =
    (reached ≡ is_at building n) × (reached ≡ false → left ≡ 0)

-- a placement of its row, the position that it has, and what is claimed of the one that it is relative to
pub record ShowsPlacement (indexed : Indexed) (n : ℕ) (claim : Option ℕ → Type 0) (s : Seen Position)
    : Type 0 where
  pub relative_to : Option ℕ
  pub axes : ℕ
  pub gives : Gives rows.local_placement indexed n (Some (relative_to, (axes, tt)))
  pub position : position.IsSpacePosition indexed axes s
  pub above : claim relative_to

-- from a placement that is not of its row nothing follows
abbrev pub ShowsNext : Indexed → ℕ → (Option ℕ → Type 0) → Link → Type 0 → Type 0
ShowsNext indexed n claim (seen.Shown s) last = ShowsPlacement indexed n claim s
ShowsNext indexed n claim l last = Sees rows.local_placement indexed n (λ _. ⊥) l × last

-- no placement follows, and the end is not reached
abbrev pub IsLost : List Link → Bool → Type 0
IsLost links reached = (links ≡ []) × (reached ≡ false)

-- These are the placements from this one upwards, with `left` of them to be read at most: each is
-- relative to the next one, and `reached` says whether the chain ends where it should.
abbrev pub IsChain : Indexed → Option ℕ → ℕ → Option ℕ → List Link → Bool → Type 0
IsChain indexed building left from [] reached = Stops building left from reached
IsChain indexed building left from (l ∷ links) reached =
    (n : ℕ) × (from ≡ Some n) × (is_at building n ≡ false) × (0 < left)
    × ShowsNext indexed n (λ above. IsChain indexed building (left - 1) above links reached) l
    (IsLost links reached)

-- ---- what is at fault

abbrev pub broken_of : Link → List ℕ
broken_of (seen.Shown s) = position.broken_in s
broken_of l = broken_at l

abbrev pub absent_of : Link → List ℕ
absent_of (seen.Shown s) = position.absent_in s
absent_of l = absent_at l

abbrev pub is_stray : Link → Bool
is_stray (seen.Shown s) = position.is_stray s
is_stray l = is_other l

abbrev pub is_turned : Link → Bool
is_turned (seen.Shown s) = position.is_turned s
is_turned _ = false

abbrev pub is_far : units.Unit → Link → Bool
is_far u (seen.Shown s) = position.is_far u s
is_far u _ = false

-- all of them, placement after placement
abbrev pub numbers_in : (Link → List ℕ) → List Link → List ℕ
numbers_in of [] = []
numbers_in of (l ∷ links) = of l ++ numbers_in of links

-- ---- the frame

-- the frame that takes every point to itself
abbrev pub unmoved : Frame
unmoved = record { turn = position.unturned; shift = numbers_of (vector (pos 0) (pos 0) (pos 0)) }

abbrev pub frame_at : units.Unit → Link → Frame
frame_at u (seen.Shown s) = position.frame_in u s
frame_at u _ = unmoved

-- a frame within another: first the inner one takes a point, and then the outer one
abbrev pub within : Frame → Frame → Frame
within inner outer = record {
  turn = then_of inner.turn outer.turn;
  shift = placed_by outer.turn outer.shift inner.shift;
}

-- the frame of a chain: that of its lowest placement, within that of the chain above it
abbrev pub frame_of : units.Unit → List Link → Frame
frame_of u [] = unmoved
frame_of u (l ∷ links) = within (frame_at u l) (frame_of u links)
