-- The frame of a chain of placements, or its first fault.
use Rattle.std.specs.Prelude.{◌≡◌, ℕ, ◌^◌, Bool, true, false, not, ◌||◌, nat_le, unsigned_abs, ℤ, List, [], Option, Result, Ok, Err}
use Rattle.std.specs.List.{list_all, list_any}
use Rattle.theory_lists.specs.Members.{Stands}
use Rattle.sb_fraction.specs.declared.unit.Unit as units
use Rattle.sb_step.specs.Indexed.{Indexed}
use Rattle.sb_model.specs.declared.frame.Frame.{Frame}
use Rattle.sb_place.specs.declared.error.PlaceError.{PlaceError}
use Rattle.sb_place.specs.declared.error.PlaceError.TheVariants as place_error
use Rattle.sb_place.specs.Chains.{Link, IsChain, most_placements, is_stray, is_turned, is_far, broken_of, absent_of, numbers_in, frame_of}

-- the greatest size of a shift in nanometres: 1 km
abbrev pub greatest_shift : ℕ
greatest_shift = 10 ^ 12

-- each number of a shift is at most 10^12 nm in size
abbrev pub is_shift : List ℤ → Bool
is_shift numbers = list_all (λ z. nat_le (unsigned_abs z) greatest_shift) numbers

-- each instance of the chain is there and of its row
pub record IsRead (links : List Link) : Type 0 where
  pub of_rows : numbers_in broken_of links ≡ []
  pub present : numbers_in absent_of links ≡ []

-- the chain does not end where it should, or an instance of it is of another entity
abbrev pub is_broken_off : List Link → Bool → Bool
is_broken_off links reached = not reached || list_any is_stray links

-- a coordinate of a placement is out of range, or the shift of the whole chain is
abbrev pub is_out_of_range : units.Unit → List Link → Bool
is_out_of_range u links = list_any (is_far u) links || not (is_shift (frame_of u links).shift)

-- What is answered of a chain: the first fault that occurs of Fields, Missing, Chain, Turned and Range,
-- or its frame. Of several instances that are not of their row, or absent, any may be named.
abbrev pub Judges : units.Unit → List Link → Bool → Result Frame PlaceError → Type 0
Judges u links reached (Err (place_error.Fields n)) = Stands n (numbers_in broken_of links)
Judges u links reached (Err (place_error.Missing n)) =
    (numbers_in broken_of links ≡ []) × Stands n (numbers_in absent_of links)
Judges u links reached (Err place_error.Chain) =
    IsRead links × (is_broken_off links reached ≡ true)
Judges u links reached (Err place_error.Turned) =
    IsRead links × (is_broken_off links reached ≡ false) × (list_any is_turned links ≡ true)
Judges u links reached (Err place_error.Range) =
    IsRead links × (is_broken_off links reached ≡ false) × (list_any is_turned links ≡ false)
    × (is_out_of_range u links ≡ true)
Judges u links reached (Err place_error.NoMemory) = Unit {0}
Judges u links reached (Ok frame) =
    IsRead links × (is_broken_off links reached ≡ false) × (list_any is_turned links ≡ false)
    × (is_out_of_range u links ≡ false) × (frame ≡ frame_of u links)

-- What is answered of the chain from a product's placement on: but for want of memory the judgement of
-- the placements that are read.
abbrev pub IsFrameOf : Indexed → Option ℕ → Option ℕ → units.Unit → Result Frame PlaceError → Type 0
IsFrameOf indexed placement building u (Err place_error.NoMemory) = Unit {0}
IsFrameOf indexed placement building u result =
    (links : List Link) × (reached : Bool)
    × IsChain indexed building most_placements placement links reached × Judges u links reached result
