-- What the private steps promise.
use Rattle.std.specs.Prelude.{ℕ, nat_le, if◌then◌else◌, List, [], ◌∷◌, Option, Some, None, Result, Ok, Err, alloc_error}
use Rattle.std.specs.declared.alloc.AllocError.{AllocError}
use Rattle.sb_schema.specs.declared.error.ViewError.{ViewError}
use Rattle.sb_schema.specs.declared.error.ViewError.TheVariants as view_error
use Rattle.sb_place.specs.declared.sight.Seen.{Seen}
use Rattle.sb_place.specs.declared.sight.Seen.TheVariants as seen
use Rattle.sb_place.specs.declared.kept.Sighting.{Sighting}
use Rattle.sb_place.specs.Kept.{from_below}

-- what is seen by a view
abbrev pub seen_of : {V : Type 0} → Result V ViewError → Result (Seen V) AllocError
seen_of (Ok v) = Ok (seen.Shown v)
seen_of (Err (view_error.Missing n)) = Ok (seen.Absent n)
seen_of (Err (view_error.Other n)) = Ok seen.Other
seen_of (Err (view_error.Fields n)) = Ok (seen.Broken n)
seen_of (Err view_error.NoMemory) = Err alloc_error

-- one item, or none
abbrev pub items_of : {X : Type 0} → Option X → List X
items_of None = []
items_of (Some x) = x ∷ []

-- a number of a placement, or else the sighting from above, if it is read from here
abbrev pub read_below : Sighting → Option Sighting
read_below s = if nat_le 63 s.above then None else Some (from_below s)

abbrev pub nearest_read : Option ℕ → Option Sighting → Option Sighting
nearest_read (Some n) above = Some (record { number = n; above = 0 })
nearest_read None None = None
nearest_read None (Some s) = read_below s
