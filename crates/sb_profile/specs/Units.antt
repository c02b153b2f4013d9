-- The unit of the lengths of a file, by its one IFCUNITASSIGNMENT and the IFCSIUNIT that this lists.
use Rattle.std.specs.Prelude.{ℕ, Bool, ◌&&◌, ◌==◌, List, [], ◌∷◌, length, filter, filter_map, slice_get, Option, Some, None, option_map, option_and_then, codes, if◌then◌else◌}
use Rattle.sb_fraction.specs.declared.unit.Unit as unit
use Rattle.sb_fraction.specs.declared.unit.Unit.TheVariants as units
use Rattle.sb_step.specs.declared.parameters.param.Param.{Param}
use Rattle.sb_step.specs.Cursors.Forms.{reference_in, enumeration_in, is_null_in}
use Rattle.sb_schema.specs.Forms.{items_in}
use Rattle.sb_schema.specs.Table.{is_one_of}
use Rattle.sb_profile.specs.Contents.{Contents}

-- the keyword of the instance has these letters
abbrev pub is_called : List ℕ → Contents → ℕ → Bool
is_called letters c n = is_one_of (letters ∷ []) (c.keyword n)

-- the parameter is the enumeration of these letters
abbrev pub is_the : List ℕ → Option Param → Bool
is_the letters p = is_one_of (letters ∷ []) (enumeration_in p)

-- the one of a list that has no other
abbrev pub only_one : {X : Type 0} → List X → Option X
only_one [] = None
only_one (x ∷ []) = Some x
only_one (x ∷ y ∷ later) = None

-- the one IFCUNITASSIGNMENT
abbrev pub assignment : Contents → Option ℕ
assignment c = only_one (filter (is_called (codes "IFCUNITASSIGNMENT") c) c.numbers)

-- What its attribute 1 lists, if it is a list. Members that are no references are passed over.
abbrev pub listed_units : Contents → ℕ → Option (List ℕ)
listed_units c n =
    option_map (filter_map (λ p. reference_in (Some p))) (items_in (slice_get (c.parameters n) 0))

-- four attributes, of which the second is the type of lengths
abbrev pub says_length : List Param → Bool
says_length ps = length ps == 4 && is_the (codes "LENGTHUNIT") (slice_get ps 1)

-- an IFCSIUNIT of lengths
abbrev pub is_length_unit : Contents → ℕ → Bool
is_length_unit c n = is_called (codes "IFCSIUNIT") c n && says_length (c.parameters n)

-- the one that is listed: listed twice it is two
abbrev pub length_unit : Contents → Option ℕ
length_unit c =
    option_and_then (λ members. only_one (filter (is_length_unit c) members))
    (option_and_then (listed_units c) (assignment c))

-- by its prefix: none, or that of a thousandth
abbrev pub unit_by : Bool → Option (List ℕ) → Option unit.Unit
unit_by none prefix =
    if none then Some units.Metre
    else if is_one_of (codes "MILLI" ∷ []) prefix then Some units.Millimetre else None

-- its prefix is attribute 3
abbrev pub unit_by_prefix : Option Param → Option unit.Unit
unit_by_prefix p = unit_by (is_null_in p) (enumeration_in p)

-- the unit that parameters say: its name, attribute 4, is that of the metre
abbrev pub unit_of : List Param → Option unit.Unit
unit_of ps =
    if is_the (codes "METRE") (slice_get ps 3) then unit_by_prefix (slice_get ps 2) else None

-- the unit of the file's lengths, if it has one that is read
abbrev pub unit_in : Contents → Option unit.Unit
unit_in c = option_and_then (λ n. unit_of (c.parameters n)) (length_unit c)
