-- Lengths in a file's unit, and ratios of directions, as whole numbers of a small unit.
use Rattle.std.specs.Prelude.{ℕ, ℤ, ◌^◌, List}
use Rattle.sb_fraction.specs.declared.unit.Unit.{Unit}
use Rattle.sb_fraction.specs.declared.unit.Unit.TheVariants as unit
use Rattle.sb_fixed.specs.Decimals.{decimal_of}
use Rattle.sb_fixed.specs.Rounding.{scaled, IsRounded, rounded}

-- a length in nanometres has so many places in its unit: 1 m is 10^9 nm, 1 mm is 10^6 nm
abbrev pub nanometre_places : Unit → ℕ
nanometre_places unit.Metre = 9
nanometre_places unit.Millimetre = 6

-- and so many in micrometres
abbrev pub micrometre_places : Unit → ℕ
micrometre_places unit.Metre = 6
micrometre_places unit.Millimetre = 3

-- a ratio has this many
abbrev pub ratio_places : ℕ
ratio_places = 12

-- the length that a text writes, in nanometres
abbrev pub nanometres_of : List ℕ → Unit → ℤ
nanometres_of text u = rounded (scaled (nanometre_places u) (decimal_of text))

-- in micrometres
abbrev pub micrometres_of : List ℕ → Unit → ℤ
micrometres_of text u = rounded (scaled (micrometre_places u) (decimal_of text))

-- the number that a text writes, in units of 10^-12
abbrev pub ratio_of : List ℕ → ℤ
ratio_of text = rounded (scaled ratio_places (decimal_of text))

-- the greatest size of a length in nanometres: 1,000 km
abbrev pub greatest_nanometres : ℕ
greatest_nanometres = 10 ^ 15

-- of one in micrometres: 1,000 km
abbrev pub greatest_micrometres : ℕ
greatest_micrometres = 10 ^ 12

-- of a ratio: 10^12
abbrev pub greatest_ratio : ℕ
greatest_ratio = 10 ^ 24

-- Law

-- lengths and ratios are the decimal of their text, rounded
abbrev pub TextsAreRounded : Type 0
TextsAreRounded =
    (text : List ℕ) (places : ℕ)
    → IsRounded (scaled places (decimal_of text)) (rounded (scaled places (decimal_of text)))
