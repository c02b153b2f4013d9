-- Open intervals of rational numbers, each end of which may be missing.
use Rattle.std.specs.Prelude.{Option, Some, None, option_map, ⊤}
use Rattle.theory_numbers.specs.Arrows.{Arrow, mirror}
use Rattle.theory_numbers.specs.Rationals.{IsRational, IsBelow, IsAtMost}

-- an end is a rational number, or it is missing: then the interval goes on for ever
abbrev pub IsEnd : Option Arrow → Type 0
IsEnd None = ⊤
IsEnd (Some r) = IsRational r

-- there are numbers between the two ends. Between None and None lies the whole line, between Some r
-- and None what is above r, between Some r and Some r nothing
abbrev pub IsOpen : Option Arrow → Option Arrow → Type 0
IsOpen None high = ⊤
IsOpen (Some r) None = ⊤
IsOpen (Some r) (Some t) = IsBelow r t

-- the number lies above the lower end
abbrev pub IsAfter : Option Arrow → Arrow → Type 0
IsAfter low u = IsOpen low (Some u)

-- the number lies below the upper end
abbrev pub IsBefore : Arrow → Option Arrow → Type 0
IsBefore u high = IsOpen (Some u) high

-- the number is not below the lower end
abbrev pub IsFrom : Option Arrow → Arrow → Type 0
IsFrom None u = ⊤
IsFrom (Some r) u = IsAtMost r u

-- the number is not above the upper end
abbrev pub IsUpTo : Arrow → Option Arrow → Type 0
IsUpTo u None = ⊤
IsUpTo u (Some t) = IsAtMost u t

-- the end seen in a mirror at 0: the interval from 2 on becomes the one up to -2
abbrev pub mirror_end : Option Arrow → Option Arrow
mirror_end end = option_map mirror end
