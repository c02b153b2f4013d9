-- How numbers are written, beyond what std says of `decimal` and `signed_decimal`.
use Rattle.std.specs.Prelude.{ℕ, ℤ, ◌-◌, ◌++◌, List, length, replicate, codes, decimal}
use Rattle.std.specs.Fmt.{signed_decimal}
use Rattle.std.specs.List.{join_by}

-- the byte of the digit 0
abbrev pub zero_digit : ℕ
zero_digit = 48

-- a number in decimal, behind as many zeros as bring it to the width: 42 at width 5 is `00042`. A
-- number that is wider stands as it is
abbrev pub padded_decimal : ℕ → ℕ → List ℕ
padded_decimal width n = replicate (width - length (decimal n)) zero_digit ++ decimal n

-- the number of an instance as an exchange text names it: `#101`
abbrev pub reference : ℕ → List ℕ
reference n = codes "#" ++ decimal n

-- numbers of instances with a comma between each two: `#109,#119`, or nothing
abbrev pub references : List ℕ → List ℕ
references numbers = join_by reference (codes ",") numbers

-- a whole number as an exchange text writes reals, with a point behind it: `-100.`, `0.`
abbrev pub whole : ℤ → List ℕ
whole z = signed_decimal z ++ codes "."
