-- The whole numbers that the first form holds: `0.`, or an optional minus, a digit from 1 to 9, at
-- most five further digits, and a point.
use Rattle.std.specs.Prelude.{◌≡◌, ◌<◌, ◌≤◌, ◌++◌, ℕ, ℤ, List, length, codes, unsigned_abs, slice_index}
use Rattle.std.specs.Fmt.{signed_decimal}

-- it has at most six digits
abbrev pub IsShort : ℤ → Type 0
IsShort n = unsigned_abs n < 1000000

-- the bytes of a number that proofs name: its sign, its digits from the least to the greatest, and
-- the point at its end
abbrev pub minus : ℕ
minus = 45

abbrev pub digit_zero : ℕ
digit_zero = 48

abbrev pub digit_nine : ℕ
digit_nine = 57

abbrev pub point : ℕ
point = 46

-- how it stands in the text: `-25.`, `0.`, `4000.`
abbrev pub number_text : ℤ → List ℕ
number_text n = signed_decimal n ++ codes "."

-- one to six bytes, of which the first is a zero only where it stands alone
abbrev pub HasPlainLength : List ℕ → Type 0
HasPlainLength ds = (0 < length ds) × (length ds ≤ 6) × (slice_index ds 0 ≡ digit_zero → length ds ≡ 1)
