-- How great the numbers of a shift can be.
use Rattle.std.specs.Prelude.{ℕ, ℤ, Bool, ◌*◌, nat_le, unsigned_abs, List}
use Rattle.std.specs.List.{list_all}
use Rattle.sb_fixed.specs.Lengths.{greatest_nanometres}

-- each number of a shift is a length in range
abbrev pub are_lengths : List ℤ → Bool
are_lengths numbers = list_all (λ z. nat_le (unsigned_abs z) greatest_nanometres) numbers

-- each number is at most as great in size as one of so many placements can be, a turn counted threefold
abbrev pub fits_at : ℕ → List ℤ → Bool
fits_at depth numbers =
    list_all (λ z. nat_le (unsigned_abs z) (depth * (3 * greatest_nanometres))) numbers
