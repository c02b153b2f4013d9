-- The lowest number that passes a test, in a list and in a file.
use Rattle.std.specs.Prelude.{ℕ, ◌≤◌, min, nat_lt, Bool, List, [], ◌∷◌, filter, Option, Some, None, option_and_then, if◌then◌else◌}
use Rattle.sb_profile.specs.Contents.{Contents}

-- the lower of a number and another, if there is another
abbrev pub lower_of : ℕ → Option ℕ → Option ℕ
lower_of n None = Some n
lower_of n (Some m) = Some (min n m)

-- the same, if the number counts
abbrev pub lower_if : Bool → ℕ → Option ℕ → Option ℕ
lower_if counts n found = if counts then lower_of n found else found

-- the lowest of the numbers, if there is one
abbrev pub lowest_of : List ℕ → Option ℕ
lowest_of [] = None
lowest_of (n ∷ ns) = lower_of n (lowest_of ns)

-- the lowest of those above the lowest
abbrev pub second_lowest_of : List ℕ → Option ℕ
second_lowest_of ns =
    option_and_then (λ first. lowest_of (filter (nat_lt first) ns)) (lowest_of ns)

-- the lowest number of an instance that passes the test
abbrev pub lowest : Contents → (ℕ → Bool) → Option ℕ
lowest c test = lowest_of (filter test c.numbers)

-- the number is so, and no lower one is
pub record IsLowest (P : ℕ → Type 0) (n : ℕ) : Type 0 where
  pub holds : P n
  pub lowest : (m : ℕ) → P m → n ≤ m
