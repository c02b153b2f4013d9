-- The rows of the table: each number with which instance of the file has it, in order of the numbers.
use Rattle.std.specs.Prelude.{◌≡◌, ◌≢◌, ℕ, ◌+◌, ◌-◌, ◌%◌, ◌<◌, List, [], ◌∷◌, length, slice_index, slice_index_or, Option, Some, None}
use Rattle.std.specs.List.{All}
use Rattle.std.specs.List.Sorted.{IsPermutation, IsNonDecreasingBy}
use Rattle.sb_step.specs.declared.step_file.table.Row.{Row}

-- a number, and which instance has it; if all are apart there are 2^32 at most
abbrev pub row_of : ℕ → ℕ → Row
row_of n i = record { number = n; at = i % 4294967296 }

-- numbers in file order, the first of which that instance has
abbrev pub numbered_from : ℕ → List ℕ → List Row
numbered_from i [] = []
numbered_from i (n ∷ numbers) = row_of n i ∷ numbered_from (i + 1) numbers

-- the numbers do not fall
abbrev pub Rises : List Row → Type 0
Rises rows = IsNonDecreasingBy (λ row. row.number) rows

-- all of them in order, each a number of 32 bits
pub record IsTable (numbers : List ℕ) (rows : List Row) : Type 0 where
  pub are : IsPermutation (numbered_from 0 numbers) rows
  pub rises : Rises rows
  pub below : (k : ℕ) → slice_index numbers k < 4294967296

-- no row has the number of the row behind it
abbrev pub AreUnlike : ℕ → List Row → Type 0
AreUnlike end rows =
    (k : ℕ) (d : Row) → k + 1 < end
    → (slice_index_or rows k d).number ≢ (slice_index_or rows (k + 1) d).number

-- the first row with the number of the row before it
pub record IsFirstTwice (n : ℕ) (rows : List Row) : Type 0 where
  pub at : ℕ
  pub later : 0 < at
  pub within : at < length rows
  pub here : (d : Row) → (slice_index_or rows at d).number ≡ n
  pub before : (d : Row) → (slice_index_or rows (at - 1) d).number ≡ n
  pub unlike : AreUnlike at rows

-- whether two neighbours have one number
abbrev pub IsDoubledIn : Option ℕ → List Row → Type 0
IsDoubledIn None rows = AreUnlike (length rows) rows
IsDoubledIn (Some n) rows = IsFirstTwice n rows

-- the number of the last row
abbrev pub IsLast : ℕ → List Row → Type 0
IsLast n [] = n ≡ 0
IsLast n (row ∷ later) = (d : Row) → (slice_index_or (row ∷ later) (length later) d).number ≡ n

-- a row with the number, or none has it
pub record IsRowOf (rows : List Row) (n i : ℕ) : Type 0 where
  pub at : ℕ
  pub within : at < length rows
  pub number : (d : Row) → (slice_index_or rows at d).number ≡ n
  pub instance_ : (d : Row) → (slice_index_or rows at d).at ≡ i

abbrev pub Finds : List Row → ℕ → Option ℕ → Type 0
Finds rows n (Some i) = IsRowOf rows n i
Finds rows n None = All (λ row. row.number ≢ n) rows
