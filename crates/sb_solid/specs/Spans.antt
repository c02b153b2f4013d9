-- Numbers that are moved together: what of them tells whether all are in range, and near whole millimetres.
use Rattle.std.specs.Prelude.{◌≡◌, ℤ, pos, ◌-ℤ◌, ◌*ℤ◌, ◌≤ℤ◌, Bool, int_le, List, [], map, Option, Some, None}
use Rattle.theory_lists.specs.Members.{Stands}
use Rattle.sb_solid.specs.declared.points.sizes.Extent.{Extent}
use Rattle.sb_solid.specs.declared.spans.Span.{Span}
use Rattle.sb_solid.specs.Grid.{millimetre, nearest_millimetre}

-- the least and the greatest of numbers
pub record Reaches (numbers : List ℤ) (low high : ℤ) : Type 0 where
  pub low_in : Stands low numbers
  pub high_in : Stands high numbers
  pub within : (n : ℤ) → Stands n numbers → (low ≤ℤ n) × (n ≤ℤ high)

abbrev pub IsExtentOf : List ℤ → Option Extent → Type 0
IsExtentOf numbers None = numbers ≡ []
IsExtentOf numbers (Some e) = Reaches numbers e.low e.high

-- what lies between a number and the nearest whole millimetre from another
abbrev pub rest_from : ℤ → ℤ → ℤ
rest_from first n = (n -ℤ first) -ℤ (nearest_millimetre (n -ℤ first) *ℤ pos millimetre)

pub record IsSpanOf (numbers : List ℤ) (span : Span) : Type 0 where
  pub reach : Reaches numbers span.reach.low span.reach.high
  pub rest : Reaches (map (rest_from span.reach.low) numbers) span.rest.low span.rest.high

abbrev pub IsSpanWhere : List ℤ → Option Span → Type 0
IsSpanWhere numbers None = numbers ≡ []
IsSpanWhere numbers (Some span) = IsSpanOf numbers span

-- two numbers that are both near whole millimetres are at most so far apart, less whole millimetres
abbrev pub is_narrow : ℤ → ℤ → Bool
is_narrow low high = int_le (high -ℤ low) (pos 20000)
