-- Readings along the axis of an element, and the bands of its layers.

use Rattle.std.specs.Prelude.{◌≡◌, ℕ, ℤ, pos, ◌^◌, ◌*ℤ◌, ◌<ℤ◌, Bool, ◌&&◌, int_lt, int_le, if◌then◌else◌}
use Rattle.sb_fraction.specs.Spots.{Spot, Vector, times_w}

-- the greatest sum of thicknesses, in micrometres: 64 layers of 10,000,000
abbrev pub greatest_total : ℕ
greatest_total = 640000000

-- the greatest size of a reading less an end of an extent, over its denominator
abbrev pub greatest_position : ℕ
greatest_position = 10 ^ 25

-- num over den is the reading p·n of a point, but for a common factor
pub record HasReading (n : Vector) (p : Spot) (num den : ℤ) : Type 0 where
  pub factor : ℤ
  pub positive : pos 0 <ℤ factor
  pub num_is : times_w p n ≡ factor *ℤ num
  pub den_is : p.w ≡ factor *ℤ den

-- a reading lies in the band of a layer, from so many micrometres of so many per length on
abbrev pub is_in_band : ℤ → ℤ → ℕ → ℕ → Bool → Bool
is_in_band at scale before through is_last =
    int_le (scale *ℤ pos before) at
    && (if is_last then int_le at (scale *ℤ pos through) else int_lt at (scale *ℤ pos through))
