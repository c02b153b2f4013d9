-- The axis that a direction snaps to.
use Rattle.std.specs.Prelude.{ℕ, ℤ, pos, neg_ℤ, ◌*◌, Bool, true, ◌&&◌, not, nat_le, int_lt, unsigned_abs, List}
use Rattle.std.specs.Prelude.{Option, Some, None, slice_get, if◌then◌else◌}
use Rattle.std.specs.Ordering.{int_eq}
use Rattle.sb_fixed.specs.Lengths.{ratio_of, greatest_ratio}
use Rattle.sb_fraction.specs.Spots.{Vector, vector}

-- the two or three coordinates of a point, or ratios of a direction, as they stand
abbrev pub Coordinates : Type 0
Coordinates = List (List ℕ)

-- the value of a coordinate, and 0 where it is left out
abbrev pub value_where : (List ℕ → ℤ) → Option (List ℕ) → ℤ
value_where value None = pos 0
value_where value (Some text) = value text

-- the vector of the values of three coordinates, of which the third may be left out
abbrev pub vector_by : (List ℕ → ℤ) → Coordinates → Vector
vector_by value texts =
    vector
    (value_where value (slice_get texts 0))
    (value_where value (slice_get texts 1))
    (value_where value (slice_get texts 2))

-- each of the three passes the test, where it is given
abbrev pub passes_where : (List ℕ → Bool) → Option (List ℕ) → Bool
passes_where test None = true
passes_where test (Some text) = test text

abbrev pub all_three : (List ℕ → Bool) → Coordinates → Bool
all_three test texts =
    passes_where test (slice_get texts 0)
    && (passes_where test (slice_get texts 1) && passes_where test (slice_get texts 2))

-- at most a millionth of the other in size
abbrev pub is_slight_beside : ℤ → ℤ → Bool
is_slight_beside a other = nat_le (unsigned_abs a * 1000000) (unsigned_abs other)

-- the first number is not 0, and beside it the others are slight
abbrev pub leads : ℤ → ℤ → ℤ → Bool
leads a b c = not (int_eq a (pos 0)) && (is_slight_beside b a && is_slight_beside c a)

-- 1 with the sign of the number
abbrev pub signed_one : ℤ → ℤ
signed_one a = if int_lt a (pos 0) then neg_ℤ (pos 1) else pos 1

-- the signed axis of the coordinate that leads, where one does
abbrev pub axis_near : Vector → Option Vector
axis_near v =
    if leads v.x v.y v.z
    then Some (vector (signed_one v.x) (pos 0) (pos 0))
    else
    (if leads v.y v.z v.x
    then Some (vector (pos 0) (signed_one v.y) (pos 0))
    else
    (if leads v.z v.x v.y then Some (vector (pos 0) (pos 0) (signed_one v.z)) else None))

-- the ratio is in range
abbrev pub is_ratio : List ℕ → Bool
is_ratio text = nat_le (unsigned_abs (ratio_of text)) greatest_ratio

-- The axis that a direction snaps to, with its ratios as they are read, in units of 10^-12. None
-- where a ratio is out of range, or none leads.
abbrev pub snapped : Coordinates → Option Vector
snapped texts = if all_three is_ratio texts then axis_near (vector_by ratio_of texts) else None
