-- The grid of whole millimetres, and which world coordinates lie near enough to it.
use Rattle.std.specs.Prelude.{◌≡◌, true, ℕ, ℤ, pos, neg_ℤ, ◌+◌, ◌/◌, ◌-ℤ◌, ◌*ℤ◌, Bool, nat_le, int_lt, unsigned_abs, if◌then◌else◌}

-- a millimetre in nanometres
abbrev pub millimetre : ℕ
millimetre = 1000000

-- how far from its millimetre a coordinate may lie, in nanometres: 10 µm
abbrev pub tolerance : ℕ
tolerance = 10000

-- the greatest size of a world coordinate in nanometres: 500 m and 10 µm
abbrev pub farthest : ℕ
farthest = 500000010000

-- the whole millimetre that is nearest, of two the one farther from 0
abbrev pub nearest_millimetre : ℤ → ℤ
nearest_millimetre nm =
    if int_lt nm (pos 0)
    then neg_ℤ (pos ((unsigned_abs nm + 500000) / millimetre))
    else pos ((unsigned_abs nm + 500000) / millimetre)

-- the coordinate lies within 10 µm of this millimetre: 3,010,000 nm is near 3 mm, 3,010,001 nm is near none
abbrev pub is_near_to : ℤ → ℤ → Bool
is_near_to nm mm = nat_le (unsigned_abs (nm -ℤ (mm *ℤ pos millimetre))) tolerance

-- it lies near a whole millimetre
abbrev pub is_near : ℤ → Bool
is_near nm = is_near_to nm (nearest_millimetre nm)

-- it is in range
abbrev pub is_in_world : ℤ → Bool
is_in_world nm = nat_le (unsigned_abs nm) farthest

-- Law

-- A coordinate lies near no other whole millimetre than the nearest one. So it is near none where it is not
-- near that one.
abbrev pub NearIsNearest : Type 0
NearIsNearest = (nm mm : ℤ) → is_near_to nm mm ≡ true → mm ≡ nearest_millimetre nm
