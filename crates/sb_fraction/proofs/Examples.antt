-- The ranges of coordinates, directions and fractions: the greatest that is taken, and one more.

use Rattle.std.proofs.Common.{◌≡◌, refl, true, false, [], ◌∷◌, pos, negsuc, map, ◌^◌, ◌+◌}
use Rattle.theory_numbers.specs.Divisors.{greatest_divisor, divisor_within}
use Rattle.sb_fraction.specs.Plane.{is_coordinate, is_direction}
use Rattle.sb_fraction.specs.Bounds.{is_in_bounds}

-- up to 500,000 mm on both sides
greatest_coordinates :
    map is_coordinate (pos 500000 ∷ pos 500001 ∷ negsuc 499999 ∷ negsuc 500000 ∷ [])
    ≡ true ∷ false ∷ true ∷ false ∷ []
greatest_coordinates = refl

-- steps of up to 10^6
longest_steps :
    map (λ x. is_direction x (pos 1)) (pos 1000000 ∷ pos 1000001 ∷ []) ≡ true ∷ false ∷ []
unfolding greatest_divisor divisor_within
longest_steps = refl

-- numerators of up to 10^32
greatest_numerators :
    map (λ n. is_in_bounds (record { num = pos n; den = pos 1 })) ((10 ^ 32) ∷ (10 ^ 32 + 1) ∷ [])
    ≡ true ∷ false ∷ []
greatest_numerators = refl

-- denominators of up to 10^25
greatest_denominators :
    map (λ n. is_in_bounds (record { num = pos 1; den = pos n })) ((10 ^ 25) ∷ (10 ^ 25 + 1) ∷ [])
    ≡ true ∷ false ∷ []
greatest_denominators = refl
