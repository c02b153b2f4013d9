-- Worked axes and thicknesses, and wrong ones that are refused.

use Rattle.std.proofs.Common.{◌≡◌, refl, sym, ap, ◌∙◌, arith, ℤ, pos, negsuc, true, false, List, [], ◌∷◌}
use Rattle.theory_numbers.specs.Divisors.{greatest_divisor, divisor_within}
use Rattle.theory_numbers.specs.Fractions.{reduced, whole}
use Rattle.sb_fraction.specs.declared.point.Point.{Point}
use Rattle.sb_fraction.specs.Directions.{step, normal_over}
use Rattle.sb_fraction.specs.Spots.{Vector, vector}
use Rattle.theory_turns.specs.Turns.{Quarter}
use Rattle.theory_numbers.specs.Arrows.{cross}
use Rattle.sb_model.specs.declared.layers.Layering.TheVariants.{Plain, Layered}
use Rattle.sb_model.specs.declared.products.Element.{Element}
use Rattle.sb_model.specs.Solids.{Upright, upright}
use Rattle.sb_model.specs.Walks.{item}
use Rattle.theory_models.proofs.ExampleModels.{box_element, layer}
use Rattle.theory_sight.specs.Bands.{items_between, rounded_thickness}
use Rattle.sb_layers.specs.Axes.{axis_along, longest_of, outer_edges}

abbrev point : ℤ → ℤ → Point
point x y = record { x = x; y = y }

abbrev prism_over : List Point → Upright
prism_over points = upright (points ∷ []) (pos 0) (pos 2500)

-- ---- turns

abbrev not_turned : Quarter
not_turned =
    record { x = vector (pos 1) (pos 0) (pos 0); z = vector (pos 0) (pos 0) (pos 1) }

-- the local x along the world's y
abbrev turned_left : Quarter
turned_left =
    record { x = vector (pos 0) (pos 1) (pos 0); z = vector (pos 0) (pos 0) (pos 1) }

-- the local y upward
abbrev lying : Quarter
lying =
    record { x = vector (pos 1) (pos 0) (pos 0); z = vector (pos 0) (negsuc 0) (pos 0) }

-- ---- plans

abbrev straight_wall : Upright
straight_wall =
    prism_over
    (point (pos 0) (pos 0) ∷ point (pos 4000) (pos 0) ∷ point (pos 4000) (pos 100)
    ∷ point (pos 0) (pos 100) ∷ [])

-- at 45 degrees, so that no edge stands at right angles to an axis
abbrev diagonal_wall : Upright
diagonal_wall =
    prism_over
    (point (negsuc 99) (pos 100) ∷ point (pos 0) (pos 0) ∷ point (pos 1000) (pos 1000)
    ∷ point (pos 900) (pos 1100) ∷ [])

-- the longest edge is along y, and none is along x
abbrev sail : Upright
sail = prism_over (point (pos 0) (pos 0) ∷ point (pos 5) (pos 10) ∷ point (pos 0) (pos 20) ∷ [])

-- ---- the axes by number and sense

first_axis : axis_along straight_wall turned_left 1 false ≡ vector (pos 0) (pos 1) (pos 0)
first_axis = refl

second_axis : axis_along straight_wall not_turned 2 false ≡ vector (pos 0) (pos 1) (pos 0)
unfolding step normal_over greatest_divisor divisor_within
second_axis = refl

third_axis : axis_along straight_wall turned_left 3 false ≡ vector (pos 0) (pos 0) (pos 1)
third_axis = refl

first_reversed : axis_along straight_wall turned_left 1 true ≡ vector (pos 0) (negsuc 0) (pos 0)
first_reversed = refl

second_reversed : axis_along straight_wall not_turned 2 true ≡ vector (pos 0) (negsuc 0) (pos 0)
unfolding step normal_over greatest_divisor divisor_within
second_reversed = refl

third_reversed : axis_along straight_wall turned_left 3 true ≡ vector (pos 0) (pos 0) (negsuc 0)
third_reversed = refl

-- turned left, the local y points along the world's -x, to which the short edges stand at right angles
second_turned : axis_along straight_wall turned_left 2 false ≡ vector (negsuc 0) (pos 0) (pos 0)
unfolding step normal_over greatest_divisor divisor_within
second_turned = refl

-- a vertical local y is the axis itself
second_upright : axis_along straight_wall lying 2 false ≡ vector (pos 0) (pos 0) (pos 1)
second_upright = refl

-- ---- no edge at right angles to y

-- of two longest edges the first counts, in the sense of y
second_of_diagonal : axis_along diagonal_wall not_turned 2 false ≡ vector (negsuc 0) (pos 1) (pos 0)
unfolding step normal_over greatest_divisor divisor_within
second_of_diagonal = refl

-- the product with y is 0: the one with y turned clockwise decides
second_of_sail : axis_along sail not_turned 2 false ≡ vector (pos 1) (pos 0) (pos 0)
unfolding step normal_over greatest_divisor divisor_within
second_of_sail = refl

-- the other sense is refused
not_the_other_sense : axis_along sail not_turned 2 false ≡ vector (negsuc 0) (pos 0) (pos 0) → ⊥
unfolding step normal_over greatest_divisor divisor_within
not_the_other_sense same = let x : pos 1 ≡ negsuc 0 = ap (λ v. v.x) (sym second_of_sail ∙ same) in cc

-- and so is the normal of another edge than the longest
not_a_shorter_edge : axis_along sail not_turned 2 false ≡ vector (pos 2) (negsuc 0) (pos 0) → ⊥
unfolding step normal_over greatest_divisor divisor_within
not_a_shorter_edge same = let x : pos 1 ≡ pos 2 = ap (λ v. v.x) (sym second_of_sail ∙ same) in cc

-- ---- thicknesses

-- half a micrometre is rounded away from zero: 1000/80 is 12.5, and 3000/80 is 37.5
half_is_more : rounded_thickness (pos 6400) (pos 1) ≡ 13
half_is_more = refl

half_is_more_again : rounded_thickness (pos 6400) (pos 3) ≡ 38
half_is_more_again = refl

-- 100·√2 mm through a wall at 45 degrees
slanted_thickness : rounded_thickness (pos 2) (pos 200) ≡ 141421
slanted_thickness = refl

-- one layer of 80 mm, of which a half is crossed
abbrev half_seen : Element
half_seen =
    box_element 31 0 4000 3050 3150 2500 refl
    (Layered (layer 1 80000 ∷ []) (record { x = pos 0; y = pos 1; z = pos 0 }))

half_a_layer : items_between half_seen (vector (pos 0) (pos 1) (pos 0)) (pos 3100) (pos 3150)
    ≡ item 31 1 (whole (pos 40000)) ∷ []
unfolding reduced greatest_divisor divisor_within cross
half_a_layer = refl
