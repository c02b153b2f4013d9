-- Worked points of prisms, labels, crossings, abscissae, thicknesses and keys.

use Rattle.std.proofs.Common.{◌≡◌, refl, ℕ, true, false, [], ◌∷◌, pos, negsuc, Some, map}
use Rattle.theory_numbers.specs.Arrows.{cross, dot}
use Rattle.theory_numbers.specs.Rationals.{rational}
use Rattle.sb_fraction.specs.Spots.{Spot, spot, along, vector}
use Rattle.sb_fraction.specs.Directions.{axis_x, axis_y}
use Rattle.sb_model.specs.declared.labels.label.Label.TheVariants.{Space, Element, Earth, Void}
use Rattle.sb_model.specs.declared.products.Filling.{Filling}
use Rattle.sb_model.specs.declared.products.FillKind.TheVariants.{Window}
use Rattle.sb_model.specs.declared.products.Opening.{Opening}
use Rattle.sb_model.specs.Solids.{is_in_solid}
use Rattle.sb_model.specs.Labels.{label_at, layer_at}
use Rattle.sb_model.specs.PlanEdges.{is_crossing, is_abscissa}
use Rattle.sb_model.specs.Boundaries.OpenedPoints.{key_of}
use Rattle.sb_model.specs.Walks.{is_rounded}
use Rattle.theory_models.proofs.BoxesAreSolid.{box_is_solid}
use Rattle.theory_models.proofs.ExampleModels.{block, layered_wall, layered_wall_between_rooms}
use Rattle.theory_models.proofs.ExampleModels.{wall_opposite_a_t_joint, crossing_slabs}
use Rattle.theory_models.proofs.ExampleModels.{slanted_sides, half_covered_layer}

-- the point (x/w, y/w, z/w)
abbrev spot_at : ℕ → ℕ → ℕ → ℕ → Spot
spot_at x y z w = spot (pos x) (pos y) (pos z) (pos w)

-- ---- inside a prism: strictly between its heights

-- in the middle, and at the upper height
between_heights : map (is_in_solid (block 0 9 0 9 5)) (spot_at 3 3 1 1 ∷ spot_at 3 3 5 1 ∷ [])
    ≡ true ∷ false ∷ []
unfolding cross dot
between_heights = refl

-- ---- layers: a band has its lower end and not its upper end, the last has both

-- in the first layer, 12 mm deep; where the first ends and the second begins, 12.5 mm deep; where
-- the third begins, 87.5 mm deep
layers_of_the_wall :
    map (label_at layered_wall_between_rooms)
    (spot_at 4012 1500 1000 1 ∷ spot_at 8025 3000 2000 2 ∷ spot_at 8175 3000 2000 2 ∷ [])
    ≡ Element 30 1 ∷ Element 30 2 ∷ Element 30 3 ∷ []
unfolding cross dot
layers_of_the_wall = refl

-- the two ends of the wall, which belong to its first and its last layer
ends_of_the_wall :
    map (layer_at layered_wall.prism layered_wall.layering)
    (spot_at 4000 1500 1000 1 ∷ spot_at 4100 1500 1000 1 ∷ [])
    ≡ 1 ∷ 3 ∷ []
ends_of_the_wall = refl

-- ---- what comes first

-- a space; under two overlapping elements the lower number counts; one element alone
first_that_applies :
    map (label_at half_covered_layer)
    (spot_at 2000 1500 1000 1 ∷ spot_at 2000 3075 1000 1 ∷ spot_at 2000 3125 1000 1 ∷ [])
    ≡ Space 20 ∷ Element 30 0 ∷ Element 31 1 ∷ []
unfolding cross dot
first_that_applies = refl

-- below the ground, and at the ground, which is not below it
beside_the_ground :
    map (label_at half_covered_layer)
    (spot (pos 9000) (pos 0) (negsuc 0) (pos 1) ∷ spot_at 9000 0 0 1 ∷ [])
    ≡ Earth ∷ Void ∷ []
unfolding cross dot
beside_the_ground = refl

-- ---- crossing slabs

-- the crossing (10/3, 20/3), a point on one slanted edge alone, and a common end of two edges
crossings_of_slabs :
    map (is_crossing crossing_slabs) (spot_at 10 20 0 3 ∷ spot_at 5 5 0 1 ∷ spot_at 0 10 0 1 ∷ [])
    ≡ true ∷ false ∷ false ∷ []
unfolding cross dot
crossings_of_slabs = refl

-- the abscissa of the crossing, the same number not reduced, that of an end, and none
abscissae_of_slabs :
    map (is_abscissa crossing_slabs axis_x)
    (rational (pos 10) (pos 3) ∷ rational (pos 20) (pos 6) ∷ rational (pos 5) (pos 1)
    ∷ rational (pos 3) (pos 1) ∷ [])
    ≡ true ∷ true ∷ true ∷ false ∷ []
unfolding cross dot
abscissae_of_slabs = refl

-- along y the crossing has the abscissa 20/3
abscissa_along_y : is_abscissa crossing_slabs axis_y (rational (pos 20) (pos 3)) ≡ true
unfolding cross dot
abscissa_along_y = refl

-- ---- labels along a ray

-- opposite a T-joint, from Side(2) of space #20 at x = 4000: the wall, the joined wall, and behind
-- it
labels_opposite_the_joint :
    map (λ depth. label_at wall_opposite_a_t_joint
    (along (spot_at 4000 3000 1000 1) axis_y (rational (pos depth) (pos 1))))
    (100 ∷ 300 ∷ 4000 ∷ [])
    ≡ Element 30 0 ∷ Element 31 0 ∷ Void ∷ []
unfolding cross dot
labels_opposite_the_joint = refl

-- from the slanted side of space #20 at (500, 500) along (1, 1, 0), where depth 200 stands for
-- 200/√2 mm: twice in the wall, and past it
labels_off_the_slant :
    map (λ depth. label_at slanted_sides
    (along (spot_at 500 500 1000 1) (vector (pos 1) (pos 1) (pos 0))
    (rational (pos depth) (pos 1))))
    (1 ∷ 199 ∷ 201 ∷ [])
    ≡ Element 30 0 ∷ Element 30 0 ∷ Void ∷ []
unfolding cross dot
labels_off_the_slant = refl

-- ---- thicknesses of slanted sides

-- 200/√2 mm is 141421 µm and no more
thickness_of_slant :
    map (λ m. is_rounded m (pos 2) (rational (pos 200) (pos 1))) (141421 ∷ 141422 ∷ [])
    ≡ true ∷ false ∷ []
thickness_of_slant = refl

-- 1/√9000001 mm is 0 µm
thickness_of_sliver : is_rounded 0 (pos 9000001) (rational (pos 1) (pos 1)) ≡ true
thickness_of_sliver = refl

-- half a micrometre away from zero: 1/2000 mm along an axis is 1 µm
thickness_of_half : is_rounded 1 (pos 1) (rational (pos 1) (pos 2000)) ≡ true
thickness_of_half = refl

-- ---- keys: fillings before bare openings, and the lower number before the higher

abbrev opening : ℕ → ℕ → Opening
opening number element = record {
  number = number;
  element = element;
  prism = block 1000 2000 2900 3300 2100;
  is_solid = box_is_solid (block 1000 2000 2900 3300 2100) refl;
}

abbrev filling : ℕ → ℕ → Filling
filling number opening = record { number = number; opening = opening; kind = Window }

lower_filling : key_of (opening 40 30 ∷ opening 41 31 ∷ []) (filling 50 41 ∷ filling 51 40 ∷ [])
    ≡ Some 50
lower_filling = refl

-- filling #60 comes before the bare opening #40
filling_before_opening : key_of (opening 40 30 ∷ opening 41 31 ∷ []) (filling 60 41 ∷ []) ≡ Some 60
filling_before_opening = refl

-- the filling of another opening does not count
bare_opening : key_of (opening 41 31 ∷ opening 40 30 ∷ []) (filling 50 42 ∷ []) ≡ Some 40
bare_opening = refl
