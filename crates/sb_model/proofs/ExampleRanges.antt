-- The ranges of models and patches: the greatest that is taken, and one more.

use Rattle.std.proofs.Common.{◌≡◌, refl, ℕ, zero, suc, true, false, List, [], ◌∷◌, pos, negsuc}
use Rattle.std.proofs.Common.{map, ◌^◌, ◌+◌, ◌*◌}
use Rattle.sb_model.specs.declared.layers.Layer.{Layer}
use Rattle.sb_model.specs.declared.layers.Layering.TheVariants.{Layered}
use Rattle.sb_model.specs.Building.{is_ground_height, is_reach, is_shift, are_layers, is_layering}
use Rattle.sb_model.specs.Surfaces.Sides.{greatest_offset, greatest_abscissa_num, greatest_abscissa_den}

-- the ground from -500,000 to 500,000 mm
ground_heights :
    map is_ground_height (pos 500000 ∷ pos 500001 ∷ negsuc 499999 ∷ negsuc 500000 ∷ [])
    ≡ true ∷ false ∷ true ∷ false ∷ []
ground_heights = refl

-- the reach from 1 to 5,000 mm
reaches : map is_reach (0 ∷ 1 ∷ 5000 ∷ 5001 ∷ []) ≡ false ∷ true ∷ true ∷ false ∷ []
reaches = refl

-- a shift of up to 10^12 nm
shifts :
    map (λ n. is_shift (pos 0 ∷ pos n ∷ pos 0 ∷ [])) ((10 ^ 12) ∷ (10 ^ 12 + 1) ∷ [])
    ≡ true ∷ false ∷ []
shifts = refl

abbrev layer : ℕ → ℕ → Layer
layer index micro = record { index = index; material = []; micro = micro }

-- a layer from 1 to 10,000,000 µm thick, with an index above the one before
thicknesses :
    map (λ n. are_layers 0 (layer 1 n ∷ [])) (0 ∷ 1 ∷ 10000000 ∷ 10000001 ∷ [])
    ≡ false ∷ true ∷ true ∷ false ∷ []
thicknesses = refl

-- n layers, numbered from the first on
abbrev layers_from : ℕ → ℕ → List Layer
layers_from first zero = []
layers_from first (suc n) = layer first 1 ∷ layers_from (first + 1) n

-- from 1 to 64 layers
numbers_of_layers :
    map (λ n. is_layering (Layered (layers_from 1 n) (record { x = pos 0; y = pos 0; z = pos 1 })))
    (0 ∷ 1 ∷ 64 ∷ 65 ∷ [])
    ≡ false ∷ true ∷ true ∷ false ∷ []
numbers_of_layers = refl

-- offsets of up to 10^12, abscissae of up to 2·10^24 over 2·10^12
sizes_of_patches :
    greatest_offset ∷ greatest_abscissa_num ∷ greatest_abscissa_den ∷ []
    ≡ (10 ^ 12) ∷ (2 * 10 ^ 24) ∷ (2 * 10 ^ 12) ∷ []
sizes_of_patches = refl
