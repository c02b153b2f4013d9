-- Worked crossings: in part, whole, up to a band's end, of one layer and of sixty-four.

use Rattle.std.proofs.Common.{◌≡◌, refl, ℕ, zero, suc, ◌+◌, ◌-◌, pos, neg_ℤ, negsuc, List, [], ◌∷◌}
use Rattle.theory_numbers.specs.Arrows.{cross}
use Rattle.theory_numbers.specs.Divisors.{greatest_divisor, divisor_within}
use Rattle.theory_numbers.specs.Fractions.{reduced, whole}
use Rattle.sb_fraction.specs.Spots.{Vector, vector}
use Rattle.sb_model.specs.declared.layers.Axis.{Axis}
use Rattle.sb_model.specs.declared.layers.Layer.{Layer}
use Rattle.sb_model.specs.declared.layers.Layering.TheVariants.{Plain, Layered}
use Rattle.sb_model.specs.declared.products.Element.{Element}
use Rattle.sb_model.specs.declared.walk.Item.{Item}
use Rattle.sb_model.specs.Walks.{item}
use Rattle.theory_models.proofs.ExampleModels.{box_element, layer}
use Rattle.theory_sight.specs.Bands.{items_between}

abbrev east : Vector
east = vector (pos 1) (pos 0) (pos 0)

abbrev west : Vector
west = vector (negsuc 0) (pos 0) (pos 0)

abbrev eastward : Axis
eastward = record { x = pos 1; y = pos 0; z = pos 0 }

abbrev westward : Axis
westward = record { x = negsuc 0; y = pos 0; z = pos 0 }

-- ---- plaster, brick and gypsum between two rooms

abbrev wall : Axis → Element
wall axis =
    box_element 30 4000 4100 0 3000 2500 refl
    (Layered (layer 1 12500 ∷ layer 2 75000 ∷ layer 3 12500 ∷ []) axis)

all_of_it : items_between (wall eastward) east (pos 4000) (pos 4100)
    ≡ item 30 1 (whole (pos 12500)) ∷ item 30 2 (whole (pos 75000)) ∷ item 30 3 (whole (pos 12500)) ∷ []
unfolding reduced greatest_divisor divisor_within cross
all_of_it = refl

-- where the sense is negative the layers come in the other order
negative_sense : items_between (wall westward) east (pos 4000) (pos 4100)
    ≡ item 30 3 (whole (pos 12500)) ∷ item 30 2 (whole (pos 75000)) ∷ item 30 1 (whole (pos 12500)) ∷ []
unfolding reduced greatest_divisor divisor_within cross
negative_sense = refl

-- and so they do from the other room
from_outside : items_between (wall eastward) west (neg_ℤ (pos 4100)) (neg_ℤ (pos 4000))
    ≡ item 30 3 (whole (pos 12500)) ∷ item 30 2 (whole (pos 75000)) ∷ item 30 1 (whole (pos 12500)) ∷ []
unfolding reduced greatest_divisor divisor_within cross
from_outside = refl

-- ---- two layers that meet at a whole millimetre

abbrev halves : Element
halves =
    box_element 31 0 100 0 3000 2500 refl (Layered (layer 2 40000 ∷ layer 5 60000 ∷ []) eastward)

-- up to the band's end the next layer has no part, and an index is that of the set
up_to_a_band : items_between halves east (pos 0) (pos 40) ≡ item 31 2 (whole (pos 40000)) ∷ []
unfolding reduced greatest_divisor divisor_within cross
up_to_a_band = refl

from_a_band : items_between halves east (pos 40) (pos 70) ≡ item 31 5 (whole (pos 30000)) ∷ []
unfolding reduced greatest_divisor divisor_within cross
from_a_band = refl

-- half a millimetre of an element twice as thick as its layers say
abbrev stretched : Element
stretched = box_element 32 0 200 0 3000 2500 refl (Layered (layer 1 40000 ∷ layer 2 60000 ∷ []) eastward)

half_the_share : items_between stretched east (pos 0) (pos 81)
    ≡ item 32 1 (whole (pos 40000)) ∷ item 32 2 (whole (pos 500)) ∷ []
unfolding reduced greatest_divisor divisor_within cross
half_the_share = refl

-- ---- an element without layers

plain_wall : items_between (box_element 33 0 100 0 3000 2500 refl Plain) east (pos 0) (pos 100)
    ≡ item 33 0 (whole (pos 100000)) ∷ []
plain_wall = refl

-- ---- sixty-four layers of a millimetre

-- so many layers, numbered from this one
abbrev thin_layers : ℕ → ℕ → List Layer
thin_layers zero from = []
thin_layers (suc more) from = layer from 1000 ∷ thin_layers more (suc from)

-- so many items of a millimetre, of the layers from this one
abbrev thin_items : ℕ → ℕ → List Item
thin_items zero from = []
thin_items (suc more) from = item 35 from (whole (pos 1000)) ∷ thin_items more (suc from)

abbrev of_sixty_four : Element
of_sixty_four = box_element 35 4000 4064 0 3000 2500 refl (Layered (thin_layers 64 1) eastward)

sixty_four_layers : items_between of_sixty_four east (pos 4000) (pos 4064) ≡ thin_items 64 1
unfolding reduced greatest_divisor divisor_within cross
sixty_four_layers = refl

-- the last two alone
the_last_layers : items_between of_sixty_four east (pos 4062) (pos 4064)
    ≡ item 35 63 (whole (pos 1000)) ∷ item 35 64 (whole (pos 1000)) ∷ []
unfolding reduced greatest_divisor divisor_within cross
the_last_layers = refl
