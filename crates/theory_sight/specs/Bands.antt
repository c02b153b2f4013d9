-- The bands of a layered element along a normal, and the items of a crossing as one function of the
-- element and of the positions between which it is crossed. A position is p·n, for points p of the
-- ray and its normal n.
use Rattle.std.specs.Prelude.{ℕ, zero, suc, ◌+◌, ◌*◌, ◌==◌, ℤ, pos, ◌+ℤ◌, ◌-ℤ◌, ◌*ℤ◌, Bool, int_lt}
use Rattle.std.specs.Prelude.{unsigned_abs, List, [], ◌∷◌, Option, Some, None, if◌then◌else◌}
use Rattle.std.specs.List.{find}
use Rattle.theory_numbers.specs.Arrows.{Arrow}
use Rattle.theory_numbers.specs.Rationals.{rational}
use Rattle.theory_numbers.specs.Fractions.{reduced, whole}
use Rattle.theory_cuttings.specs.Cuttings.{Break}
use Rattle.theory_cuttings.specs.Changes.{break_at, flip_onto, last_label, label_after, breaks_after}
use Rattle.theory_cuttings.specs.Changes.{breaks_before, Fine}
use Rattle.sb_fraction.specs.Spots.{Vector, inner, opposite}
use Rattle.sb_model.specs.declared.layers.Axis.{Axis}
use Rattle.sb_model.specs.declared.layers.Layer.{Layer}
use Rattle.sb_model.specs.declared.layers.Layering.{Layering}
use Rattle.sb_model.specs.declared.layers.Layering.TheVariants.{Plain, Single, Layered}
use Rattle.sb_model.specs.declared.products.Element.{Element}
use Rattle.sb_model.specs.declared.walk.Item.{Item}
use Rattle.sb_model.specs.Labels.{axis_vector, low_along, high_along, total_of}
use Rattle.sb_model.specs.Solids.{Upright}
use Rattle.sb_model.specs.Walks.{length_between, layer_item, is_reached_by, item}

-- ---- bands

-- a fraction in lowest terms as a rational number
abbrev pub fraction : ℤ → ℤ → Arrow
fraction num den = let r = reduced num den in rational r.num r.den

-- where each band but the last ends and the next begins, along a normal that points as the axis does:
-- the extent's low end and the share of the layers so far in the extent
abbrev pub band_ends : ℤ → ℤ → ℕ → ℕ → List Layer → List (Break ℕ)
band_ends low extent total before [] = []
band_ends low extent total before (l ∷ []) = []
band_ends low extent total before (l ∷ m ∷ ls) =
    break_at
    (fraction ((low *ℤ pos total) +ℤ (extent *ℤ pos (before + l.micro))) (pos total)) m.index
    ∷ band_ends low extent total (before + l.micro) (m ∷ ls)

-- the index of the first layer
abbrev pub first_index : List Layer → ℕ
first_index [] = 0
first_index (l ∷ ls) = l.index

-- the bands along a normal that points as the axis does, each with its layer's index
abbrev pub bands_up : Upright → List Layer → Vector → Fine ℕ
bands_up s layers n = record {
  first = first_index layers;
  rest = band_ends (low_along s n) (high_along s n -ℤ low_along s n) (total_of layers) 0 layers;
}

-- pieces read backwards, in the mirror at 0
abbrev pub flipped : {L : Type 0} → Fine L → Fine L
flipped c = record { first = last_label c.first c.rest; rest = flip_onto c.first c.rest [] }

-- the bands along any normal that is parallel to the axis
abbrev pub bands_along : Upright → List Layer → Axis → Vector → Fine ℕ
bands_along s layers axis n =
    if int_lt (pos 0) (inner (axis_vector axis) n)
    then bands_up s layers n
    else flipped (bands_up s layers (opposite n))

-- the part between two positions
abbrev pub cut_between : {L : Type 0} → Arrow → Arrow → Fine L → Fine L
cut_between x y c =
    record { first = label_after x c.first c.rest; rest = breaks_before y (breaks_after x c.rest) }

-- ---- items

-- the item of the layer with this index from one position to another
abbrev pub item_of_layer : Element → List Layer → Vector → ℕ → Option Layer → Arrow → Arrow → Item
item_of_layer e layers n index None from to = item e.number index (whole (pos 0))
item_of_layer e layers n index (Some l) from to = layer_item e layers n l (length_between from to)

-- the item of the layer that has the index, found among the layers
abbrev pub item_at : Element → List Layer → Vector → ℕ → Arrow → Arrow → Item
item_at e layers n index from to =
    item_of_layer e layers n index (find (λ l. l.index == index) layers) from to

-- one item for each piece between two positions
abbrev pub layer_items : Element → List Layer → Vector → Arrow → ℕ → List (Break ℕ) → Arrow
    → List Item
layer_items e layers n from index [] to = item_at e layers n index from to ∷ []
layer_items e layers n from index (b ∷ bs) to =
    item_at e layers n index from b.start ∷ layer_items e layers n b.start b.label bs to

-- the greatest number up to a bound that passes, 0 where none does
abbrev pub greatest_up_to : (ℕ → Bool) → ℕ → ℕ
greatest_up_to passes zero = 0
greatest_up_to passes (suc n) = if passes (suc n) then suc n else greatest_up_to passes n

-- 1000·k/√N rounded, half away from zero: micrometres. N is at least 1
abbrev pub rounded_thickness : ℤ → ℤ → ℕ
rounded_thickness unit k =
    greatest_up_to (λ m. is_reached_by m unit (rational k (pos 1))) (1000 * unsigned_abs k)

-- the items of the element's layering between two positions, in the order of the normal
abbrev pub items_by : Layering → Element → Vector → ℤ → ℤ → List Item
items_by Plain e n x y =
    item e.number 0 (whole (pos (rounded_thickness (inner n n) (y -ℤ x)))) ∷ []
items_by (Single material) e n x y =
    item e.number 0 (whole (pos (rounded_thickness (inner n n) (y -ℤ x)))) ∷ []
items_by (Layered layers axis) e n x y =
    let from = rational x (pos 1) in
    let to = rational y (pos 1) in
    let cut = cut_between from to (bands_along e.prism layers axis n) in
    layer_items e layers n from cut.first cut.rest to

-- the items of a crossing between two whole positions
abbrev pub items_between : Element → Vector → ℤ → ℤ → List Item
items_between e n x y = items_by e.layering e n x y
