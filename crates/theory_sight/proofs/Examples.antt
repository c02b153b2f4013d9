-- Worked walks that are read, from both sides, and wrong ones that are refused.
use Rattle.std.proofs.Common.{◌≡◌, refl, sym, ap, ◌∙◌, arith, ℕ, length, pos, neg_ℤ, negsuc, List, [], ◌∷◌, ◌==◌, true, false}
use Rattle.theory_numbers.specs.Arrows.{cross}
use Rattle.theory_numbers.specs.Divisors.{greatest_divisor, divisor_within}
use Rattle.theory_numbers.specs.Fractions.{reduced, whole}
use Rattle.theory_numbers.specs.Rationals.{rational}
use Rattle.sb_fraction.specs.Spots.{Vector, vector}
use Rattle.sb_model.specs.declared.labels.label.Label.TheVariants as label
use Rattle.sb_model.specs.declared.layers.Layering.TheVariants.{Plain, Layered}
use Rattle.sb_model.specs.declared.products.Element.{Element}
use Rattle.sb_model.specs.declared.walk.End.{End}
use Rattle.sb_model.specs.declared.walk.End.TheVariants as end
use Rattle.sb_model.specs.declared.walk.Item.{Item}
use Rattle.sb_model.specs.Building.{Building}
use Rattle.sb_model.specs.Walks.{Course, course, item}
use Rattle.theory_models.proofs.ExampleModels.{model, box_room, box_element, layer}
use Rattle.theory_sight.specs.Coarse.{stacked}
use Rattle.theory_sight.specs.Bands.{items_between}
use Rattle.theory_sight.specs.Reading.{square, slanted, never, stretch, read, ends_in}

abbrev east : Vector
east = vector (pos 1) (pos 0) (pos 0)

abbrev west : Vector
west = vector (negsuc 0) (pos 0) (pos 0)

-- a course of this depth
abbrev walk : List Item → ℕ → End → Course
walk items depth found = course items (rational (pos depth) (pos 1)) found

-- the layer of the first item
first_layer : List Item → ℕ
first_layer [] = 0
first_layer (i ∷ is) = i.layer

-- ---- a wall of three layers, 10, 75 and 15 mm, between two rooms

abbrev wall : Element
wall =
    box_element 30 4000 4100 0 3000 2500 refl
    (Layered (layer 1 10000 ∷ layer 2 75000 ∷ layer 3 15000 ∷ [])
    (record { x = pos 1; y = pos 0; z = pos 0 }))

abbrev rooms : Building
rooms =
    model
    (box_room 20 0 4000 0 3000 2500 refl ∷ box_room 21 4100 8100 0 3000 2500 refl ∷ [])
    (wall ∷ [])

wall_out : read rooms east (pos 4000) (pos 4000)
    (stretch (label.Element 30 0) (square (pos 4100)) ∷ stretch (label.Space 21) never ∷ [])
    ≡ walk
    (item 30 1 (whole (pos 10000)) ∷ item 30 2 (whole (pos 75000))
    ∷ item 30 3 (whole (pos 15000)) ∷ []) 100 (end.Space 21)
unfolding reduced greatest_divisor divisor_within cross
wall_out = refl

-- from the other side the layers come in reverse
wall_home : read rooms west (neg_ℤ (pos 4100)) (neg_ℤ (pos 4100))
    (stretch (label.Element 30 0) (square (neg_ℤ (pos 4000))) ∷ stretch (label.Space 20) never ∷ [])
    ≡ walk
    (item 30 3 (whole (pos 15000)) ∷ item 30 2 (whole (pos 75000))
    ∷ item 30 1 (whole (pos 10000)) ∷ []) 100 (end.Space 20)
unfolding reduced greatest_divisor divisor_within cross
wall_home = refl

-- items that are not reversed are refused
not_the_same_back : items_between wall west (neg_ℤ (pos 4100)) (neg_ℤ (pos 4000))
    ≡ items_between wall east (pos 4000) (pos 4100) → ⊥
unfolding reduced greatest_divisor divisor_within cross first_layer
not_the_same_back same = let layer : 3 ≡ 1 = ap first_layer same in omega (arith, layer)

-- a crossing of a part: 2 mm of the first layer, the second, and 5 mm of the third
part_of_the_wall : items_between wall east (pos 4008) (pos 4090)
    ≡ item 30 1 (whole (pos 2000)) ∷ item 30 2 (whole (pos 75000)) ∷ item 30 3 (whole (pos 5000)) ∷ []
unfolding reduced greatest_divisor divisor_within cross
part_of_the_wall = refl

-- where a stretch begins inside one layer and ends in it there is one item
one_layer : items_between wall east (pos 4020) (pos 4050) ≡ item 30 2 (whole (pos 30000)) ∷ []
unfolding reduced greatest_divisor divisor_within cross
one_layer = refl

-- ---- elements without layers, side by side

abbrev two_walls : Building
two_walls =
    model
    (box_room 20 0 4000 0 3000 2500 refl ∷ box_room 21 5200 8100 0 3000 2500 refl ∷ [])
    (box_element 30 4000 4600 0 3000 2500 refl Plain
    ∷ box_element 31 4600 5200 0 3000 2500 refl Plain
    ∷ box_element 32 4000 5000 0 3000 2500 refl Plain
    ∷ box_element 33 4000 5001 0 3000 2500 refl Plain ∷ [])

-- two equal elements are two crossings, each within reach although both together are not
side_by_side : read two_walls east (pos 4000) (pos 4000)
    (stretch (label.Element 30 0) (square (pos 4600))
    ∷ stretch (label.Element 31 0) (square (pos 5200)) ∷ stretch (label.Space 21) never ∷ [])
    ≡ walk (item 30 0 (whole (pos 600000)) ∷ item 31 0 (whole (pos 600000)) ∷ []) 1200 (end.Space 21)
side_by_side = refl

-- the reach of 1,000 mm is measured over one crossing: met by one of 1,000 mm
reach_met : read two_walls east (pos 4000) (pos 4000)
    (stretch (label.Element 32 0) (square (pos 5000)) ∷ stretch label.Void never ∷ [])
    ≡ walk (item 32 0 (whole (pos 1000000)) ∷ []) 1000 end.Outside
reach_met = refl

-- and passed by one of 1,001 mm
reach_passed : read two_walls east (pos 4000) (pos 4000)
    (stretch (label.Element 33 0) (square (pos 5001)) ∷ stretch label.Void never ∷ [])
    ≡ walk [] 0 (end.Solid 33)
reach_passed = refl

-- the reach over several crossings would end the walk at the second: that is not what is read
reach_is_not_summed : read two_walls east (pos 4000) (pos 4000)
    (stretch (label.Element 30 0) (square (pos 4600))
    ∷ stretch (label.Element 31 0) (square (pos 5200)) ∷ stretch (label.Space 21) never ∷ [])
    ≡ walk (item 30 0 (whole (pos 600000)) ∷ []) 600 (end.Solid 31) → ⊥
reach_is_not_summed same =
    let items : 2 ≡ 1 = ap (λ c. length c.items) (sym side_by_side ∙ same) in omega (arith, items)

-- ---- ends

-- a slanted far end stops the walk, and none of the crossing's items is taken
slanted_end : read rooms east (pos 4000) (pos 4000)
    (stretch (label.Element 30 0) slanted ∷ stretch (label.Space 21) never ∷ [])
    ≡ walk [] 0 (end.Solid 30)
slanted_end = refl

-- behind a crossing that is passed its depth is kept
slanted_behind : read two_walls east (pos 4000) (pos 4000)
    (stretch (label.Element 30 0) (square (pos 4600)) ∷ stretch (label.Element 31 0) slanted
    ∷ stretch label.Void never ∷ [])
    ≡ walk (item 30 0 (whole (pos 600000)) ∷ []) 600 (end.Solid 31)
slanted_behind = refl

-- a slanted far end that is passed is refused
slanted_is_not_passed : read rooms east (pos 4000) (pos 4000)
    (stretch (label.Element 30 0) slanted ∷ stretch (label.Space 21) never ∷ [])
    ≡ walk
    (item 30 1 (whole (pos 10000)) ∷ item 30 2 (whole (pos 75000))
    ∷ item 30 3 (whole (pos 15000)) ∷ []) 100 (end.Space 21) → ⊥
slanted_is_not_passed same =
    let items : 0 ≡ 3 = ap (λ c. length c.items) (sym slanted_end ∙ same) in omega (arith, items)

-- the earth, the air, and a room that touches
ends_at_once : read rooms east (pos 4000) (pos 4000) (stretch label.Earth never ∷ [])
    ≡ walk [] 0 end.Earth
ends_at_once = refl

out_in_the_air : read rooms east (pos 4000) (pos 4000) (stretch label.Void never ∷ [])
    ≡ walk [] 0 end.Outside
out_in_the_air = refl

touching_room : read rooms east (pos 4000) (pos 4000)
    (stretch (label.Space 21) (square (pos 8100)) ∷ stretch label.Void never ∷ [])
    ≡ walk [] 0 (end.Space 21)
touching_room = refl

-- an element whose axis stands across the ray stops the walk
across_the_layers : read rooms (vector (pos 0) (pos 1) (pos 0)) (pos 0) (pos 0)
    (stretch (label.Element 30 0) (square (pos 500)) ∷ stretch label.Void never ∷ [])
    ≡ walk [] 0 (end.Solid 30)
across_the_layers = refl

-- a walk that ends at the second stretch is known from two
known_from_two : ends_in rooms east (pos 4000)
    (stretch (label.Element 30 0) (square (pos 4100)) ∷ stretch (label.Space 21) never ∷ []) ≡ true
known_from_two = refl

not_from_one : ends_in rooms east (pos 4000)
    (stretch (label.Element 30 0) (square (pos 4100)) ∷ []) ≡ false
not_from_one = refl

-- ---- what is on a line

-- an element inside a space is not seen
space_comes_first : stacked rooms (λ s. s.number == 20) (λ e. e.number == 30) label.Void
    ≡ label.Space 20
space_comes_first = refl

-- of two that overlap the lower number is seen, and where none is, what is bare
lower_comes_first : stacked two_walls (λ s. false) (λ e. true) label.Void ≡ label.Element 30 0
lower_comes_first = refl

nothing_more : stacked two_walls (λ s. false) (λ e. false) label.Earth ≡ label.Earth
nothing_more = refl
