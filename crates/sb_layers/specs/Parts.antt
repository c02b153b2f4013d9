-- The bands of an element that a straight way crosses, one after another.

use Rattle.std.specs.Prelude.{ℕ, ℤ, pos, ◌+◌, ◌*◌, ◌^◌, ◌≤◌, ◌<ℤ◌, ◌+ℤ◌, ◌-ℤ◌, ◌*ℤ◌, unsigned_abs, int_lt, List, [], ◌∷◌, ◌++◌, if◌then◌else◌}
use Rattle.std.specs.Int.{int_min, int_max}
use Rattle.theory_numbers.specs.Fractions.{reduced}
use Rattle.sb_model.specs.declared.layers.Layer.{Layer}
use Rattle.sb_model.specs.declared.walk.Item.{Item}
use Rattle.sb_model.specs.Walks.{item}
use Rattle.sb_fraction.specs.Spots.{Vector}
use Rattle.sb_model.specs.declared.products.Element.{Element}
use Rattle.sb_model.specs.Labels.{low_along, high_along, total_of}
use Rattle.sb_layers.specs.declared.parts.Way.{Way}

-- A way through an element with layers: the element's number, the length of its extent, and, T times as
-- great where T is the sum of the layers, the extent's low end and the two ends of the way.

-- where the bands before so many micrometres end, T times as great
abbrev pub end_behind : Way → ℕ → ℤ
end_behind w before = w.low +ℤ (w.extent *ℤ pos before)

-- the item of a layer from one place to another, none where it is nowhere between: the nominal
-- thickness times the share of the band comes to the crossed length over the extent's
abbrev pub item_between : Way → Layer → ℤ → ℤ → List Item
item_between w l from to =
    if int_lt from to then item w.element l.index (reduced (to -ℤ from) w.extent) ∷ [] else []

-- the item of the part of a layer's band that is crossed
abbrev pub part_of : Way → ℕ → Layer → List Item
part_of w before l =
    item_between w l (int_max w.from (end_behind w before))
    (int_min w.to (end_behind w (before + l.micro)))

-- the items of all of them
abbrev pub parts_of : Way → ℕ → List Layer → List Item
parts_of w before [] = []
parts_of w before (l ∷ ls) = part_of w before l ++ parts_of w (before + l.micro) ls

-- the way from x to y through an element with this extent and layers of this sum
abbrev pub way_of : ℕ → ℤ → ℤ → ℕ → ℤ → ℤ → Way
way_of element extent low total x y = record {
  element = element;
  extent = extent;
  low = low *ℤ pos total;
  from = x *ℤ pos total;
  to = y *ℤ pos total;
}

-- the items of a way through an element along a normal that points as the axis of its layers does
abbrev pub parts_along : Element → Vector → ℤ → ℤ → List Layer → List Item
parts_along e n x y layers =
    let low = low_along e.prism n in
    parts_of (way_of e.number (high_along e.prism n -ℤ low) low (total_of layers) x y) 0 layers

-- how great the numbers of a way may be
abbrev pub greatest_extent : ℕ
greatest_extent = 4 * 10 ^ 12

abbrev pub greatest_place : ℕ
greatest_place = 10 ^ 22

-- the extent has a length, and the numbers are within their bounds
pub record IsWithinBounds (w : Way) : Type 0 where
  pub positive : pos 0 <ℤ w.extent
  pub extent : unsigned_abs w.extent ≤ greatest_extent
  pub low : unsigned_abs w.low ≤ greatest_place
  pub from : unsigned_abs w.from ≤ greatest_place
  pub to : unsigned_abs w.to ≤ greatest_place
