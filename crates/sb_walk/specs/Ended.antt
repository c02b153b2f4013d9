-- The items and the ends of walks up and down through elements without layers.

use Rattle.std.specs.Prelude.{◌*◌, ℤ, pos, ◌-ℤ◌, unsigned_abs, List, Option, Some, None, if◌then◌else◌}
use Rattle.theory_numbers.specs.Fractions.{whole}
use Rattle.theory_numbers.specs.Rationals.{rational}
use Rattle.sb_model.specs.declared.labels.label.Label.{Label}
use Rattle.sb_model.specs.declared.labels.label.Label.TheVariants as label
use Rattle.sb_model.specs.declared.products.Element.{Element}
use Rattle.sb_model.specs.declared.walk.End.{End}
use Rattle.sb_model.specs.declared.walk.End.TheVariants as end
use Rattle.sb_model.specs.declared.walk.Item.{Item}
use Rattle.sb_model.specs.Building.{Building}
use Rattle.sb_model.specs.Walks.{Course, course, item, is_in_reach, element_numbered}

-- the item of an element that is crossed between two positions: 1000 µm a millimetre. None where there
-- is no element, or the crossing is longer than the reach
abbrev pub item_through : Building → Option Element → ℤ → ℤ → Option Item
item_through m None x y = None
item_through m (Some e) x y =
    if is_in_reach m.reach (pos 1) (rational (y -ℤ x) (pos 1))
    then Some (item e.number 0 (whole (pos (1000 * unsigned_abs (y -ℤ x)))))
    else None

-- of what has this label; none where that is no element
abbrev pub item_over : Building → Label → ℤ → ℤ → Option Item
item_over m (label.Element k layer) x y = item_through m (element_numbered m k) x y
item_over m (label.Space k) x y = None
item_over m label.Earth x y = None
item_over m label.Void x y = None

-- what ends a walk at this label
abbrev pub end_of : Label → End
end_of (label.Space k) = end.Space k
end_of (label.Element k layer) = end.Solid k
end_of label.Earth = end.Earth
end_of label.Void = end.Outside

-- the walk with these items from x0 to a position, in front of this label
abbrev pub course_to : List Item → ℤ → ℤ → Label → Course
course_to items x0 at l = course items (rational (at -ℤ x0) (pos 1)) (end_of l)
