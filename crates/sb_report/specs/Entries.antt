-- The entry of a boundary, as data of JSON. The keys stand in the order of their bytes.

use Rattle.std.specs.Prelude.{ℕ, ℤ, List, map, codes, Option, Some, None}
use Rattle.serde_json.specs.Data.{Data, null, number, string, array, object, unsigned, no_items}
use Rattle.serde_json.specs.Data.{item, no_members, member}
use Rattle.serde_json.specs.Find.{of_integer}
use Rattle.serde_json.specs.View.{items_of}
use Rattle.theory_numbers.specs.Fractions.{Ratio}
use Rattle.sb_model.specs.declared.boundary.Boundary.{Boundary}
use Rattle.sb_model.specs.declared.patches.corner.Corner.{Corner}
use Rattle.sb_model.specs.declared.patches.corner.Corners.{Corners}
use Rattle.sb_model.specs.declared.patches.corner.Corners.TheVariants.{Three, Four}
use Rattle.sb_model.specs.declared.walk.End.{End}
use Rattle.sb_model.specs.declared.walk.End.TheVariants as end
use Rattle.sb_model.specs.declared.walk.Item.{Item}
use Rattle.sb_fraction.specs.Spots.{Vector, inner}
use Rattle.sb_model.specs.Building.{Building, material_of}
use Rattle.sb_model.specs.Surfaces.Corners.{corners_of}
use Rattle.sb_report.specs.Strings.{fraction_text, material_text, face_name, end_name}
use Rattle.sb_model.specs.Surfaces.Facings.{normal_of}

-- a number without a sign
abbrev pub count : ℕ → Data
count n = number (unsigned n)

-- a number with a sign
abbrev pub signed : ℤ → Data
signed z = number (of_integer z)

-- a number without a sign, or null
abbrev pub count_or_null : Option ℕ → Data
count_or_null None = null
count_or_null (Some n) = count n

-- three values in a list
abbrev pub three : Data → Data → Data → Data
three a b c = array (item a (item b (item c no_items)))

-- four values in a list
abbrev pub four : Data → Data → Data → Data → Data
four a b c d = array (item a (item b (item c (item d no_items))))

-- a fraction, as a string
abbrev pub fraction_data : Ratio → Data
fraction_data r = string (fraction_text r)

-- a corner: its coordinates in millimetres
abbrev pub corner_data : Corner → Data
corner_data c = three (fraction_data c.x) (fraction_data c.y) (fraction_data c.z)

-- the corners of a patch; the empty list stands where the patch has none
abbrev pub corners_data : Option Corners → Data
corners_data None = array no_items
corners_data (Some (Three a b c)) = three (corner_data a) (corner_data b) (corner_data c)
corners_data (Some (Four a b c d)) =
    four (corner_data a) (corner_data b) (corner_data c) (corner_data d)

-- the normal of a face; the empty list stands where there is no such face
abbrev pub normal_data : Option Vector → Data
normal_data None = array no_items
normal_data (Some n) = three (signed n.x) (signed n.y) (signed n.z)

-- the unit of a face: the inner product of its normal with itself; null where there is no such face
abbrev pub unit_data : Option Vector → Data
unit_data None = null
unit_data (Some n) = signed (inner n n)

-- the number of the space or element at the end of a walk
abbrev pub target : End → Option ℕ
target (end.Space n) = Some n
target end.Outside = None
target end.Earth = None
target (end.Solid n) = Some n

-- a crossed layer: its thickness is in micrometres
unfoldable pub item_data : Building → Item → Data
item_data m i = object
    (member (codes "element") (count i.element)
    (member (codes "layer") (count i.layer)
    (member (codes "material") (string (material_text (material_of m i.element i.layer)))
    (member (codes "thickness") (fraction_data i.thickness)
    no_members))))

-- the crossed layers, in the ray's order
abbrev pub items_data : Building → List Item → Data
items_data m items = array (items_of (map (item_data m) items))

-- a boundary, whose id is this number
unfoldable pub boundary_data : Building → ℕ → Boundary → Data
boundary_data m id b = object
    (member (codes "corners") (corners_data (corners_of m b.patch))
    (member (codes "depth") (signed b.walk.depth)
    (member (codes "end") (string (end_name b.walk.end))
    (member (codes "face") (string (face_name b.patch.face.kind))
    (member (codes "id") (count id)
    (member (codes "items") (items_data m b.walk.items)
    (member (codes "key") (count_or_null b.key)
    (member (codes "normal") (normal_data (normal_of m b.patch.face))
    (member (codes "pair") (count_or_null b.pair)
    (member (codes "parent") (count_or_null b.parent)
    (member (codes "space") (count b.patch.face.space)
    (member (codes "target") (count_or_null (target b.walk.end))
    (member (codes "unit") (unit_data (normal_of m b.patch.face))
    no_members)))))))))))))
