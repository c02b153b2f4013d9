-- Worked reports that the definitions give, and lists that the conditions refuse.

use Rattle.std.proofs.Common.{◌≡◌, ℕ, ℤ, pos, negsuc, true, false, [], ◌∷◌, ◌++◌, codes, IsTrue}
use Rattle.std.proofs.Common.{Option, Some, None, refl}
use Rattle.serde_json.specs.Data.{Data}
use Rattle.serde_json.specs.Written.{compact_text}
use Rattle.serde_json.proofs.OnLiterals.{serde_json_on_literals}
use Rattle.std.specs.Fmt.{digits}
use lib.Utf8.{encode}
use Rattle.theory_numbers.specs.Arrows.{cross, dot}
use Rattle.theory_numbers.specs.Divisors.{divisor_within, greatest_divisor}
use Rattle.theory_numbers.specs.Fractions.{Ratio, reduced}
use Rattle.sb_fraction.specs.declared.direction.Direction.{Direction}
use Rattle.sb_fraction.specs.declared.direction.Line.{Line}
use Rattle.sb_fraction.specs.declared.point.Point.{Point}
use Rattle.sb_fraction.specs.declared.unit.Unit.TheVariants.{Millimetre}
use Rattle.sb_model.specs.declared.boundary.Boundary.{Boundary}
use Rattle.sb_model.specs.declared.faces.face.FaceKind.TheVariants as kind
use Rattle.sb_model.specs.declared.faces.face.Side.TheVariants.{OnLine}
use Rattle.sb_model.specs.declared.layers.Layering.TheVariants.{Single}
use Rattle.sb_model.specs.declared.patches.patch.Patch.{Patch}
use Rattle.sb_model.specs.declared.products.Element.{Element}
use Rattle.sb_model.specs.declared.products.Space.{Space}
use Rattle.sb_model.specs.declared.walk.End.TheVariants as end
use Rattle.sb_model.specs.Building.{Building, building}
use Rattle.sb_model.specs.Surfaces.Corners.{corners_of, level_corner}
use Rattle.sb_model.specs.Surfaces.Sides.{is_patch}
use Rattle.sb_model.specs.Solids.{Upright, upright, is_upright}
use Rattle.sb_fraction.specs.Spots.{vector}
use Rattle.sb_report.specs.Strings.{fraction_text, material_text}
use Rattle.sb_report.specs.Entries.{three, four, fraction_data, corners_data, item_data}
use Rattle.sb_report.specs.Entries.{boundary_data}
use Rattle.sb_model.specs.ListOfModel.{is_list_of}
use Rattle.sb_report.specs.Report.{report_data, report_of}

point : ℤ → ℤ → Point
point x y = record { x = x; y = y }

ratio : ℤ → ℤ → Ratio
ratio num den = record { num = num; den = den }

-- a fraction that is whole, one that is not, and one below 0
whole_number : fraction_text (ratio (pos 4000) (pos 1)) ≡ codes "4000"
unfolding serde_json_on_literals digits ratio
whole_number = refl

third : fraction_text (ratio (pos 10) (pos 3)) ≡ codes "10/3"
unfolding serde_json_on_literals digits ratio
third = refl

below_zero : fraction_text (ratio (negsuc 0) (pos 2)) ≡ codes "-1/2"
unfolding serde_json_on_literals digits ratio
below_zero = refl

-- the byte 233 becomes é, the bytes 195 and 169 of UTF-8
accent : material_text (66 ∷ 233 ∷ []) ≡ 66 ∷ 195 ∷ 169 ∷ []
unfolding encode
accent = refl

-- the box [0, 4000], [0, 3000], [0, 2500] in millimetres
box_prism : Upright
box_prism = upright
    ((point (pos 0) (pos 0) ∷ point (pos 4000) (pos 0) ∷ point (pos 4000) (pos 3000) ∷ point (pos 0) (pos 3000) ∷ []) ∷ [])
    (pos 0) (pos 2500)

box_is_solid : IsTrue (is_upright box_prism)
unfolding point box_prism cross dot
box_is_solid = refl

space : Space
space = record {
  number = 20;
  global_id = [];
  prism = box_prism;
  frame = record {
    turn = record { x = vector (pos 1) (pos 0) (pos 0); z = vector (pos 0) (pos 0) (pos 1) };
    shift = pos 0 ∷ pos 0 ∷ pos 0 ∷ [];
  };
  is_solid = box_is_solid;
}

box : Building
box = building Millimetre (pos 0) 1000 (space ∷ []) [] [] []

east : Direction
unfolding divisor_within greatest_divisor
east = record { x = pos 1; y = pos 0; is_direction = refl }

level_at : ℤ → Line
level_at y = record { dir = east; off = y }

-- the fact that the whole of Bottom is a patch
IsBottom : Type 0
IsBottom = IsTrue (is_patch kind.Bottom (ratio (pos 0) (pos 1)) (ratio (pos 4000) (pos 1))
    (OnLine (level_at (pos 0))) (OnLine (level_at (pos 3000))))

whole_bottom : IsBottom → Patch
unfolding IsBottom
whole_bottom fact = record {
  face = record { space = 20; kind = kind.Bottom };
  low = ratio (pos 0) (pos 1);
  high = ratio (pos 4000) (pos 1);
  lower = OnLine (level_at (pos 0));
  upper = OnLine (level_at (pos 3000));
  is_patch = fact;
}

-- a boundary of Bottom with these ties
bottom_with : IsBottom → Option ℕ → Option ℕ → Option ℕ → Boundary
bottom_with fact pair parent key = record {
  patch = whole_bottom fact;
  walk = record { items = []; depth = pos 0; end = end.Earth };
  pair = pair;
  parent = parent;
  key = key;
}

bottom : IsBottom → Boundary
bottom fact = bottom_with fact None None None

corner_of_box : ℤ → ℤ → Data
corner_of_box x y =
    three (fraction_data (ratio x (pos 1))) (fraction_data (ratio y (pos 1)))
    (fraction_data (ratio (pos 0) (pos 1)))

-- its corners from (high, upper) on: counterclockwise as seen from outside, which is from below
corners_of_bottom : (fact : IsBottom) → corners_data (corners_of box (bottom fact).patch)
    ≡ four (corner_of_box (pos 4000) (pos 3000)) (corner_of_box (pos 4000) (pos 0))
    (corner_of_box (pos 0) (pos 0)) (corner_of_box (pos 0) (pos 3000))
unfolding ratio point box_prism space box east level_at whole_bottom bottom_with bottom corner_of_box divisor_within greatest_divisor reduced level_corner
corners_of_bottom fact = refl

-- the first entry of the box
entry_of_bottom : (fact : IsBottom) → compact_text (boundary_data box 1 (bottom fact))
    ≡ codes "{\"corners\":[[\"4000\",\"3000\",\"0\"],[\"4000\",\"0\",\"0\"],[\"0\",\"0\",\"0\"],[\"0\",\"3000\",\"0\"]],\"depth\":0,\"end\":\"earth\",\"face\":\"bottom\",\"id\":1,\"items\":[],\"key\":null,\"normal\":[0,0,-1],\"pair\":null,\"parent\":null,\"space\":20,\"target\":null,\"unit\":1}"
unfolding serde_json_on_literals digits ratio point box_prism space box east level_at whole_bottom bottom_with bottom boundary_data divisor_within greatest_divisor reduced level_corner
entry_of_bottom fact = refl

-- the report of a building without spaces
report_of_nothing : report_of (building Millimetre (pos 0) 1000 [] [] [] []) []
    ≡ codes "{\"boundaries\":[],\"format\":\"sbgen-1\",\"ground\":0,\"reach\":1000,\"spaces\":[]}\n"
unfolding serde_json_on_literals digits report_of report_data
report_of_nothing = refl

-- a wall #30 of one material, whose name is Café with é as the byte 233
wall : Element
wall = record {
  number = 30;
  prism = box_prism;
  layering = Single (67 ∷ 97 ∷ 102 ∷ 233 ∷ []);
  is_solid = box_is_solid;
}

walled : Building
walled = building Millimetre (pos 0) 1000 (space ∷ []) (wall ∷ []) [] []

-- a crossed layer whose thickness is not whole; a layer that is not there has no name
entry_of_item : compact_text (item_data walled
    (record { element = 30; layer = 0; thickness = ratio (pos 10) (pos 3) }))
    ≡ codes "{\"element\":30,\"layer\":0,\"material\":\"Caf" ++ (195 ∷ 169 ∷ []) ++ codes "\",\"thickness\":\"10/3\"}"
unfolding serde_json_on_literals digits encode ratio space wall walled item_data
entry_of_item = refl

entry_of_unnamed : compact_text (item_data walled
    (record { element = 30; layer = 2; thickness = ratio (pos 0) (pos 1) }))
    ≡ codes "{\"element\":30,\"layer\":2,\"material\":\"\",\"thickness\":\"0\"}"
unfolding serde_json_on_literals digits encode ratio space wall walled item_data
entry_of_unnamed = refl

-- what ties a boundary to others, where it is there
ties : (fact : IsBottom)
    → compact_text (boundary_data box 4 (bottom_with fact (Some 2) (Some 3) (Some 50)))
    ≡ codes "{\"corners\":[[\"4000\",\"3000\",\"0\"],[\"4000\",\"0\",\"0\"],[\"0\",\"0\",\"0\"],[\"0\",\"3000\",\"0\"]],\"depth\":0,\"end\":\"earth\",\"face\":\"bottom\",\"id\":4,\"items\":[],\"key\":50,\"normal\":[0,0,-1],\"pair\":2,\"parent\":3,\"space\":20,\"target\":null,\"unit\":1}"
unfolding serde_json_on_literals digits ratio point box_prism space box east level_at whole_bottom bottom_with boundary_data divisor_within greatest_divisor reduced level_corner
ties fact = refl

-- a list that names what is there is accepted
accepted : (fact : IsBottom) → is_list_of box (bottom fact ∷ []) ≡ true
unfolding space box whole_bottom bottom_with bottom
accepted fact = refl

-- refused: a pair beyond the list, a pair 0, a key without a parent, and a face of no space
pair_beyond : (fact : IsBottom) → is_list_of box (bottom_with fact (Some 2) None None ∷ []) ≡ false
unfolding space box whole_bottom bottom_with
pair_beyond fact = refl

pair_zero : (fact : IsBottom) → is_list_of box (bottom_with fact (Some 0) None None ∷ []) ≡ false
unfolding space box whole_bottom bottom_with
pair_zero fact = refl

key_alone : (fact : IsBottom) → is_list_of box (bottom_with fact None None (Some 50) ∷ []) ≡ false
unfolding space box whole_bottom bottom_with
key_alone fact = refl

no_space : (fact : IsBottom)
    → is_list_of (building Millimetre (pos 0) 1000 [] [] [] []) (bottom fact ∷ []) ≡ false
unfolding whole_bottom bottom_with bottom
no_space fact = refl
