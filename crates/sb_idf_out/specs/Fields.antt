-- What stands in the fields of an object (EnergyPlus 9.4, Input Output Reference).

use Rattle.std.specs.Prelude.{ℕ, ℤ, ◌++◌, List, [], ◌∷◌, Option, Some, None, codes, decimal}
use Rattle.std.specs.List.{flat_map}
use Rattle.theory_numbers.specs.Fractions.{Ratio}
use Rattle.sb_fixed.specs.Printed.{scaled_text}
use Rattle.sb_fixed.specs.Rounding.{scaled, rounded}
use Rattle.sb_model.specs.declared.patches.corner.Corner.{Corner}
use Rattle.sb_model.specs.declared.patches.corner.Corners.{Corners}
use Rattle.sb_model.specs.declared.patches.corner.Corners.TheVariants.{Three, Four}
use Rattle.sb_model.specs.declared.faces.face.FaceKind.{FaceKind}
use Rattle.sb_model.specs.declared.faces.face.FaceKind.TheVariants as kind
use Rattle.sb_model.specs.declared.products.FillKind.{FillKind}
use Rattle.sb_model.specs.declared.products.FillKind.TheVariants.{Window, Door}
use Rattle.sb_model.specs.declared.walk.End.{End}
use Rattle.sb_model.specs.declared.walk.End.TheVariants as end

-- fields, each behind a comma
abbrev pub fields_text : List (List ℕ) → List ℕ
fields_text fields = flat_map (λ field. codes "," ++ field) fields

-- an object on a line of its own: its class and its fields
abbrev pub object : List ℕ → List (List ℕ) → List ℕ
object class fields = class ++ fields_text fields ++ codes ";\n"

-- ---- names

abbrev pub surface_name : ℕ → List ℕ
surface_name id = codes "B_" ++ decimal id

abbrev pub space_name : ℕ → List ℕ
space_name n = codes "SPACE_" ++ decimal n

abbrev pub material_name : ℕ → List ℕ
material_name k = codes "M_" ++ decimal k

abbrev pub construction_name : ℕ → List ℕ
construction_name k = codes "C_" ++ decimal k

-- the name of a boundary, empty where there is none
abbrev pub name_where : Option ℕ → List ℕ
name_where None = []
name_where (Some id) = surface_name id

-- ---- lengths

-- whole micrometres in metres, with six places
abbrev pub metres : ℤ → List ℕ
metres micrometres = scaled_text micrometres 6

-- a coordinate in millimetres, rounded to the micrometre half away from zero, in metres
abbrev pub coordinate : Ratio → List ℕ
coordinate f = metres (rounded (scaled 3 f))

abbrev pub coordinates : Corner → List (List ℕ)
coordinates c = coordinate c.x ∷ coordinate c.y ∷ coordinate c.z ∷ []

-- how many corners there are, and the coordinates of each in order
abbrev pub corner_fields : Option Corners → List (List ℕ)
corner_fields None = []
corner_fields (Some (Three a b c)) = codes "3" ∷ coordinates a ++ coordinates b ++ coordinates c
corner_fields (Some (Four a b c d)) =
    codes "4" ∷ coordinates a ++ coordinates b ++ coordinates c ++ coordinates d

-- ---- a boundary's faces and ends

-- a top below the outside or the earth is a roof
abbrev pub top_type : End → List ℕ
top_type end.Outside = codes "Roof"
top_type end.Earth = codes "Roof"
top_type (end.Space n) = codes "Ceiling"
top_type (end.Solid n) = codes "Ceiling"

abbrev pub surface_type : FaceKind → End → List ℕ
surface_type kind.Bottom e = codes "Floor"
surface_type (kind.Side k) e = codes "Wall"
surface_type kind.Top e = top_type e

-- what lies behind
abbrev pub condition : End → List ℕ
condition (end.Space n) = codes "Surface"
condition end.Outside = codes "Outdoors"
condition end.Earth = codes "Ground"
condition (end.Solid n) = codes "Adiabatic"

-- the counterpart behind a boundary that ends at a space
abbrev pub condition_object : End → Option ℕ → List ℕ
condition_object (end.Space n) pair = name_where pair
condition_object end.Outside pair = []
condition_object end.Earth pair = []
condition_object (end.Solid n) pair = []

-- only what looks outside sees sun and wind
abbrev pub sun : End → List ℕ
sun end.Outside = codes "SunExposed"
sun end.Earth = codes "NoSun"
sun (end.Space n) = codes "NoSun"
sun (end.Solid n) = codes "NoSun"

abbrev pub wind : End → List ℕ
wind end.Outside = codes "WindExposed"
wind end.Earth = codes "NoWind"
wind (end.Space n) = codes "NoWind"
wind (end.Solid n) = codes "NoWind"

-- ---- a filling

abbrev pub kind_name : FillKind → List ℕ
kind_name Window = codes "Window"
kind_name Door = codes "Door"

abbrev pub kind_construction : FillKind → List ℕ
kind_construction Window = codes "C_WINDOW"
kind_construction Door = codes "C_DOOR"
