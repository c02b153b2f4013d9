-- The table of the entities that are read: a row for each view, in the order of the views. It is this
-- project's profile of IFC4 (ISO 16739), and it alone decides which attributes are read.
use Rattle.std.specs.Prelude.{[], ◌∷◌, codes}
use Rattle.sb_schema.specs.Forms.Form.{reference, reference_or_none, number, string, string_or_none, enumeration, references, coordinates, pairs, typed_lists_or_none}
use Rattle.sb_schema.specs.Table.{Row, row}

abbrev pub building : Row
building = row (codes "IFCBUILDING" ∷ []) 12 ((6, reference_or_none) ∷ [])

abbrev pub space : Row
space = row (codes "IFCSPACE" ∷ []) 11
    ((1, string) ∷ (6, reference_or_none) ∷ (7, reference_or_none) ∷ [])

abbrev pub product : Row
product =
    row
    (codes "IFCWALL" ∷ codes "IFCWALLSTANDARDCASE" ∷ codes "IFCSLAB" ∷ codes "IFCROOF"
    ∷ codes "IFCCOLUMN" ∷ codes "IFCBEAM" ∷ codes "IFCCOVERING" ∷ codes "IFCOPENINGELEMENT" ∷ [])
    9
    ((6, reference_or_none) ∷ (7, reference_or_none) ∷ [])

abbrev pub opening_filling : Row
opening_filling = row (codes "IFCDOOR" ∷ codes "IFCWINDOW" ∷ []) 13 []

abbrev pub local_placement : Row
local_placement =
    row (codes "IFCLOCALPLACEMENT" ∷ []) 2 ((1, reference_or_none) ∷ (2, reference) ∷ [])

abbrev pub axis2_placement_3d : Row
axis2_placement_3d = row (codes "IFCAXIS2PLACEMENT3D" ∷ []) 3
    ((1, reference) ∷ (2, reference_or_none) ∷ (3, reference_or_none) ∷ [])

abbrev pub axis2_placement_2d : Row
axis2_placement_2d =
    row (codes "IFCAXIS2PLACEMENT2D" ∷ []) 2 ((1, reference) ∷ (2, reference_or_none) ∷ [])

abbrev pub cartesian_point : Row
cartesian_point = row (codes "IFCCARTESIANPOINT" ∷ []) 1 ((1, coordinates) ∷ [])

abbrev pub direction : Row
direction = row (codes "IFCDIRECTION" ∷ []) 1 ((1, coordinates) ∷ [])

abbrev pub product_definition_shape : Row
product_definition_shape = row (codes "IFCPRODUCTDEFINITIONSHAPE" ∷ []) 3 ((3, references) ∷ [])

abbrev pub shape_representation : Row
shape_representation =
    row (codes "IFCSHAPEREPRESENTATION" ∷ []) 4 ((2, string_or_none) ∷ (4, references) ∷ [])

abbrev pub extruded_area_solid : Row
extruded_area_solid = row (codes "IFCEXTRUDEDAREASOLID" ∷ []) 4
    ((1, reference) ∷ (2, reference_or_none) ∷ (3, reference) ∷ (4, number) ∷ [])

abbrev pub rectangle_profile_def : Row
rectangle_profile_def = row (codes "IFCRECTANGLEPROFILEDEF" ∷ []) 5
    ((3, reference_or_none) ∷ (4, number) ∷ (5, number) ∷ [])

abbrev pub arbitrary_closed_profile_def : Row
arbitrary_closed_profile_def =
    row (codes "IFCARBITRARYCLOSEDPROFILEDEF" ∷ []) 3 ((3, reference) ∷ [])

abbrev pub arbitrary_profile_def_with_voids : Row
arbitrary_profile_def_with_voids =
    row (codes "IFCARBITRARYPROFILEDEFWITHVOIDS" ∷ []) 4 ((3, reference) ∷ (4, references) ∷ [])

abbrev pub polyline : Row
polyline = row (codes "IFCPOLYLINE" ∷ []) 1 ((1, references) ∷ [])

abbrev pub indexed_poly_curve : Row
indexed_poly_curve =
    row (codes "IFCINDEXEDPOLYCURVE" ∷ []) 3 ((1, reference) ∷ (2, typed_lists_or_none) ∷ [])

abbrev pub cartesian_point_list_2d : Row
cartesian_point_list_2d = row (codes "IFCCARTESIANPOINTLIST2D" ∷ []) 1 ((1, pairs) ∷ [])

abbrev pub rel_voids_element : Row
rel_voids_element = row (codes "IFCRELVOIDSELEMENT" ∷ []) 6 ((5, reference) ∷ (6, reference) ∷ [])

abbrev pub rel_fills_element : Row
rel_fills_element = row (codes "IFCRELFILLSELEMENT" ∷ []) 6 ((5, reference) ∷ (6, reference) ∷ [])

abbrev pub rel_associates_material : Row
rel_associates_material =
    row (codes "IFCRELASSOCIATESMATERIAL" ∷ []) 6 ((5, references) ∷ (6, reference) ∷ [])

abbrev pub rel_defines_by_type : Row
rel_defines_by_type =
    row (codes "IFCRELDEFINESBYTYPE" ∷ []) 6 ((5, references) ∷ (6, reference) ∷ [])

abbrev pub material : Row
material = row (codes "IFCMATERIAL" ∷ []) 3 ((1, string) ∷ [])

abbrev pub material_layer : Row
material_layer = row (codes "IFCMATERIALLAYER" ∷ []) 7 ((1, reference_or_none) ∷ (2, number) ∷ [])

abbrev pub material_layer_set : Row
material_layer_set = row (codes "IFCMATERIALLAYERSET" ∷ []) 3 ((1, references) ∷ [])

abbrev pub material_layer_set_usage : Row
material_layer_set_usage = row (codes "IFCMATERIALLAYERSETUSAGE" ∷ []) 5
    ((1, reference) ∷ (2, enumeration) ∷ (3, enumeration) ∷ [])
