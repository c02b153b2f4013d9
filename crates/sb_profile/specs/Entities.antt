-- The entities that are read, a name for each row of their table, and which of them is wanted where.
use Rattle.std.specs.Prelude.{List, [], ◌∷◌}
use Rattle.sb_schema.specs.Table.{Row}
use Rattle.sb_schema.specs.Rows as rows
use Rattle.sb_profile.specs.declared.following.places.Place.{Place}
use Rattle.sb_profile.specs.declared.following.places.Place.TheVariants as place

-- the rows by name
pub data Entity : Type 0 where
  building : Entity
  space : Entity
  -- a wall, slab, roof, column, beam, covering or opening
  product : Entity
  -- a door or a window
  opening_filling : Entity
  local_placement : Entity
  axis2_placement_3d : Entity
  axis2_placement_2d : Entity
  cartesian_point : Entity
  direction : Entity
  product_definition_shape : Entity
  shape_representation : Entity
  extruded_area_solid : Entity
  rectangle_profile_def : Entity
  arbitrary_closed_profile_def : Entity
  arbitrary_profile_def_with_voids : Entity
  polyline : Entity
  indexed_poly_curve : Entity
  cartesian_point_list_2d : Entity
  rel_voids_element : Entity
  rel_fills_element : Entity
  rel_associates_material : Entity
  rel_defines_by_type : Entity
  material : Entity
  material_layer : Entity
  material_layer_set : Entity
  material_layer_set_usage : Entity

abbrev pub row_of : Entity → Row
row_of building = rows.building
row_of space = rows.space
row_of product = rows.product
row_of opening_filling = rows.opening_filling
row_of local_placement = rows.local_placement
row_of axis2_placement_3d = rows.axis2_placement_3d
row_of axis2_placement_2d = rows.axis2_placement_2d
row_of cartesian_point = rows.cartesian_point
row_of direction = rows.direction
row_of product_definition_shape = rows.product_definition_shape
row_of shape_representation = rows.shape_representation
row_of extruded_area_solid = rows.extruded_area_solid
row_of rectangle_profile_def = rows.rectangle_profile_def
row_of arbitrary_closed_profile_def = rows.arbitrary_closed_profile_def
row_of arbitrary_profile_def_with_voids = rows.arbitrary_profile_def_with_voids
row_of polyline = rows.polyline
row_of indexed_poly_curve = rows.indexed_poly_curve
row_of cartesian_point_list_2d = rows.cartesian_point_list_2d
row_of rel_voids_element = rows.rel_voids_element
row_of rel_fills_element = rows.rel_fills_element
row_of rel_associates_material = rows.rel_associates_material
row_of rel_defines_by_type = rows.rel_defines_by_type
row_of material = rows.material
row_of material_layer = rows.material_layer
row_of material_layer_set = rows.material_layer_set
row_of material_layer_set_usage = rows.material_layer_set_usage

-- the entities that are read wherever they stand: the building, products with their fillings, and the
-- relations between them, to materials and to types
abbrev pub roots : List Entity
roots =
    building ∷ space ∷ product ∷ opening_filling ∷ rel_voids_element ∷ rel_fills_element
    ∷ rel_associates_material ∷ rel_defines_by_type ∷ []

-- the entities that are wanted at a place
abbrev pub wanted_at : Place → List Entity
wanted_at place.Placement = local_placement ∷ []
wanted_at place.Shape = product_definition_shape ∷ []
wanted_at place.Representation = shape_representation ∷ []
wanted_at place.Body = shape_representation ∷ []
wanted_at place.Solid = extruded_area_solid ∷ []
wanted_at place.Profile =
    rectangle_profile_def ∷ arbitrary_closed_profile_def ∷ arbitrary_profile_def_with_voids ∷ []
wanted_at place.Curve = polyline ∷ indexed_poly_curve ∷ []
wanted_at place.PointList = cartesian_point_list_2d ∷ []
wanted_at place.Position3d = axis2_placement_3d ∷ []
wanted_at place.Position2d = axis2_placement_2d ∷ []
wanted_at place.Point = cartesian_point ∷ []
wanted_at place.Direction = direction ∷ []
wanted_at place.Material = material ∷ material_layer_set ∷ material_layer_set_usage ∷ []
wanted_at place.LayerSet = material_layer_set ∷ []
wanted_at place.Layer = material_layer ∷ []
wanted_at place.LayerMaterial = material ∷ []
