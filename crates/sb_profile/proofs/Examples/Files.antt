-- A file as a table for each entity, with the keywords of its instances.
use Rattle.std.proofs.Common.{ℕ, nat_eq, List, [], map, Option, Some, None}
use Rattle.std.specs.Prelude.{codes, option_and_then, unwrap_or}
use Rattle.std.specs.Map.{lookup}
use Rattle.sb_step.specs.declared.parameters.param.Param.{Param}
use Rattle.sb_schema.specs.Table.{Values}
use Rattle.sb_profile.specs.Entities.{Entity, row_of}
use Rattle.sb_profile.specs.Entities.Entity.{building, space, product, opening_filling, local_placement, axis2_placement_3d, product_definition_shape, shape_representation, extruded_area_solid, rectangle_profile_def, polyline, rel_voids_element, rel_fills_element, rel_associates_material, rel_defines_by_type, material, material_layer, material_layer_set}
use Rattle.sb_profile.specs.Contents.{Contents}

-- rows of a table: a number, and what an entity gives of the instance
abbrev pub Rows : Entity → Type 0
Rows e = List (ℕ × Values (row_of e).read)

pub record Tables : Type 0 where
  pub schema : Option (List ℕ)
  -- the instances in file order, each with its keyword
  pub keywords : List (ℕ × Option (List ℕ))
  pub parameters : List (ℕ × List Param)
  pub buildings : Rows building
  pub spaces : Rows space
  pub products : Rows product
  pub fillings : Rows opening_filling
  pub placements : Rows local_placement
  pub positions : Rows axis2_placement_3d
  pub shapes : Rows product_definition_shape
  pub representations : Rows shape_representation
  pub solids : Rows extruded_area_solid
  pub rectangles : Rows rectangle_profile_def
  pub polylines : Rows polyline
  pub voids : Rows rel_voids_element
  pub fills : Rows rel_fills_element
  pub materials : Rows rel_associates_material
  pub types : Rows rel_defines_by_type
  pub names : Rows material
  pub layers : Rows material_layer
  pub layer_sets : Rows material_layer_set

abbrev pub given_in : Tables → (e : Entity) → ℕ → Option (Values (row_of e).read)
given_in t building n = lookup (nat_eq n) t.buildings
given_in t space n = lookup (nat_eq n) t.spaces
given_in t product n = lookup (nat_eq n) t.products
given_in t opening_filling n = lookup (nat_eq n) t.fillings
given_in t local_placement n = lookup (nat_eq n) t.placements
given_in t axis2_placement_3d n = lookup (nat_eq n) t.positions
given_in t product_definition_shape n = lookup (nat_eq n) t.shapes
given_in t shape_representation n = lookup (nat_eq n) t.representations
given_in t extruded_area_solid n = lookup (nat_eq n) t.solids
given_in t rectangle_profile_def n = lookup (nat_eq n) t.rectangles
given_in t polyline n = lookup (nat_eq n) t.polylines
given_in t rel_voids_element n = lookup (nat_eq n) t.voids
given_in t rel_fills_element n = lookup (nat_eq n) t.fills
given_in t rel_associates_material n = lookup (nat_eq n) t.materials
given_in t rel_defines_by_type n = lookup (nat_eq n) t.types
given_in t material n = lookup (nat_eq n) t.names
given_in t material_layer n = lookup (nat_eq n) t.layers
given_in t material_layer_set n = lookup (nat_eq n) t.layer_sets
given_in t _ n = None

abbrev pub keyword_in : Tables → ℕ → Option (List ℕ)
keyword_in t n = option_and_then (λ k. k) (lookup (nat_eq n) t.keywords)

-- what the file of these tables says
abbrev pub file_of : Tables → Contents
file_of t = record {
  schema = t.schema;
  numbers = map (λ i. i.0) t.keywords;
  keyword = keyword_in t;
  parameters = λ n. unwrap_or (lookup (nat_eq n) t.parameters) [];
  given = given_in t;
}

-- no instance
abbrev pub no_tables : Tables
no_tables = record {
  schema = Some (codes "IFC4");
  keywords = [];
  parameters = [];
  buildings = [];
  spaces = [];
  products = [];
  fillings = [];
  placements = [];
  positions = [];
  shapes = [];
  representations = [];
  solids = [];
  rectangles = [];
  polylines = [];
  voids = [];
  fills = [];
  materials = [];
  types = [];
  names = [];
  layers = [];
  layer_sets = [];
}
