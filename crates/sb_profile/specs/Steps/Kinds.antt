-- The numbers of a file by keyword: the instances that are looked at wherever they stand.
use Rattle.std.specs.Prelude.{◌≡◌, ℕ, ◌==◌, Bool, false, ◌&&◌, ◌||◌, List, [], ◌∷◌, ◌++◌, filter, slice_get, Option, Some, codes, if◌then◌else◌}
use Rattle.std.specs.Option.{option_map_or}
use Rattle.sb_schema.specs.Table.{is_one_of}
use Rattle.sb_schema.specs.Rows as rows
use Rattle.sb_profile.specs.declared.reading.kinds.Kinds.{Kinds}
use Rattle.sb_profile.specs.Entities.Entity.{building, space, opening_filling, rel_voids_element, rel_fills_element, rel_associates_material, rel_defines_by_type}
use Rattle.sb_profile.specs.Contents.{Contents, has_keyword}
use Rattle.sb_profile.specs.Products.{is_of_openings}
use Rattle.sb_profile.specs.Units.{is_called}
use Rattle.sb_profile.specs.Defects.{refused_classes}

-- the keywords of elements: those of products but the openings'
abbrev pub element_classes : List (List ℕ)
element_classes =
    codes "IFCWALL" ∷ codes "IFCWALLSTANDARDCASE" ∷ codes "IFCSLAB" ∷ codes "IFCROOF"
    ∷ codes "IFCCOLUMN" ∷ codes "IFCBEAM" ∷ codes "IFCCOVERING" ∷ []

-- the instance is of a class of elements
abbrev pub is_of_elements : Contents → ℕ → Bool
is_of_elements c n = is_one_of element_classes (c.keyword n)

-- of a class that is refused
abbrev pub is_of_refused : Contents → ℕ → Bool
is_of_refused c n = is_one_of refused_classes (c.keyword n)

-- ---- how the keywords of all these begin

-- a letter
abbrev pub the : List ℕ → ℕ
the [] = 0
the (letter ∷ _) = letter

-- the two letters behind IFC
abbrev pub is_beginning : ℕ → ℕ → Bool
is_beginning a b =
    (a == the (codes "B") && (b == the (codes "E") || b == the (codes "U")))
    || (a == the (codes "C") && (b == the (codes "O") || b == the (codes "U")))
    || (a == the (codes "D") && b == the (codes "O"))
    || (a == the (codes "O") && b == the (codes "P"))
    || (a == the (codes "R") && (b == the (codes "E") || b == the (codes "O")))
    || (a == the (codes "S") && (b == the (codes "L") || b == the (codes "P")))
    || (a == the (codes "U") && b == the (codes "N"))
    || (a == the (codes "W") && (b == the (codes "A") || b == the (codes "I")))

abbrev pub are_beginning : Option ℕ → Option ℕ → Bool
are_beginning (Some a) (Some b) = is_beginning a b
are_beginning _ _ = false

abbrev pub begins_so : List ℕ → Bool
begins_so keyword = are_beginning (slice_get keyword 3) (slice_get keyword 4)

abbrev pub may_count : Option (List ℕ) → Bool
may_count keyword = option_map_or begins_so keyword false

-- ---- what is kept

-- the number, if it passed
abbrev pub kept : ℕ → Bool → List ℕ
kept n passed = if passed then n ∷ [] else []

-- behind the numbers that were sorted in stands this one, if it is that of a product or building
pub record KeepsProducts (old new : Kinds) (n : ℕ) (keyword : Option (List ℕ)) : Type 0 where
  pub buildings : new.buildings.items ≡ old.buildings.items ++ kept n (is_one_of rows.building.keywords keyword)
  pub spaces : new.spaces.items ≡ old.spaces.items ++ kept n (is_one_of rows.space.keywords keyword)
  pub elements : new.elements.items ≡ old.elements.items ++ kept n (is_one_of element_classes keyword)
  pub openings : new.openings.items
      ≡ old.openings.items ++ kept n (is_one_of (codes "IFCOPENINGELEMENT" ∷ []) keyword)
  pub fillings : new.fillings.items
      ≡ old.fillings.items ++ kept n (is_one_of rows.opening_filling.keywords keyword)
  pub voids : new.voids ≡ old.voids
  pub fills : new.fills ≡ old.fills
  pub materials : new.materials ≡ old.materials
  pub types : new.types ≡ old.types
  pub assignments : new.assignments ≡ old.assignments
  pub refused : new.refused ≡ old.refused

-- the same, if it is that of a relation, of the units or of a class that is refused
pub record KeepsOthers (old new : Kinds) (n : ℕ) (keyword : Option (List ℕ)) : Type 0 where
  pub buildings : new.buildings ≡ old.buildings
  pub spaces : new.spaces ≡ old.spaces
  pub elements : new.elements ≡ old.elements
  pub openings : new.openings ≡ old.openings
  pub fillings : new.fillings ≡ old.fillings
  pub voids : new.voids.items ≡ old.voids.items ++ kept n (is_one_of rows.rel_voids_element.keywords keyword)
  pub fills : new.fills.items ≡ old.fills.items ++ kept n (is_one_of rows.rel_fills_element.keywords keyword)
  pub materials : new.materials.items
      ≡ old.materials.items ++ kept n (is_one_of rows.rel_associates_material.keywords keyword)
  pub types : new.types.items
      ≡ old.types.items ++ kept n (is_one_of rows.rel_defines_by_type.keywords keyword)
  pub assignments : new.assignments.items
      ≡ old.assignments.items ++ kept n (is_one_of (codes "IFCUNITASSIGNMENT" ∷ []) keyword)
  pub refused : new.refused.items ≡ old.refused.items ++ kept n (is_one_of refused_classes keyword)

-- of these numbers each stands under its keyword
pub record AreSorted (c : Contents) (ns : List ℕ) (kinds : Kinds) : Type 0 where
  pub buildings : kinds.buildings.items ≡ filter (has_keyword c building) ns
  pub spaces : kinds.spaces.items ≡ filter (has_keyword c space) ns
  pub elements : kinds.elements.items ≡ filter (is_of_elements c) ns
  pub openings : kinds.openings.items ≡ filter (is_of_openings c) ns
  pub fillings : kinds.fillings.items ≡ filter (has_keyword c opening_filling) ns
  pub voids : kinds.voids.items ≡ filter (has_keyword c rel_voids_element) ns
  pub fills : kinds.fills.items ≡ filter (has_keyword c rel_fills_element) ns
  pub materials : kinds.materials.items ≡ filter (has_keyword c rel_associates_material) ns
  pub types : kinds.types.items ≡ filter (has_keyword c rel_defines_by_type) ns
  pub assignments : kinds.assignments.items ≡ filter (is_called (codes "IFCUNITASSIGNMENT") c) ns
  pub refused : kinds.refused.items ≡ filter (is_of_refused c) ns
