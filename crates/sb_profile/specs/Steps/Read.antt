-- The tables of products, and the leads with which the following begins.
use Rattle.std.specs.Prelude.{◌≡◌, ◌↔◌, ℕ, Bool, true, false, List, [], ◌∷◌, ◌++◌, filter, filter_map, Option, Some, None, option_map}
use Rattle.std.specs.Prelude.{map, option_and_then}
use Rattle.std.specs.List.{flat_map}
use Rattle.std.specs.Option.{option_or, option_map_or}
use Rattle.std.specs.Ordering.{nat_cmp}
use Rattle.std.specs.BTreeMap.{get, BTreeMap}
use Rattle.theory_lists.specs.Members.{Stands}
use Rattle.sb_profile.specs.declared.reading.kinds.Kinds.{Kinds}
use Rattle.sb_profile.specs.declared.reading.links.Link.{Link}
use Rattle.sb_profile.specs.declared.reading.products.Shaped.{Shaped}
use Rattle.sb_profile.specs.declared.tables.Tables.{Tables}
use Rattle.sb_profile.specs.declared.first.Whole.{Whole}
use Rattle.sb_profile.specs.declared.following.places.Place.{Place}
use Rattle.sb_profile.specs.declared.following.places.Place.TheVariants as place
use Rattle.sb_profile.specs.declared.defects.Code.{Code}
use Rattle.sb_profile.specs.declared.defects.Code.TheVariants as code
use Rattle.sb_profile.specs.Entities.Entity.{building, space, product, product_definition_shape, opening_filling, rel_voids_element, rel_fills_element, rel_associates_material, rel_defines_by_type}
use Rattle.sb_profile.specs.Contents.{Contents, is_unfit, is_absent}
use Rattle.sb_profile.specs.Products.{is_space, is_element, is_opening, is_taken, placement_of, shape_of, element_of, opening_of}
use Rattle.sb_profile.specs.Materials.{own_material, type_of, material_of}
use Rattle.sb_profile.specs.Following.{Lead, to, to_each, below, building_placement, IsFollowed}
use Rattle.sb_profile.specs.declared.following.found.Found.{Found}
use Rattle.sb_profile.specs.Steps.Links.{lowered}
use Rattle.sb_profile.specs.Steps.Found.{leads_with, is_unfit_at}
use Rattle.sb_profile.specs.declared.defects.Defect.{Defect}
use Rattle.sb_profile.specs.Defects.{IsUnfitRead, IsAbsentFollowed}
use Rattle.sb_profile.specs.First.{defect_at}
use Rattle.sb_profile.specs.Steps.Chains.{IsWithin, last_level}
use Rattle.sb_profile.specs.Steps.Survey.{IsLowestIf}

-- the instances that are read wherever they stand, and not of their rows
abbrev pub unfit_roots : Contents → Kinds → List ℕ
unfit_roots c kinds =
    filter (is_unfit c building) kinds.buildings.items
    ++ (filter (is_unfit c space) kinds.spaces.items
    ++ (filter (is_unfit c product) kinds.elements.items
    ++ (filter (is_unfit c product) kinds.openings.items
    ++ (filter (is_unfit c opening_filling) kinds.fillings.items
    ++ (filter (is_unfit c rel_voids_element) kinds.voids.items
    ++ (filter (is_unfit c rel_fills_element) kinds.fills.items
    ++ (filter (is_unfit c rel_associates_material) kinds.materials.items
    ++ filter (is_unfit c rel_defines_by_type) kinds.types.items)))))))

-- the product is taken, and this is where it is placed and its shape
pub record IsTakenAs (c : Contents) (p : Shaped) : Type 0 where
  pub taken : is_taken c p.number ≡ true
  pub placement : placement_of c p.number ≡ p.placement
  pub shape : shape_of c p.number ≡ Some p.shape

-- the list has all products that pass the test, and no others
pub record AreTaken (c : Contents) (test : ℕ → Bool) (products : List Shaped) : Type 0 where
  pub sound : (p : Shaped) → Stands p products → IsTakenAs c p × (test p.number ≡ true)
  pub complete : (n : ℕ) → test n ≡ true
      → (p : Shaped) × (Stands p products × (p.number ≡ n))

-- what a link says
abbrev pub target_in : Option Link → Option ℕ
target_in found = option_map (λ l. l.target) found

-- the tables are those of the file
pub record AreTables (c : Contents) (tables : Tables) : Type 0 where
  pub spaces : AreTaken c (is_space c) tables.spaces.items
  pub elements : AreTaken c (is_element c) tables.elements.items
  pub openings : AreTaken c (is_opening c) tables.openings.items
  pub materials : (q : ℕ) → target_in (get nat_cmp tables.materials q) ≡ own_material c q
  pub types : (q : ℕ) → target_in (get nat_cmp tables.types q) ≡ type_of c q
  pub voids : (q : ℕ) → target_in (get nat_cmp tables.voids q) ≡ element_of c q
  pub fills : (q : ℕ) → target_in (get nat_cmp tables.fills q) ≡ opening_of c q

-- what an element is made of by tables of links
abbrev pub made_of : BTreeMap ℕ Link → BTreeMap ℕ Link → ℕ → Option ℕ
made_of materials types n =
    option_or (target_in (get nat_cmp materials n))
    (option_and_then (λ t. target_in (get nat_cmp materials t)) (target_in (get nat_cmp types n)))

-- where the chains of products begin
abbrev pub starts_of : Option ℕ → List Shaped → List ℕ
starts_of top products = filter_map (λ p. below top p.placement) products

-- leads to shapes
abbrev pub shapes_of : List Shaped → List Lead
shapes_of products = map (λ p. (place.Shape, p.shape)) products

-- leads to materials
abbrev pub materials_of : BTreeMap ℕ Link → BTreeMap ℕ Link → List Shaped → List Lead
materials_of materials types products =
    flat_map (λ p. to place.Material (made_of materials types p.number)) products

-- the representations of a definition shape
abbrev pub representations_of : Contents → ℕ → List ℕ
representations_of c n = option_map_or (λ v. v.0) (c.given product_definition_shape n) []

-- leads to placements, to the shapes of all products and to what elements are made of
abbrev pub first_of : List ℕ → Tables → List Lead
first_of placements tables =
    to_each place.Placement placements ++ shapes_of tables.spaces.items
    ++ shapes_of tables.elements.items ++ shapes_of tables.openings.items
    ++ materials_of tables.materials tables.types tables.elements.items

-- the leads with which the following begins
pub record AreFirstLeads (c : Contents) (leads : List Lead) : Type 0 where
  pub sound : (at : Place) (n : ℕ) → Stands (at, n) leads → IsFollowed c at n
  pub chains : (n : ℕ) → IsWithin c last_level n → Stands (place.Placement, n) leads
  pub shapes : (p n : ℕ) → is_taken c p ≡ true → shape_of c p ≡ Some n
      → Stands (place.Shape, n) leads
  pub materials : (p n : ℕ) → is_element c p ≡ true → material_of c p ≡ Some n
      → Stands (place.Material, n) leads

-- beside the leads is found what the file says of the placements to which they are
pub record ArePlaced (c : Contents) (found beside : Found) : Type 0 where
  pub placements : List ℕ
  pub are : (n : ℕ) → Stands n placements ↔ Stands (place.Placement, n) found.leads.items
  pub leads_are : beside.leads.items ≡ flat_map (leads_with (λ _. false) c place.Placement) placements
  pub unfit_is : beside.unfit ≡ lowered found.unfit (filter (is_unfit_at c place.Placement) placements)
  pub absent_is : beside.absent ≡ lowered found.absent (filter (is_absent c) placements)

-- codes that are judged before any instance is looked at, and those behind
abbrev pub head_codes : List Code
head_codes = code.Schema ∷ code.Units ∷ code.Building ∷ code.Class ∷ []

abbrev pub read_codes : List Code
read_codes = code.Fields ∷ code.Missing ∷ []

-- the lowest of each is found
pub record AreLowest (c : Contents) (unfit absent : Option ℕ) : Type 0 where
  pub unfit_is : IsLowestIf (IsUnfitRead c) unfit
  pub absent_is : IsLowestIf (IsAbsentFollowed c) absent

-- all that is read of a file
pub record IsWhole (c : Contents) (read : Whole) : Type 0 where
  pub lowest : AreLowest c read.found.unfit read.found.absent
  pub building : read.building ≡ building_placement c
  pub tables : AreTables c read.tables

-- the defect of these: whether the schema is IFC4, whether there is a unit, the number of a defect in
-- the buildings, and the lowest of a class that is refused
abbrev pub head_of : Bool → Bool → Option ℕ → Option ℕ → Option Defect
head_of false unit buildings refused = Some (defect_at 0 code.Schema)
head_of true false buildings refused = Some (defect_at 0 code.Units)
head_of true true (Some n) refused = Some (defect_at n code.Building)
head_of true true None refused = option_map (λ n. defect_at n code.Class) refused

-- of the lowest that is not of its row, and the lowest that is absent
abbrev pub read_of : Option ℕ → Option ℕ → Option Defect
read_of (Some n) absent = Some (defect_at n code.Fields)
read_of None absent = option_map (λ n. defect_at n code.Missing) absent
