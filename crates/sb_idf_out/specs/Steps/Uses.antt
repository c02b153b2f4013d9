-- The materials and constructions of the boundaries so far, with their objects.

use Rattle.std.specs.Prelude.{◌≡◌, ◌++◌, ℕ, ℤ, Bool, true, ◌&&◌, List, [], ◌∷◌, nat_eq, map, if◌then◌else◌}
use Rattle.std.specs.BTreeMap.{BTreeMap}
use Rattle.std.specs.Ordering.{nat_cmp, int_cmp, int_eq, ordering_then}
use Rattle.std.specs.declared.cmp.Ordering.{Ordering}
use Rattle.std.specs.Cmp.Lexicographic.{slice_cmp}
use Rattle.std.specs.List.{list_all}
use Rattle.sb_model.specs.declared.boundary.Boundary.{Boundary}
use Rattle.sb_model.specs.Building.{Building}
use Rattle.sb_idf_out.specs.declared.materials.Materials.{Materials}
use Rattle.sb_idf_out.specs.declared.names.Names.{Names}
use Rattle.sb_idf_out.specs.declared.uses.Uses.{Uses}
use Rattle.sb_idf_out.specs.FirstUse.{has, number_in, with_new, with_all, in_order}
use Rattle.sb_idf_out.specs.Materials.{Material, is_same_material, is_same_name, materials_of, is_top_level}
use Rattle.sb_idf_out.specs.Constructions.{construction_of, construction_number, has_construction}
use Rattle.sb_idf_out.specs.Constructions.{is_same_construction}
use Rattle.sb_idf_out.specs.Objects.{object_of, construction_object}
use Rattle.sb_idf_out.specs.IdfText.{head, zones}
use Rattle.sb_idf_out.specs.Steps.Tables.{IsNumbered, NumbersAs}
use Rattle.sb_idf_out.specs.Steps.Names.{AreNames}

-- the order of pairs of a name's number and a thickness
abbrev pub key_cmp : ℕ × ℤ → ℕ × ℤ → Ordering
key_cmp a b = ordering_then (nat_cmp a.0 b.0) (int_cmp a.1 b.1)

abbrev pub is_key_eq : ℕ × ℤ → ℕ × ℤ → Bool
is_key_eq a b = nat_eq a.0 b.0 && int_eq a.1 b.1

-- a material with its name by number
abbrev pub keyed : List (List ℕ) → Material → ℕ × ℤ
keyed ns x = (number_in is_same_name ns x.name, x.thickness)

-- these are the materials so far, with their objects
abbrev pub MaterialsAre : Building → List Material → Names → BTreeMap (ℕ × ℤ) ℕ → List ℕ → Type 0
MaterialsAre m ms names numbers objects =
    (ns : List (List ℕ)) × AreNames m ns names
    × (list_all (λ x. has is_same_name ns x.name) ms ≡ true)
    × IsNumbered is_key_eq key_cmp (map (keyed ns) ms) numbers
    × (objects ≡ in_order object_of 1 ms)

abbrev pub AreMaterials : Building → List Material → Materials → Type 0
AreMaterials m ms s = MaterialsAre m ms s.names s.numbers s.objects

-- the materials with those of one boundary more
abbrev pub with_materials : Building → List Material → Boundary → List Material
with_materials m ms b =
    if is_top_level b then with_all is_same_material ms (materials_of m b) else ms

-- the constructions with that of one boundary more, among these materials
abbrev pub with_construction : Building → List Material → List (List ℕ) → Boundary → List (List ℕ)
with_construction m ms cs b =
    if has_construction b then with_new is_same_construction cs (construction_of m ms b) else cs

-- these are the constructions so far, with their objects
abbrev pub ConstructionsAre : {K : Type 0} → List (List ℕ) → BTreeMap K ℕ → (K → List ℕ) → List ℕ → Type 0
ConstructionsAre cs numbers items objects =
    NumbersAs (λ a b. is_same_construction (items a) (items b)) (λ a b. slice_cmp nat_cmp (items a) (items b))
    items cs numbers
    × (objects ≡ in_order construction_object 1 cs)

-- these are the materials and constructions so far
abbrev pub AreUses : Building → List Material → List (List ℕ) → Uses → Type 0
AreUses m ms cs s = AreMaterials m ms s.materials × ConstructionsAre cs s.constructions (λ k. k.items) s.objects

-- the materials behind so many boundaries
abbrev pub materials_after : Building → List Material → List Boundary → List Material
materials_after m ms [] = ms
materials_after m ms (b ∷ bs) = materials_after m (with_materials m ms b) bs

-- the constructions behind them
abbrev pub constructions_after : Building → List Material → List (List ℕ) → List Boundary → List (List ℕ)
constructions_after m ms cs [] = cs
constructions_after m ms cs (b ∷ bs) =
    let next = with_materials m ms b in
    constructions_after m next (with_construction m next cs b) bs

-- the number of the construction of each, as it is known when it is reached
abbrev pub numbers_used : Building → List Material → List (List ℕ) → List Boundary → List ℕ
numbers_used m ms cs [] = []
numbers_used m ms cs (b ∷ bs) =
    let next = with_materials m ms b in
    let made = with_construction m next cs b in
    construction_number m next made b ∷ numbers_used m next made bs

-- what stands before the boundaries of a list
abbrev pub front_text : Building → List Boundary → List ℕ
front_text m bs =
    ((head ++ zones m) ++ in_order object_of 1 (materials_after m [] bs))
    ++ in_order construction_object 1 (constructions_after m [] [] bs)
