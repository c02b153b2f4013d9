-- The numbers of the names of materials, and those of layers whose names have been looked at.

use Rattle.std.specs.Prelude.{◌≡◌, ℕ, Bool, true, List, IfSome}
use Rattle.std.specs.Ordering.{nat_cmp, ordering_then}
use Rattle.std.specs.declared.cmp.Ordering.{Ordering}
use Rattle.std.specs.Cmp.Lexicographic.{slice_cmp}
use Rattle.std.specs.Borrow.{Bor}
use Rattle.std.specs.BTreeMap.{BTreeMap, get}
use Rattle.sb_model.specs.Building.{Building, material_of}
use Rattle.sb_idf_out.specs.declared.names.Names.{Names}
use Rattle.sb_idf_out.specs.FirstUse.{has, number_in}
use Rattle.sb_idf_out.specs.Materials.{is_same_name}
use Rattle.sb_idf_out.specs.Steps.Tables.{NumbersAs}

-- the order of names, and of pairs of an element and a layer
abbrev pub name_cmp : Bor (List ℕ) → Bor (List ℕ) → Ordering
name_cmp a b = slice_cmp nat_cmp a.now b.now

abbrev pub is_name_eq : Bor (List ℕ) → Bor (List ℕ) → Bool
is_name_eq a b = is_same_name a.now b.now

abbrev pub layer_cmp : ℕ × ℕ → ℕ × ℕ → Ordering
layer_cmp a b = ordering_then (nat_cmp a.0 b.0) (nat_cmp a.1 b.1)

-- the number of the name of a layer's material among these names, which have it
abbrev pub IsNameNumber : Building → List (List ℕ) → ℕ → ℕ → ℕ → Type 0
IsNameNumber m ns element layer number =
    (has is_same_name ns (material_of m element layer) ≡ true)
    × (number ≡ number_in is_same_name ns (material_of m element layer))

-- a table has the numbers of these names
abbrev pub NamesAre : List (List ℕ) → BTreeMap (Bor (List ℕ)) ℕ → Type 0
NamesAre ns numbers = NumbersAs is_name_eq name_cmp (λ k. k.now) ns numbers

-- these are the names so far
abbrev pub AreNames : Building → List (List ℕ) → Names → Type 0
AreNames m ns names =
    NamesAre ns names.numbers
    × ((element layer : ℕ) → IfSome (get layer_cmp names.layers (element, layer))
    (IsNameNumber m ns element layer))
