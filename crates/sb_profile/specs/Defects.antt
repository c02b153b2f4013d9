-- What is a defect of a file: the condition of each code, and the number that it names.
use Rattle.std.specs.Prelude.{◌≡◌, ℕ, Bool, true, false, List, [], ◌∷◌, filter, Option, Some, None, codes}
use Rattle.std.specs.Str.{bytes_eq}
use Rattle.std.specs.Option.{option_map_or}
use Rattle.theory_lists.specs.Members.{Stands}
use Rattle.sb_schema.specs.Table.{is_one_of}
use Rattle.sb_profile.specs.declared.defects.Code.{Code}
use Rattle.sb_profile.specs.declared.following.places.Place.{Place}
use Rattle.sb_profile.specs.declared.defects.Code.TheVariants as code
use Rattle.sb_profile.specs.Entities.{Entity}
use Rattle.sb_profile.specs.Entities.Entity.{building}
use Rattle.sb_profile.specs.Contents.{Contents, has_keyword, is_absent}
use Rattle.sb_profile.specs.Lowest.{second_lowest_of}
use Rattle.sb_profile.specs.Following.{IsFollowed, IsReadAs}
use Rattle.sb_profile.specs.Units.{unit_in}

-- the schema is IFC4
abbrev pub is_ifc4 : Option (List ℕ) → Bool
is_ifc4 schema = option_map_or (bytes_eq (codes "IFC4")) schema false

-- the buildings in file order
abbrev pub buildings : Contents → List ℕ
buildings c = filter (has_keyword c building) c.numbers

-- the number of the defect in the buildings: 0 where there is none, the second lowest where there are
-- several, and no defect where there is one
abbrev pub in_buildings : List ℕ → Option ℕ
in_buildings [] = Some 0
in_buildings (n ∷ ns) = second_lowest_of (n ∷ ns)

-- the classes that are refused, whether the instance has a shape or not
abbrev pub refused_classes : List (List ℕ)
refused_classes =
    codes "IFCCURTAINWALL" ∷ codes "IFCSLABSTANDARDCASE" ∷ codes "IFCCOLUMNSTANDARDCASE"
    ∷ codes "IFCBEAMSTANDARDCASE" ∷ codes "IFCOPENINGSTANDARDCASE" ∷ []

-- an instance that is read is not of its row
pub record IsUnfitRead (c : Contents) (n : ℕ) : Type 0 where
  pub entity : Entity
  pub read : IsReadAs c entity n
  pub none : c.given entity n ≡ None

-- an absent instance is followed from one that is read
pub record IsAbsentFollowed (c : Contents) (n : ℕ) : Type 0 where
  pub at : Place
  pub followed : IsFollowed c at n
  pub absent : is_absent c n ≡ true

-- The file has this defect at this number. The codes behind Missing are of products: they are judged where
-- frames and prisms are known.
abbrev pub Occurs : Contents → Code → ℕ → Type 0
Occurs c code.Schema n = (n ≡ 0) × (is_ifc4 c.schema ≡ false)
Occurs c code.Units n = (n ≡ 0) × (unit_in c ≡ None)
Occurs c code.Building n = in_buildings (buildings c) ≡ Some n
Occurs c code.Class n = Stands n c.numbers × (is_one_of refused_classes (c.keyword n) ≡ true)
Occurs c code.Fields n = IsUnfitRead c n
Occurs c code.Missing n = IsAbsentFollowed c n
Occurs c _ n = ⊥

-- the codes in order
abbrev pub file_codes : List Code
file_codes =
    code.Schema ∷ code.Units ∷ code.Building ∷ code.Class ∷ code.Fields ∷ code.Missing ∷ []
