-- What an element is made of: the material of the lowest relation that lists it; if there is none, of the
-- lowest that lists its type.
use Rattle.std.specs.Prelude.{ℕ, nat_eq, Bool, false, List, Option, option_map, option_and_then}
use Rattle.std.specs.List.{list_any}
use Rattle.std.specs.Option.{option_or, option_map_or}
use Rattle.sb_profile.specs.Entities.Entity.{rel_associates_material, rel_defines_by_type}
use Rattle.sb_profile.specs.Contents.{Contents}
use Rattle.sb_profile.specs.Lowest.{lowest}

-- the attributes of a relation that lists objects and says what they have: a material or a type
abbrev pub Listing : Type 0
Listing = Option (List ℕ × (ℕ × Unit {0}))

-- the relation lists the object
abbrev pub is_listed : ℕ → Listing → Bool
is_listed n relation = option_map_or (λ v. list_any (nat_eq n) v.0) relation false

-- what its objects have
abbrev pub listed_with : Listing → Option ℕ
listed_with relation = option_map (λ v. v.1.0) relation

-- what the lowest of the relations that list the object says, wherever it stands in the file
abbrev pub by_lowest : Contents → (ℕ → Listing) → ℕ → Option ℕ
by_lowest c relations n =
    option_and_then (λ r. listed_with (relations r)) (lowest c (λ r. is_listed n (relations r)))

-- the material of an object, or of a type
abbrev pub own_material : Contents → ℕ → Option ℕ
own_material c n = by_lowest c (c.given rel_associates_material) n

-- the type of an object
abbrev pub type_of : Contents → ℕ → Option ℕ
type_of c n = by_lowest c (c.given rel_defines_by_type) n

-- what an element is made of. Only its lowest relation to a type is asked.
abbrev pub material_of : Contents → ℕ → Option ℕ
material_of c n = option_or (own_material c n) (option_and_then (own_material c) (type_of c n))
