-- Which instances are read: the least set that has the roots and all that follows from taken products.
use Rattle.std.specs.Prelude.{◌≡◌, ℕ, zero, suc, ◌<◌, nat_eq, Bool, true, false, List, [], ◌∷◌, ◌++◌, map, Option, Some, None, option_and_then, codes, if◌then◌else◌}
use Rattle.std.specs.Option.{option_map_or}
use Rattle.std.specs.List.{find}
use Rattle.std.specs.Str.{bytes_eq}
use Rattle.theory_lists.specs.Members.{Stands}
use Rattle.sb_profile.specs.declared.following.places.Place.{Place}
use Rattle.sb_profile.specs.declared.following.places.Place.TheVariants as place
use Rattle.sb_profile.specs.Entities.{Entity, roots, wanted_at}
use Rattle.sb_profile.specs.Entities.Entity.{building, local_placement, axis2_placement_3d, axis2_placement_2d, product_definition_shape, shape_representation, extruded_area_solid, rectangle_profile_def, arbitrary_closed_profile_def, arbitrary_profile_def_with_voids, polyline, indexed_poly_curve, material_layer, material_layer_set, material_layer_set_usage}
use Rattle.sb_profile.specs.Contents.{Contents, has_keyword}
use Rattle.sb_profile.specs.Lowest.{lowest}
use Rattle.sb_profile.specs.Products.{is_taken, is_element, placement_of, shape_of}
use Rattle.sb_profile.specs.Materials.{material_of}

-- an instance, and what it is wanted as
abbrev pub Lead : Type 0
Lead = Place × ℕ

-- an instance at a place, if there is one
abbrev pub to : Place → Option ℕ → List Lead
to at None = []
to at (Some n) = (at, n) ∷ []

-- some instances at one place
abbrev pub to_each : Place → List ℕ → List Lead
to_each at ns = map (λ n. (at, n)) ns

-- what follows from attributes, if an instance is of its row
abbrev pub from : {A : Type 0} → Option A → (A → List Lead) → List Lead
from None follow = []
from (Some v) follow = follow v

-- ---- what follows from one instance

-- the identifier of a representation is `Body`
abbrev pub is_body : Contents → ℕ → Bool
is_body c n = option_map_or
    (λ v. option_map_or (bytes_eq (codes "Body")) v.0 false)
    (c.given shape_representation n)
    false

-- a definition shape leads to all its representations, and to the first that is a body as such
abbrev pub from_shape : Contents → ℕ → List Lead
from_shape c n = from (c.given product_definition_shape n)
    (λ v. to_each place.Representation v.0 ++ to place.Body (find (is_body c) v.0))

abbrev pub from_solid : Contents → ℕ → List Lead
from_solid c n = from (c.given extruded_area_solid n)
    (λ v. (place.Profile, v.0) ∷ (place.Direction, v.1.1.0) ∷ to place.Position3d v.1.0)

abbrev pub from_profile : Contents → ℕ → List Lead
from_profile c n =
    from (c.given rectangle_profile_def n) (λ v. to place.Position2d v.0)
    ++ from (c.given arbitrary_closed_profile_def n) (λ v. (place.Curve, v.0) ∷ [])
    ++ from (c.given arbitrary_profile_def_with_voids n)
    (λ v. (place.Curve, v.0) ∷ to_each place.Curve v.1.0)

abbrev pub from_curve : Contents → ℕ → List Lead
from_curve c n =
    from (c.given polyline n) (λ v. to_each place.Point v.0)
    ++ from (c.given indexed_poly_curve n) (λ v. (place.PointList, v.0) ∷ [])

abbrev pub from_position : Contents → ℕ → List Lead
from_position c n = from (c.given axis2_placement_3d n)
    (λ v. (place.Point, v.0) ∷ (to place.Direction v.1.0 ++ to place.Direction v.1.1.0))

abbrev pub from_position_2d : Contents → ℕ → List Lead
from_position_2d c n = from (c.given axis2_placement_2d n)
    (λ v. (place.Point, v.0) ∷ to place.Direction v.1.0)

abbrev pub from_layer_set : Contents → ℕ → List Lead
from_layer_set c n =
    from (c.given material_layer_set n) (λ v. to_each place.Layer v.0)

abbrev pub from_usage : Contents → ℕ → List Lead
from_usage c n =
    from (c.given material_layer_set_usage n) (λ v. (place.LayerSet, v.0) ∷ [])

-- The references that follow from the instance at the place: none, if it is absent or is no instance
-- of the place's entities that is of its row. The parent of a placement follows by its chain.
abbrev pub leads : Contents → Place → ℕ → List Lead
leads c place.Placement n =
    from (c.given local_placement n) (λ v. (place.Position3d, v.1.0) ∷ [])
leads c place.Shape n = from_shape c n
leads c place.Representation n = []
leads c place.Body n =
    from (c.given shape_representation n) (λ v. to_each place.Solid v.1.0)
leads c place.Solid n = from_solid c n
leads c place.Profile n = from_profile c n
leads c place.Curve n = from_curve c n
leads c place.PointList n = []
leads c place.Position3d n = from_position c n
leads c place.Position2d n = from_position_2d c n
leads c place.Point n = []
leads c place.Direction n = []
leads c place.Material n = from_layer_set c n ++ from_usage c n
leads c place.LayerSet n = from_layer_set c n
leads c place.Layer n =
    from (c.given material_layer n) (λ v. to place.LayerMaterial v.0)
leads c place.LayerMaterial n = []

-- ---- the chain of placements

-- where the building is placed: that of the lowest, if there are several. One that is not of its row
-- has no placement.
abbrev pub building_placement : Contents → Option ℕ
building_placement c =
    option_and_then (λ n. option_and_then (λ v. v.0) (c.given building n))
    (lowest c (has_keyword c building))

-- the placement, unless it is this one
abbrev pub below : Option ℕ → Option ℕ → Option ℕ
below top None = None
below top (Some n) = if option_map_or (nat_eq n) top false then None else Some n

-- unless it is the building's, which no chain has
abbrev pub below_building : Contents → Option ℕ → Option ℕ
below_building c placement = below (building_placement c) placement

-- the placement to which another is relative
abbrev pub parent_of : Contents → ℕ → Option ℕ
parent_of c n = option_and_then (λ v. v.0) (c.given local_placement n)

-- the placement stands in the chain of a taken product, with so many before it
abbrev pub IsInChain : Contents → ℕ → ℕ → Type 0
IsInChain c zero n =
    (p : ℕ) × ((is_taken c p ≡ true) × (below_building c (placement_of c p) ≡ Some n))
IsInChain c (suc k) n =
    (m : ℕ) × (IsInChain c k m × (below_building c (parent_of c m) ≡ Some n))

-- how many placements of a chain are followed
abbrev pub longest_chain : ℕ
longest_chain = 64

-- ---- what follows from products

-- The least set of leads such that: those of a taken product to the placements of its chain and to
-- its shape are in it, that of a taken element to its material is, and all that follows from an
-- instance that is in it at this place is.
pub data IsFollowed (c : Contents) : Place → ℕ → Type 0 where
  chain : (k n : ℕ) → k < longest_chain → IsInChain c k n → IsFollowed c place.Placement n
  shape : (p n : ℕ) → is_taken c p ≡ true → shape_of c p ≡ Some n → IsFollowed c place.Shape n
  material : (p n : ℕ) → is_element c p ≡ true → material_of c p ≡ Some n
      → IsFollowed c place.Material n
  onward : (at next : Place) (m n : ℕ) → IsFollowed c at m → Stands (next, n) (leads c at m)
      → IsFollowed c next n

-- ---- read instances

-- The instance is read as one of this  Being led to does not suffice: it has the keyword that
-- is wanted there.
pub data IsReadAs (c : Contents) (e : Entity) (n : ℕ) : Type 0 where
  root : Stands e roots → has_keyword c e n ≡ true → IsReadAs c e n
  followed : (at : Place) → IsFollowed c at n → Stands e (wanted_at at)
      → has_keyword c e n ≡ true → IsReadAs c e n
