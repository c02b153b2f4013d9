-- What follows from an instance, and which instances are read.
use Rattle.std.proofs.Common.{◌≡◌, ℕ, zero, suc, nat_eq, Bool, true, false, List, [], ◌∷◌, Option, Some, None, refl, sym, ◌∙◌, inl, inr, ◌||◌, is_some, lit<}
use Rattle.std.specs.Prelude.{codes, option_and_then, if◌then◌else◌}
use Rattle.std.proofs.lemmas.Bool.{false≢true}
use Rattle.sb_profile.specs.declared.following.places.Place.{Place}
use Rattle.sb_profile.specs.declared.following.places.Place.TheVariants as place
use Rattle.sb_profile.specs.Contents.{Contents}
use Rattle.sb_profile.specs.Products.{is_taken, is_space, is_element, is_opening}
use Rattle.sb_profile.specs.Following.{leads, below_building, parent_of, IsInChain, IsFollowed, IsReadAs}
use Rattle.sb_profile.specs.Following.IsFollowed.{chain, shape, material, onward}
use Rattle.sb_profile.specs.Following.IsReadAs.{root, followed}
use Rattle.sb_profile.specs.Entities.Entity.{space, local_placement, axis2_placement_3d}
use Rattle.sb_profile.proofs.Examples.Files.{Tables, file_of, no_tables}

-- The building #1 is placed at #12. The space #20 is placed at #18, which is relative to #17, and this to
-- #12. Its shape #16 has the representations #13, `Axis`, the wall #30, #14 and #15, both `Body`. The
-- items of #14 are #40 and #41, that of #15 is #42.
abbrev room : Tables
room = record no_tables {
  keywords =
      (1, Some (codes "IFCBUILDING")) ∷ (12, Some (codes "IFCLOCALPLACEMENT"))
      ∷ (17, Some (codes "IFCLOCALPLACEMENT")) ∷ (18, Some (codes "IFCLOCALPLACEMENT"))
      ∷ (16, Some (codes "IFCPRODUCTDEFINITIONSHAPE"))
      ∷ (13, Some (codes "IFCSHAPEREPRESENTATION")) ∷ (14, Some (codes "IFCSHAPEREPRESENTATION"))
      ∷ (15, Some (codes "IFCSHAPEREPRESENTATION")) ∷ (30, Some (codes "IFCWALL"))
      ∷ (20, Some (codes "IFCSPACE")) ∷ (50, Some (codes "IFCAXIS2PLACEMENT3D"))
      ∷ (51, Some (codes "IFCAXIS2PLACEMENT2D")) ∷ [];
  buildings = (1, (Some 12, tt)) ∷ [];
  spaces = (20, ([], (Some 18, (Some 16, tt)))) ∷ [];
  placements = (12, (None, (50, tt))) ∷ (17, (Some 12, (51, tt))) ∷ (18, (Some 17, (50, tt))) ∷ [];
  positions = (50, (60, (None, (Some 61, tt)))) ∷ [];
  shapes = (16, (13 ∷ 30 ∷ 14 ∷ 15 ∷ [], tt)) ∷ (19, (13 ∷ [], tt)) ∷ [];
  representations =
      (13, (Some (codes "Axis"), (43 ∷ [], tt))) ∷ (14, (Some (codes "Body"), (40 ∷ 41 ∷ [], tt)))
      ∷ (15, (Some (codes "Body"), (42 ∷ [], tt))) ∷ [];
  solids = (40, (70, (None, (71, ([], tt))))) ∷ (41, (70, (Some 50, (71, ([], tt))))) ∷ [];
  polylines = (80, (81 ∷ 82 ∷ 81 ∷ [], tt)) ∷ [];
}

abbrev rooms : Contents
rooms = file_of room

-- ---- one step

-- all representations, and the first body as such
the_first_body : leads rooms place.Shape 16
    ≡ (place.Representation, 13) ∷ (place.Representation, 30) ∷ (place.Representation, 14)
    ∷ (place.Representation, 15) ∷ (place.Body, 14) ∷ []
the_first_body = refl

no_body : leads rooms place.Shape 19 ≡ (place.Representation, 13) ∷ []
no_body = refl

its_items : leads rooms place.Body 14 ≡ (place.Solid, 40) ∷ (place.Solid, 41) ∷ []
its_items = refl

-- nothing follows from a representation as one of several
of_a_representation : leads rooms place.Representation 14 ≡ []
of_a_representation = refl

without_a_position : leads rooms place.Solid 40 ≡ (place.Profile, 70) ∷ (place.Direction, 71) ∷ []
without_a_position = refl

with_a_position : leads rooms place.Solid 41
    ≡ (place.Profile, 70) ∷ (place.Direction, 71) ∷ (place.Position3d, 50) ∷ []
with_a_position = refl

a_position : leads rooms place.Position3d 50 ≡ (place.Point, 60) ∷ (place.Direction, 61) ∷ []
a_position = refl

-- a position in a plane is none in space, and nothing follows from it there
a_position_of_a_plane : leads rooms place.Position3d 51 ≡ []
a_position_of_a_plane = refl

a_polyline : leads rooms place.Curve 80
    ≡ (place.Point, 81) ∷ (place.Point, 82) ∷ (place.Point, 81) ∷ []
a_polyline = refl

-- a placement leads to its position; its parent follows by the chain
a_placement : leads rooms place.Placement 18 ≡ (place.Position3d, 50) ∷ []
a_placement = refl

-- ---- chains

the_first_of_a_chain : IsInChain rooms 0 18
the_first_of_a_chain = (20, (refl, refl))

the_second : IsInChain rooms 1 17
the_second = (18, (the_first_of_a_chain, refl))

-- the building's placement is in no chain
the_chain_ends : below_building rooms (parent_of rooms 17) ≡ None
the_chain_ends = refl

-- ---- what is followed

the_point_of_the_placement : IsFollowed rooms place.Point 60
the_point_of_the_placement =
    onward place.Position3d place.Point 50 60
    (onward place.Placement place.Position3d 18 50 (chain 0 18 (lit< tt) the_first_of_a_chain)
    (inl refl))
    (inl refl)

the_solid_of_the_body : IsFollowed rooms place.Solid 41
the_solid_of_the_body =
    onward place.Body place.Solid 14 41
    (onward place.Shape place.Body 16 14 (shape 20 16 refl refl)
    (inr (inr (inr (inr (inl refl))))))
    (inr (inl refl))

the_space_is_read : IsReadAs rooms space 20
the_space_is_read = root (inr (inl refl)) refl

the_placement_is_read : IsReadAs rooms local_placement 17
the_placement_is_read =
    followed place.Placement (chain 1 17 (lit< tt) the_second) (inl refl) refl

-- #51 is led to as a position in space, and has another keyword
led_to_and_not_read : IsReadAs rooms axis2_placement_3d 51 → ⊥
led_to_and_not_read (root there keyword) = absurd (false≢true keyword)
led_to_and_not_read (followed at there wanted keyword) = absurd (false≢true keyword)

-- ---- nothing follows where no product is taken

taken_is_none : (s e o : Bool) → s || (e || o) ≡ false → e ≡ true → ⊥
taken_is_none true e o none element = absurd (false≢true (sym none))
taken_is_none false true o none element = absurd (false≢true (sym none))
taken_is_none false false o none element = absurd (false≢true element)

module _ (c : Contents) (none : (p : ℕ) → is_taken c p ≡ false) where
  no_chain : (k n : ℕ) → IsInChain c k n → ⊥
  no_chain zero n (p, (taken, is)) = false≢true (sym (none p) ∙ taken)
  no_chain (suc k) n (m, (below, is)) = no_chain k m below

  nothing_follows : {at : Place} {n : ℕ} → IsFollowed c at n → ⊥
  nothing_follows (chain k n few there) = no_chain k n there
  nothing_follows (shape p n taken is) = false≢true (sym (none p) ∙ taken)
  nothing_follows (material p n element is) =
      taken_is_none (is_space c p) (is_element c p) (is_opening c p) (none p) element
  nothing_follows (onward at next m n there leads_on) = nothing_follows there

abbrev Row : Type 0
Row = List ℕ × (Option ℕ × (Option ℕ × Unit {0}))

abbrev shapeless : Row
shapeless = ([], (Some 18, (None, tt)))

-- the room without a shape: it is placed as before, and this is not followed
abbrev plain : Tables
plain = record room { spaces = (20, shapeless) ∷ [] }

shape_in : Option Row → Option ℕ
shape_in row = option_and_then (λ v. v.1.1.0) row

no_product : (p : ℕ) → is_taken (file_of plain) p ≡ false
unfolding shape_in
no_product p =
    elim (nat_eq p 20)
    as (λ b. is_some (shape_in (if b then Some shapeless else None)) || false ≡ false)
    [ true ↦ refl | false ↦ refl ]

not_followed : {at : Place} {n : ℕ} → IsFollowed (file_of plain) at n → ⊥
not_followed = nothing_follows (file_of plain) no_product

-- its own row is still read
still_read : IsReadAs (file_of plain) space 20
still_read = root (inr (inl refl)) refl
