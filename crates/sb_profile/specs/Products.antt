-- Which products are taken, and which relation of an opening and of a filling counts.
use Rattle.std.specs.Prelude.{ℕ, nat_eq, Bool, false, not, ◌&&◌, ◌||◌, [], ◌∷◌, Option, is_some, option_map, option_and_then, codes}
use Rattle.std.specs.Option.{option_or, option_map_or}
use Rattle.sb_schema.specs.Table.{is_one_of}
use Rattle.sb_profile.specs.Entities.Entity.{space, product, opening_filling, rel_voids_element, rel_fills_element}
use Rattle.sb_profile.specs.Contents.{Contents}
use Rattle.sb_profile.specs.Lowest.{lowest}

-- the shape (attribute 7) of an IFCSPACE
abbrev pub shape_of_space : Contents → ℕ → Option ℕ
shape_of_space c n = option_and_then (λ v. v.1.1.0) (c.given space n)

-- the shape of a wall, slab, roof, column, beam, covering or opening
abbrev pub shape_of_product : Contents → ℕ → Option ℕ
shape_of_product c n = option_and_then (λ v. v.1.0) (c.given product n)

-- the shape of any of them
abbrev pub shape_of : Contents → ℕ → Option ℕ
shape_of c n = option_or (shape_of_space c n) (shape_of_product c n)

-- where it is placed (attribute 6)
abbrev pub placement_of : Contents → ℕ → Option ℕ
placement_of c n =
    option_or (option_and_then (λ v. v.1.0) (c.given space n))
    (option_and_then (λ v. v.0) (c.given product n))

-- the instance is an IFCOPENINGELEMENT
abbrev pub is_of_openings : Contents → ℕ → Bool
is_of_openings c n = is_one_of (codes "IFCOPENINGELEMENT" ∷ []) (c.keyword n)

-- A space that is taken: it has a shape. An instance that is not of its row has no attributes, so it
-- is not taken.
abbrev pub is_space : Contents → ℕ → Bool
is_space c n = is_some (shape_of_space c n)

-- an element that is taken: a wall, slab, roof, column, beam or covering with a shape
abbrev pub is_element : Contents → ℕ → Bool
is_element c n = is_some (shape_of_product c n) && not (is_of_openings c n)

-- the relation says that an element that is taken has this opening
abbrev pub is_voided_by : Contents → ℕ → ℕ → Bool
is_voided_by c n r =
    option_map_or (λ v. nat_eq n v.1.0 && is_element c v.0) (c.given rel_voids_element r) false

-- of several such relations the lowest counts
abbrev pub voiding : Contents → ℕ → Option ℕ
voiding c n = lowest c (is_voided_by c n)

-- an opening that is taken: it has a shape, and an element that is taken has it
abbrev pub is_opening : Contents → ℕ → Bool
is_opening c n = is_some (shape_of_product c n) && (is_of_openings c n && is_some (voiding c n))

-- the element that has it
abbrev pub element_of : Contents → ℕ → Option ℕ
element_of c n =
    option_and_then (λ r. option_map (λ v. v.0) (c.given rel_voids_element r)) (voiding c n)

-- the relation says that an opening that is taken has this filling
abbrev pub is_filled_by : Contents → ℕ → ℕ → Bool
is_filled_by c n r =
    option_map_or (λ v. nat_eq n v.1.0 && is_opening c v.0) (c.given rel_fills_element r) false

-- of several such relations the lowest counts
abbrev pub filling : Contents → ℕ → Option ℕ
filling c n = lowest c (is_filled_by c n)

-- a door or window that is taken: it fills an opening that is taken
abbrev pub is_filling : Contents → ℕ → Bool
is_filling c n = is_some (c.given opening_filling n) && is_some (filling c n)

-- the opening that it fills
abbrev pub opening_of : Contents → ℕ → Option ℕ
opening_of c n =
    option_and_then (λ r. option_map (λ v. v.0) (c.given rel_fills_element r)) (filling c n)

-- a space, an element or an opening that is taken
abbrev pub is_taken : Contents → ℕ → Bool
is_taken c n = is_space c n || (is_element c n || is_opening c n)
