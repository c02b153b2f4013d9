-- Products that are taken, and some that just are not.
use Rattle.std.proofs.Common.{◌≡◌, [], ◌∷◌, Some, None, true, false, refl}
use Rattle.std.specs.Prelude.{codes}
use Rattle.sb_profile.specs.Products.{is_space, is_element, is_opening, is_filling, is_taken, voiding, element_of, opening_of}
use Rattle.sb_profile.proofs.Examples.Files.{Tables, file_of, no_tables}

-- Two walls with shapes, #30 and #31, and #32 without; openings #40 and #41 with shapes, #42 without;
-- a window #50 and a door #51; a space #20 with a shape, #21 without, and #22 that is not of its row.
-- Relations stand in no order: #63 gives the opening #40 to the wall #31, #61 to #30, #60 to the wall
-- without a shape. #62 gives #41 to an instance that is absent. #65 fills #40 with #50, #66 fills #41
-- with #51, #64 fills #40 with #51.
abbrev house : Tables
house = record no_tables {
  keywords =
      (63, Some (codes "IFCRELVOIDSELEMENT")) ∷ (20, Some (codes "IFCSPACE"))
      ∷ (21, Some (codes "IFCSPACE")) ∷ (22, Some (codes "IFCSPACE"))
      ∷ (30, Some (codes "IFCWALL")) ∷ (31, Some (codes "IFCSLAB"))
      ∷ (32, Some (codes "IFCWALL")) ∷ (61, Some (codes "IFCRELVOIDSELEMENT"))
      ∷ (40, Some (codes "IFCOPENINGELEMENT")) ∷ (41, Some (codes "IFCOPENINGELEMENT"))
      ∷ (42, Some (codes "IFCOPENINGELEMENT")) ∷ (50, Some (codes "IFCWINDOW"))
      ∷ (51, Some (codes "IFCDOOR")) ∷ (60, Some (codes "IFCRELVOIDSELEMENT"))
      ∷ (62, Some (codes "IFCRELVOIDSELEMENT")) ∷ (67, Some (codes "IFCRELVOIDSELEMENT"))
      ∷ (66, Some (codes "IFCRELFILLSELEMENT")) ∷ (65, Some (codes "IFCRELFILLSELEMENT"))
      ∷ (64, Some (codes "IFCRELFILLSELEMENT")) ∷ [];
  spaces = (20, ([], (None, (Some 16, tt)))) ∷ (21, ([], (Some 18, (None, tt)))) ∷ [];
  products =
      (30, (None, (Some 16, tt))) ∷ (31, (None, (Some 16, tt))) ∷ (32, (None, (None, tt)))
      ∷ (40, (None, (Some 16, tt))) ∷ (41, (None, (Some 16, tt))) ∷ (42, (None, (None, tt))) ∷ [];
  fillings = (50, tt) ∷ (51, tt) ∷ [];
  voids =
      (63, (31, (40, tt))) ∷ (61, (30, (40, tt))) ∷ (60, (32, (40, tt))) ∷ (62, (99, (41, tt)))
      ∷ (67, (30, (42, tt))) ∷ [];
  fills = (66, (41, (51, tt))) ∷ (65, (40, (50, tt))) ∷ (64, (40, (51, tt))) ∷ [];
}

a_space_with_a_shape : is_space (file_of house) 20 ≡ true
a_space_with_a_shape = refl

no_shape_no_space : is_taken (file_of house) 21 ≡ false
no_shape_no_space = refl

not_of_its_row : is_taken (file_of house) 22 ≡ false
not_of_its_row = refl

a_wall : is_element (file_of house) 30 ≡ true
a_wall = refl

no_shape_no_wall : is_taken (file_of house) 32 ≡ false
no_shape_no_wall = refl

an_opening_is_no_element : is_element (file_of house) 40 ≡ false
an_opening_is_no_element = refl

an_opening : is_opening (file_of house) 40 ≡ true
an_opening = refl

-- the lowest relation counts, but that of the wall without a shape is none
the_lowest_counts : voiding (file_of house) 40 ≡ Some 61
the_lowest_counts = refl

its_element : element_of (file_of house) 40 ≡ Some 30
its_element = refl

-- its element is absent
no_opening_of_nothing : is_taken (file_of house) 41 ≡ false
no_opening_of_nothing = refl

no_shape_no_opening : is_taken (file_of house) 42 ≡ false
no_shape_no_opening = refl

a_window : is_filling (file_of house) 50 ≡ true
a_window = refl

-- #66 names an opening that is not taken, so #64 is the one that counts
a_door : opening_of (file_of house) 51 ≡ Some 40
a_door = refl

-- a filling is no product that has a shape of its own
a_window_is_not_taken : is_taken (file_of house) 50 ≡ false
a_window_is_not_taken = refl

-- with #64 and #65 away, no door fills an opening that is taken
abbrev without_doors : Tables
without_doors = record house { fills = (66, (41, (51, tt))) ∷ [] }

no_door : is_filling (file_of without_doors) 51 ≡ false
no_door = refl
