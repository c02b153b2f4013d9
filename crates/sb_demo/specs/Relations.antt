-- What stands behind the boxes: a window for each opening, and what walls and slabs are made of.
use Rattle.std.specs.Prelude.{ℕ, ◌+◌, List, [], ◌∷◌, codes, map}
use Rattle.std.specs.List.{concat, range_with_len}
use Rattle.sb_texts.specs.Numerals.{reference, references}
use Rattle.sb_demo.specs.Numbering.{product_number, global_id, first_window, first_void}
use Rattle.sb_demo.specs.Numbering.{first_filling, first_association}
use Rattle.sb_demo.specs.Blocks.{near_wall, opening}

-- window i: it fills the hole with this number, which voids the wall with this number
unfoldable pub filled_text : ℕ → ℕ → ℕ → List ℕ
filled_text i wall hole = concat (
    reference (first_window + i) ∷ codes "=IFCWINDOW('" ∷ global_id (first_window + i)
    ∷ codes "',$,$,$,$,$,$,$,$,$,$,$,$);\n"
    ∷ reference (first_void + i) ∷ codes "=IFCRELVOIDSELEMENT('" ∷ global_id (first_void + i)
    ∷ codes "',$,$,$," ∷ reference wall ∷ codes "," ∷ reference hole ∷ codes ");\n"
    ∷ reference (first_filling + i) ∷ codes "=IFCRELFILLSELEMENT('" ∷ global_id (first_filling + i)
    ∷ codes "',$,$,$," ∷ reference hole ∷ codes "," ∷ reference (first_window + i)
    ∷ codes ");\n" ∷ []
    )

-- the window of room i in a row of n, in the opening of this room and in the near wall
abbrev pub window_text : ℕ → ℕ → List ℕ
window_text n i =
    filled_text i (product_number (near_wall n).place) (product_number (opening n i).place)

-- products have a material: the relation's number, the products and the material's number
unfoldable pub association_text : ℕ → List ℕ → ℕ → List ℕ
association_text number products material = concat (
    reference number ∷ codes "=IFCRELASSOCIATESMATERIAL('" ∷ global_id number ∷ codes "',$,$,$,("
    ∷ references products ∷ codes ")," ∷ reference material ∷ codes ");\n" ∷ []
    )

-- the products of so many blocks, from this place on
abbrev pub products : ℕ → ℕ → List ℕ
products place count = map product_number (range_with_len place count)

-- the slabs and the two long walls are of concrete, #8
abbrev pub concrete_text : List ℕ
concrete_text = association_text first_association (products 0 4) 8

-- the n + 1 walls across have plaster on both sides of it, #13
abbrev pub layered_text : ℕ → List ℕ
layered_text n = association_text (first_association + 1) (products 4 (n + 1)) 13
