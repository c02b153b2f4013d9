-- The text of one box: nine instances, the last of which is the product.
use Rattle.std.specs.Prelude.{ℕ, ◌+◌, ◌++◌, List, [], ◌∷◌, codes}
use Rattle.std.specs.List.{concat}
use Rattle.sb_texts.specs.Numerals.{reference, whole}
use Rattle.sb_demo.specs.Numbering.{block_number, global_id}
use Rattle.sb_demo.specs.declared.blocks.Block.{Block}
use Rattle.sb_demo.specs.declared.blocks.Class.{Class}
use Rattle.sb_demo.specs.declared.blocks.Class.TheVariants.{Slab, Wall, Space, Opening}

-- the keyword of a class
abbrev pub keyword : Class → List ℕ
keyword Slab = codes "IFCSLAB"
keyword Wall = codes "IFCWALL"
keyword Space = codes "IFCSPACE"
keyword Opening = codes "IFCOPENINGELEMENT"

-- what stands behind the ninth parameter: a space has two more
abbrev pub further_parameters : Class → List ℕ
further_parameters Space = codes ",$,$"
further_parameters Slab = []
further_parameters Wall = []
further_parameters Opening = []

-- the rectangle about the centre, by the instances from this number on
unfoldable pub plan_text : ℕ → Block → List ℕ
plan_text m b = concat (
    reference m ∷ codes "=IFCCARTESIANPOINT((" ∷ whole b.x ∷ codes "," ∷ whole b.y ∷ codes "));\n"
    ∷ reference (m + 1) ∷ codes "=IFCAXIS2PLACEMENT2D(" ∷ reference m ∷ codes ",$);\n"
    ∷ reference (m + 2) ∷ codes "=IFCRECTANGLEPROFILEDEF(.AREA.,$," ∷ reference (m + 1)
    ∷ codes "," ∷ whole b.size_x ∷ codes "," ∷ whole b.size_y ∷ codes ");\n" ∷ []
    )

-- the box over it, from its base up
unfoldable pub solid_text : ℕ → Block → List ℕ
solid_text m b = concat (
    reference (m + 3) ∷ codes "=IFCCARTESIANPOINT((0.,0.," ∷ whole b.base ∷ codes "));\n"
    ∷ reference (m + 4) ∷ codes "=IFCAXIS2PLACEMENT3D(" ∷ reference (m + 3) ∷ codes ",$,$);\n"
    ∷ reference (m + 5) ∷ codes "=IFCEXTRUDEDAREASOLID(" ∷ reference (m + 2) ∷ codes ","
    ∷ reference (m + 4) ∷ codes ",#7," ∷ whole b.height ∷ codes ");\n" ∷ []
    )

-- the product that has this box as its body, with its keyword and its further parameters
unfoldable pub product_text : ℕ → List ℕ → List ℕ → List ℕ
product_text m keyword further = concat (
    reference (m + 6) ∷ codes "=IFCSHAPEREPRESENTATION(#14,'Body','SweptSolid',("
    ∷ reference (m + 5) ∷ codes "));\n"
    ∷ reference (m + 7) ∷ codes "=IFCPRODUCTDEFINITIONSHAPE($,$,(" ∷ reference (m + 6)
    ∷ codes "));\n"
    ∷ reference (m + 8) ∷ codes "=" ∷ keyword ∷ codes "('" ∷ global_id (m + 8)
    ∷ codes "',$,$,$,$,#5," ∷ reference (m + 7) ∷ codes ",$,$" ∷ further ∷ codes ");\n" ∷ []
    )

-- the text of a block
abbrev pub block_text : Block → List ℕ
block_text b =
    let m = block_number b.place in
    plan_text m b ++ solid_text m b
    ++ product_text m (keyword b.class) (further_parameters b.class)
