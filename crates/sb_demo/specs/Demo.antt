-- The text of a row of n rooms.
use Rattle.std.specs.Prelude.{ℕ, ◌++◌, List, codes}
use Rattle.std.specs.List.{flat_map, range_with_len}
use Rattle.sb_demo.specs.Blocks.{blocks}
use Rattle.sb_demo.specs.BlockTexts.{block_text}
use Rattle.sb_demo.specs.Relations.{window_text, concrete_text, layered_text}

-- what stands before the boxes: units, the building, and the layers of the walls across
unfoldable pub head : List ℕ
head =
    codes "ISO-10303-21;\nHEADER;\nFILE_SCHEMA(('IFC4'));\nENDSEC;\nDATA;\n"
    ++ codes "#1=IFCSIUNIT(*,.LENGTHUNIT.,.MILLI.,.METRE.);\n"
    ++ codes "#2=IFCUNITASSIGNMENT((#1));\n"
    ++ codes "#3=IFCCARTESIANPOINT((0.,0.,0.));\n"
    ++ codes "#4=IFCAXIS2PLACEMENT3D(#3,$,$);\n"
    ++ codes "#5=IFCLOCALPLACEMENT($,#4);\n"
    ++ codes "#6=IFCBUILDING('0000000000000000000006',$,$,$,$,#5,$,$,$,$,$,$);\n"
    ++ codes "#7=IFCDIRECTION((0.,0.,1.));\n"
    ++ codes "#8=IFCMATERIAL('Concrete',$,$);\n"
    ++ codes "#9=IFCMATERIAL('Plaster',$,$);\n"
    ++ codes "#10=IFCMATERIALLAYER(#9,12.5,$,$,$,$,$);\n"
    ++ codes "#11=IFCMATERIALLAYER(#8,175.,$,$,$,$,$);\n"
    ++ codes "#12=IFCMATERIALLAYERSET((#10,#11,#10),$,$);\n"
    ++ codes "#13=IFCMATERIALLAYERSETUSAGE(#12,.AXIS1.,.POSITIVE.,0.,$);\n"
    ++ codes "#14=IFCGEOMETRICREPRESENTATIONCONTEXT($,'Model',3,1.E-05,#4,$);\n"

-- what ends the text
abbrev pub ending : List ℕ
ending = codes "ENDSEC;\nEND-ISO-10303-21;\n"

-- the whole text
unfoldable pub demo_of : ℕ → List ℕ
demo_of n =
    head
    ++ flat_map block_text (blocks n)
    ++ flat_map (window_text n) (range_with_len 0 n)
    ++ concrete_text
    ++ layered_text n
    ++ ending
