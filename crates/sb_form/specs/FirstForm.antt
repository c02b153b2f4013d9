-- The first form: one text, line by line, with six numbers in it.
use Rattle.std.specs.Prelude.{◌≡◌, ◌++◌, ℕ, List, codes}
use Rattle.sb_form.specs.Numbers.{IsShort, number_text}
use Rattle.sb_form.specs.declared.matcher.FirstForm.{FirstForm}

-- everything before the place of the space
unfoldable pub before_place : List ℕ
before_place =
    codes "ISO-10303-21;\nHEADER;\nFILE_SCHEMA(('IFC4'));\nENDSEC;\nDATA;\n"
    ++ codes "#1=IFCSIUNIT(*,.LENGTHUNIT.,.MILLI.,.METRE.);\n"
    ++ codes "#2=IFCUNITASSIGNMENT((#1));\n"
    ++ codes "#3=IFCBUILDING('0000000000000000000003',$,$,$,$,$,$,$,$,$,$,$);\n"
    ++ codes "#10=IFCCARTESIANPOINT(("

-- between the place and the sizes in plan
unfoldable pub before_sizes : List ℕ
before_sizes =
    codes "));\n#11=IFCAXIS2PLACEMENT3D(#10,$,$);\n#12=IFCLOCALPLACEMENT($,#11);\n"
    ++ codes "#13=IFCRECTANGLEPROFILEDEF(.AREA.,$,$,"

-- between the sizes in plan and the height
unfoldable pub before_height : List ℕ
before_height =
    codes ");\n#14=IFCDIRECTION((0.,0.,1.));\n#15=IFCEXTRUDEDAREASOLID(#13,$,#14,"

-- everything behind the height
unfoldable pub behind_height : List ℕ
behind_height =
    codes ");\n#16=IFCSHAPEREPRESENTATION($,'Body',$,(#15));\n"
    ++ codes "#17=IFCPRODUCTDEFINITIONSHAPE($,$,(#16));\n"
    ++ codes "#20=IFCSPACE('0000000000000000000020',$,$,$,$,#12,#17,$,$,$,$);\n"
    ++ codes "ENDSEC;\nEND-ISO-10303-21;\n"

-- between two coordinates
abbrev pub comma : List ℕ
comma = codes ","

-- the whole text
abbrev pub form_text : FirstForm → List ℕ
form_text f =
    before_place ++ (number_text f.x ++ (comma ++ (number_text f.y ++ (comma ++ (number_text f.z
    ++ (before_sizes ++ (number_text f.size_x ++ (comma ++ (number_text f.size_y
    ++ (before_height ++ (number_text f.height ++ behind_height)))))))))))

-- each number has at most six digits
abbrev pub AreShort : FirstForm → Type 0
AreShort f =
    IsShort f.x × IsShort f.y × IsShort f.z × IsShort f.size_x × IsShort f.size_y × IsShort f.height

-- the bytes are the text with these six numbers
pub record IsFormOf (f : FirstForm) (bytes : List ℕ) : Type 0 where
  pub short : AreShort f
  pub spelled : bytes ≡ form_text f
