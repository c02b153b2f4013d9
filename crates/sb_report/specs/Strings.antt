-- How fractions, material names, faces and ends are written.

use Rattle.std.specs.Prelude.{ℕ, pos, List, ◌++◌, codes, encode_utf8_all, if◌then◌else◌}
use Rattle.std.specs.Ordering.{int_eq}
use Rattle.std.specs.Fmt.{signed_decimal}
use Rattle.theory_numbers.specs.Fractions.{Ratio}
use Rattle.sb_model.specs.declared.faces.face.FaceKind.{FaceKind}
use Rattle.sb_model.specs.declared.faces.face.FaceKind.TheVariants as kind
use Rattle.sb_model.specs.declared.walk.End.{End}
use Rattle.sb_model.specs.declared.walk.End.TheVariants as end

-- a fraction: its numerator, and `/` and the denominator where this is not 1
abbrev pub fraction_text : Ratio → List ℕ
fraction_text r =
    if int_eq r.den (pos 1)
    then signed_decimal r.num
    else signed_decimal r.num ++ (codes "/" ++ signed_decimal r.den)

-- a material's name: each byte becomes the character of that number, in UTF-8. So the byte 233
-- becomes é, which takes the two bytes 195 and 169
abbrev pub material_text : List ℕ → List ℕ
material_text bytes = encode_utf8_all bytes

-- the name of a kind of face
abbrev pub face_name : FaceKind → List ℕ
face_name kind.Bottom = codes "bottom"
face_name kind.Top = codes "top"
face_name (kind.Side k) = codes "side"

-- the name of a kind of end
abbrev pub end_name : End → List ℕ
end_name (end.Space n) = codes "space"
end_name end.Outside = codes "outside"
end_name end.Earth = codes "earth"
end_name (end.Solid n) = codes "solid"
