-- The name of a material is written byte by byte: one byte more adds one character.

use Rattle.std.proofs.Common.{◌≡◌, ℕ, ◌+◌, ◌<◌, List, [], ◌∷◌, ◌++◌, length, take, get_or, sym, ap}
use Rattle.std.proofs.Common.{◌∙◌}
use Rattle.std.proofs.lemmas.List.{append-nil, append_assoc, take_more}
use Rattle.std.specs.Prelude.{encode_utf8}
use Rattle.sb_report.specs.Strings.{material_text}

-- a byte at the end adds its character at the end
characters_of_last : (bytes : List ℕ) (b : ℕ)
    → material_text (bytes ++ b ∷ []) ≡ material_text bytes ++ encode_utf8 b
characters_of_last [] b = append-nil (encode_utf8 b)
characters_of_last (a ∷ bytes) b =
    ap (λ text. encode_utf8 a ++ text) (characters_of_last bytes b)
    ∙ sym (append_assoc (encode_utf8 a) (material_text bytes) (encode_utf8 b))

-- the characters of the bytes up to index i, and of the byte there
pub characters_of_more : (bytes : List ℕ) (i : ℕ) → i < length bytes
    → material_text (take (i + 1) bytes)
    ≡ material_text (take i bytes) ++ encode_utf8 (get_or bytes i 0)
characters_of_more bytes i within =
    ap material_text (take_more bytes i 0 within)
    ∙ characters_of_last (take i bytes) (get_or bytes i 0)
