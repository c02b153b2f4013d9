-- How each piece of a text is written.
use Rattle.std.specs.Prelude.{ℕ, List, decimal}
use Rattle.std.specs.Fmt.{signed_decimal}
use Rattle.sb_texts.specs.Numerals.{padded_decimal, reference, references, whole}
use Rattle.sb_texts.specs.declared.pieces.Piece.{Piece}
use Rattle.sb_texts.specs.declared.pieces.Piece.TheVariants as piece

abbrev pub piece_text : Piece → List ℕ
piece_text (piece.Bytes bytes) = bytes.now
piece_text (piece.Number n) = decimal n
piece_text (piece.Signed n) = signed_decimal n
piece_text (piece.Padded n width) = padded_decimal width n
piece_text (piece.Reference n) = reference n
piece_text (piece.References numbers) = references numbers.now
piece_text (piece.Whole n) = whole n
