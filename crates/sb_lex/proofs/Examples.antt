-- Single inputs: the tokens that the definition has there, and places where it has none. Each is
-- found by computing what is at the front.
use Rattle.std.proofs.Common.{◌≡◌, ◌≢◌, ℕ, List, [], ◌∷◌, Some, None, refl, ap, map, inl, arith}
use Rattle.std.specs.Prelude.{codes}
use Rattle.std.specs.List.{AllByRecursion}
use Rattle.sb_lex.specs.declared.kinds.Kind.{Kind}
use Rattle.sb_lex.specs.declared.kinds.Kind.TheVariants as kind
use Rattle.sb_lex.specs.declared.kinds.Mark.TheVariants as mark
use Rattle.sb_lex.specs.declared.kinds.Word.TheVariants as word
use Rattle.sb_lex.specs.declared.kinds.Token.{Token}
use Rattle.theory_lists.proofs.Members.{all_follow}
use Rattle.theory_bytes.specs.Sets.{Begins}
use Rattle.sb_lex.specs.Kinds.{BlankPiece}
use Rattle.sb_lex.specs.Tokens.{IsCandidate, IsToken}
use Rattle.sb_lex.specs.Scanning.{Scanned, scan, scan_letters, scan_exclamation, scan_name, scan_unsigned, scan_enclosed, exponent_len, comment_len, piece_len}
use Rattle.sb_lex.proofs.FoundIsLongest.{all_from_maps}
use Rattle.sb_lex.proofs.OneAnswer.{token_of, found_token, no_token_found, no_blank_found}

-- a text with the kind and the length of the token at its front
abbrev Row : Type 0
Row = List ℕ × Kind × ℕ

-- the token at the front of the text is of this kind, and so long
abbrev HasToken : Row → Type 0
HasToken row = IsToken row.0 (token_of row.1 0 row.2)

rows : List Row
rows =
    -- a word
    (codes "ISO-10303-21", kind.Word word.First, 12) ∷
    -- a word before a keyword
    (codes "ISO-10303-21DATA", kind.Word word.First, 12) ∷
    -- a word before a digit
    (codes "ISO-10303-210", kind.Word word.First, 12) ∷
    -- the last word
    (codes "END-ISO-10303-21", kind.Word word.Last, 16) ∷
    -- a marked keyword
    (codes "!A_1", kind.Keyword, 4) ∷
    -- a name with zeros
    (codes "#0009", kind.Name 9, 5) ∷
    -- the greatest name
    (codes "#4294967295", kind.Name 4294967295, 11) ∷
    -- an integer
    (codes "+1", kind.Integer, 2) ∷
    -- a real
    (codes "-1.", kind.Real, 3) ∷
    -- a real before a letter
    (codes "1.E", kind.Real, 2) ∷
    -- an exponent
    (codes "1.E+05", kind.Real, 6) ∷
    -- a real before a point
    (codes "1..T.", kind.Real, 2) ∷
    -- a doubled apostrophe
    (codes "'a''b'", kind.Str, 6) ∷
    -- an empty string
    (codes "''", kind.Str, 2) ∷
    -- an enumeration
    (codes ".T.", kind.Enumeration, 3) ∷
    -- a binary
    (codes "\"0AF\"", kind.Binary, 5) ∷
    -- a mark
    (codes ";", kind.Mark mark.Semicolon, 1) ∷
    -- a string with a line feed and bytes from 128 on
    (39 ∷ 10 ∷ 128 ∷ 255 ∷ 39 ∷ [], kind.Str, 5) ∷
    []

-- each is found by computing
found : map (λ row. scan row.0) rows ≡ map (λ row. Some (row.1, row.2)) rows
unfolding rows scan_letters scan_exclamation scan_name scan_unsigned exponent_len scan_enclosed
found = refl

-- each has its token
tokens_at_the_front : AllByRecursion HasToken rows
tokens_at_the_front =
    all_follow (λ row is. found_token row.0 0 (row.1, row.2) (omega arith) is) rows
    (all_from_maps (λ row. scan row.0) (λ row. Some (row.1, row.2)) rows found)

-- nothing begins at the front of a text
record IsBad (text : List ℕ) : Type 0 where
  no_token : (t : Token) → IsCandidate text t → t.start ≢ 0
  no_blank : Begins BlankPiece text → ⊥

bad_texts : List (List ℕ)
bad_texts =
    -- a name of 0
    (codes "#0") ∷
    -- a name too large
    (codes "#4294967296") ∷
    -- a name without digits
    (codes "# 9") ∷
    -- a point before a digit
    (codes ".5") ∷
    -- a sign alone
    (codes "+") ∷
    -- an open string
    (codes "'a''b") ∷
    -- a small enumeration
    (codes ".t.") ∷
    -- an open enumeration
    (codes ".T") ∷
    -- a binary with 4 bits to fill
    (codes "\"4A\"") ∷
    -- an empty binary
    (codes "\"\"") ∷
    -- an open comment
    (codes "/*/") ∷
    -- a small letter
    (codes "a") ∷
    -- byte 0
    (0 ∷ []) ∷
    -- byte 127
    (127 ∷ []) ∷
    -- byte 255
    (255 ∷ []) ∷
    []

-- what is found at the front: a token, and so many bytes of a piece
abbrev front : List ℕ → Scanned × ℕ
front text = (scan text, piece_len text)

abbrev nothing : List ℕ → Scanned × ℕ
nothing text = (None, 0)

-- no token and no piece is found there
nothing_found : map front bad_texts ≡ map nothing bad_texts
unfolding
    bad_texts comment_len scan_letters scan_exclamation scan_name scan_unsigned exponent_len
    scan_enclosed
nothing_found = refl

-- at each of them nothing begins
nothing_at_the_front : AllByRecursion IsBad bad_texts
nothing_at_the_front =
    all_follow (λ text is. record {
      no_token = no_token_found text 0 (ap (λ p. p.0) is);
      no_blank = no_blank_found text (ap (λ p. p.1) is);
    }) bad_texts
    (all_from_maps front nothing bad_texts nothing_found)

-- byte 11 is white space
byte_11 : BlankPiece (11 ∷ [])
byte_11 = inl (record { byte = 11; passes = refl; alone = refl })
