-- What the private functions promise: the kind and the length of the token at the front of the
-- bytes that are left, found without going back. The proofs join this to the grammar: what is found
-- is the token that the grammar has there.
use Rattle.std.specs.Prelude.{ℕ, ◌+◌, Bool, ◌&&◌, ◌==◌, nat_eq, nat_lt, if◌then◌else◌, List, [], ◌∷◌, take, drop, slice_index, codes, Option, Some, None}
use Rattle.std.specs.List.{prefix_len, starts_with}
use Rattle.std.specs.Char.{is_ascii_digit}
use Rattle.std.specs.Str.Parse.{digits_value}
use Rattle.sb_lex.specs.declared.kinds.Kind.{Kind}
use Rattle.sb_lex.specs.declared.kinds.Kind.TheVariants as kind
use Rattle.sb_lex.specs.declared.kinds.Mark.TheVariants as mark
use Rattle.sb_lex.specs.declared.kinds.Word.TheVariants as word
use Rattle.sb_lex.specs.declared.first_byte.Head.{Head}
use Rattle.sb_lex.specs.declared.first_byte.Head.TheVariants as head
use Rattle.sb_lex.specs.Kinds.{numbers_end}
use Rattle.sb_lex.specs.Bytes.{exclamation, quote, hash, dollar, open_parenthesis, close_parenthesis, asterisk, comma, minus, point, slash, semicolon, equals, capital_e, is_letter, is_word_byte, is_hex, is_filling, is_sign, is_white, is_apostrophe}

-- a kind and a length, or none
abbrev pub Scanned : Type 0
Scanned = Option (Kind × ℕ)

-- the same kind, and so many bytes more
abbrev pub longer : ℕ → Scanned → Scanned
longer n None = None
longer n (Some x) = Some (x.0, n + x.1)

-- so many bytes more
abbrev pub after : ℕ → Option ℕ → Option ℕ
after n None = None
after n (Some m) = Some (n + m)

-- which bytes begin what; the first row that has the byte counts
abbrev pub heads : List ((ℕ → Bool) × Head)
heads =
    (is_letter, head.Letter)
    ∷ (is_ascii_digit, head.Digit)
    ∷ (is_sign, head.Sign)
    ∷ ((λ b. b == exclamation), head.Exclamation)
    ∷ ((λ b. b == hash), head.Hash)
    ∷ (is_apostrophe, head.Apostrophe)
    ∷ ((λ b. b == point), head.Point)
    ∷ ((λ b. b == quote), head.Quote)
    ∷ ((λ b. b == dollar), head.Mark mark.Dollar)
    ∷ ((λ b. b == asterisk), head.Mark mark.Asterisk)
    ∷ ((λ b. b == open_parenthesis), head.Mark mark.Open)
    ∷ ((λ b. b == close_parenthesis), head.Mark mark.Close)
    ∷ ((λ b. b == comma), head.Mark mark.Comma)
    ∷ ((λ b. b == semicolon), head.Mark mark.Semicolon)
    ∷ ((λ b. b == equals), head.Mark mark.Equals)
    ∷ []

-- the first row that has the byte
abbrev pub first_head : List ((ℕ → Bool) × Head) → ℕ → Head
first_head [] b = head.Other
first_head (row ∷ rows) b = if row.0 b then row.1 else first_head rows b

-- what a token that begins with the byte may be
abbrev pub head_of : ℕ → Head
head_of = first_head heads

-- one of the two words
abbrev pub scan_words : List ℕ → Scanned
scan_words rest =
    if starts_with nat_eq rest (codes "ISO-10303-21") then Some (kind.Word word.First, 12)
    else if starts_with nat_eq rest (codes "END-ISO-10303-21") then Some (kind.Word word.Last, 16)
    else None

-- the word that was found, or a keyword so long
abbrev pub or_keyword : ℕ → Scanned → Scanned
or_keyword n None = Some (kind.Keyword, n)
or_keyword n (Some x) = Some x

-- a letter is at the front
unfoldable pub scan_letters : List ℕ → Scanned
scan_letters rest =
    let n = prefix_len is_word_byte rest in
    if slice_index rest n == minus then or_keyword n (scan_words rest) else Some (kind.Keyword, n)

-- a `!` is at the front
unfoldable pub scan_exclamation : List ℕ → Scanned
scan_exclamation rest =
    if is_letter (slice_index rest 1) then Some
    (kind.Keyword, 1 + prefix_len is_word_byte (drop 1 rest))
    else None

-- a `#` is at the front
unfoldable pub scan_name : List ℕ → Scanned
scan_name rest =
    let n = prefix_len is_ascii_digit (drop 1 rest) in
    let number = digits_value 10 (take n (drop 1 rest)) in
    if nat_lt 0 number && nat_lt number numbers_end then Some (kind.Name number, 1 + n) else None

-- an optional sign
abbrev pub sign_len : List ℕ → ℕ
sign_len rest = if is_sign (slice_index rest 0) then 1 else 0

-- an optional exponent
unfoldable pub exponent_len : List ℕ → ℕ
exponent_len rest =
    let signed = 1 + sign_len (drop 1 rest) in
    let n = prefix_len is_ascii_digit (drop signed rest) in
    if slice_index rest 0 == capital_e then (if n == 0 then 0 else signed + n) else 0

-- what stands behind the point of a real
abbrev pub fraction_len : List ℕ → ℕ
fraction_len rest =
    let n = prefix_len is_ascii_digit rest in n + exponent_len (drop n rest)

-- an integer or a real without a sign
unfoldable pub scan_unsigned : List ℕ → Scanned
scan_unsigned rest =
    let n = prefix_len is_ascii_digit rest in
    if n == 0 then None
    else if slice_index rest n == point then Some
    (kind.Real, n + 1 + fraction_len (drop (n + 1) rest))
    else Some (kind.Integer, n)

-- how many bytes up to the end of the string, its last apostrophe among them
abbrev pub string_len : List ℕ → Option ℕ
string_len [] = None
string_len (b ∷ []) = if is_apostrophe b then Some 1 else None
string_len (b ∷ c ∷ bs) =
    if is_apostrophe b then (if is_apostrophe c then after 2 (string_len bs) else Some 1)
    else after 1 (string_len (c ∷ bs))

-- a string, where its end was found
abbrev pub as_string : Option ℕ → Scanned
as_string None = None
as_string (Some n) = Some (kind.Str, 1 + n)

-- A mark is at the front: a byte of the first class, with those of the second that go on with it,
-- and the same mark again.
unfoldable pub scan_enclosed : Kind → ℕ → (ℕ → Bool) → (ℕ → Bool) → List ℕ → Scanned
scan_enclosed k q first more rest =
    let n = prefix_len more (drop 1 rest) in
    if first (slice_index rest 1) && slice_index rest (1 + n) == q then Some (k, n + 2) else None

-- a `.` is at the front
abbrev pub scan_enumeration : List ℕ → Scanned
scan_enumeration = scan_enclosed kind.Enumeration point is_letter is_word_byte

-- a `"` is at the front
abbrev pub scan_binary : List ℕ → Scanned
scan_binary = scan_enclosed kind.Binary quote is_filling is_hex

-- the token at the front, by its first byte
abbrev pub scan_at : Head → List ℕ → Scanned
scan_at head.Letter rest = scan_letters rest
scan_at head.Digit rest = scan_unsigned rest
scan_at head.Sign rest = longer 1 (scan_unsigned (drop 1 rest))
scan_at head.Exclamation rest = scan_exclamation rest
scan_at head.Hash rest = scan_name rest
scan_at head.Apostrophe rest = as_string (string_len (drop 1 rest))
scan_at head.Point rest = scan_enumeration rest
scan_at head.Quote rest = scan_binary rest
scan_at (head.Mark m) rest = Some (kind.Mark m, 1)
scan_at head.Other rest = None

-- the token at the front
abbrev pub scan : List ℕ → Scanned
scan rest = scan_at (head_of (slice_index rest 0)) rest

-- how many bytes stand before the next `*/`
abbrev pub close_at : List ℕ → Option ℕ
close_at [] = None
close_at (b ∷ bs) =
    if b == asterisk && slice_index bs 0 == slash then Some 0 else after 1 (close_at bs)

-- a comment, where its end was found
abbrev pub closed_len : Option ℕ → ℕ
closed_len None = 0
closed_len (Some n) = n + 4

-- the length of the comment at the front, 0 if there is none
unfoldable pub comment_len : List ℕ → ℕ
comment_len rest =
    if slice_index rest 0 == slash && slice_index rest 1 == asterisk
    then closed_len (close_at (drop 2 rest)) else 0

-- the white space byte or the comment at the front, 0 if there is none
abbrev pub piece_len : List ℕ → ℕ
piece_len rest = if is_white (slice_index rest 0) then 1 else comment_len rest
