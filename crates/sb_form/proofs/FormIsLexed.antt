-- The tokens of the first form, piece by piece: those of its fixed parts are computed, and between
-- them stand its six numbers.
use Rattle.std.proofs.Common.{◌++◌, ℕ, ℤ, List, [], ◌∷◌, Option, Some, None, refl, subst, sym}
use Rattle.std.proofs.Math.Seq.{drop-append_seam}
use Rattle.sb_lex.specs.Scanning.{scan_letters, scan_name, scan_unsigned, scan_enclosed, exponent_len}
use Rattle.sb_form.specs.Numbers.{IsShort, number_text}
use Rattle.sb_form.specs.FirstForm.{before_place, before_sizes, before_height, behind_height, comma, form_text, AreShort}
use Rattle.sb_form.specs.declared.matcher.FirstForm.{FirstForm}
use Rattle.sb_form.proofs.TokensAtTheFront.{Piece, Lexed, lexed, Lead, lead_append, lexed_leads}
use Rattle.sb_form.proofs.NumbersAreReals.{EndsReal, real_of, number_is_first}

-- the pieces of a fixed part, as many as it has tokens

-- the pieces that were found
abbrev pub pieces_in : Option Lexed → List Piece
pieces_in None = []
pieces_in (Some l) = l.pieces

-- the fixed parts of the text as pieces: before the place, a comma, before the sizes, before the
-- height, and behind it
abbrev pub place_pieces : List Piece
place_pieces = pieces_in (lexed 71 before_place)

abbrev pub comma_pieces : List Piece
comma_pieces = pieces_in (lexed 1 comma)

abbrev pub sizes_pieces : List Piece
sizes_pieces = pieces_in (lexed 33 before_sizes)

abbrev pub height_pieces : List Piece
height_pieces = pieces_in (lexed 25 before_height)

abbrev pub last_pieces : List Piece
last_pieces = pieces_in (lexed 61 behind_height)

-- they lead, whatever follows

place_leads : (rest : List ℕ) → Lead place_pieces (before_place ++ rest) rest
unfolding before_place scan_letters scan_name scan_unsigned scan_enclosed exponent_len
place_leads rest =
    lexed_leads 71 (before_place ++ rest) (record { pieces = place_pieces; rest = rest }) refl

comma_leads : (rest : List ℕ) → Lead comma_pieces (comma ++ rest) rest
comma_leads rest =
    lexed_leads 1 (comma ++ rest) (record { pieces = comma_pieces; rest = rest }) refl

sizes_leads : (rest : List ℕ) → Lead sizes_pieces (before_sizes ++ rest) rest
unfolding before_sizes scan_letters scan_name scan_unsigned scan_enclosed exponent_len
sizes_leads rest =
    lexed_leads 33 (before_sizes ++ rest) (record { pieces = sizes_pieces; rest = rest }) refl

height_leads : (rest : List ℕ) → Lead height_pieces (before_height ++ rest) rest
unfolding before_height scan_letters scan_name scan_unsigned scan_enclosed exponent_len
height_leads rest =
    lexed_leads 25 (before_height ++ rest) (record { pieces = height_pieces; rest = rest }) refl

-- behind the last token stands a line feed
abbrev pub line_feed : List ℕ
line_feed = 10 ∷ []

last_leads : Lead last_pieces behind_height line_feed
unfolding behind_height scan_letters scan_name scan_unsigned scan_enclosed exponent_len
last_leads = lexed_leads 61 behind_height (record { pieces = last_pieces; rest = line_feed }) refl

-- what follows the numbers ends them

comma_ends : (rest : List ℕ) → EndsReal (comma ++ rest)
comma_ends rest = record { no_digit = refl; no_exponent = refl }

sizes_end : (rest : List ℕ) → EndsReal (before_sizes ++ rest)
unfolding before_sizes
sizes_end rest = record { no_digit = refl; no_exponent = refl }

height_ends : (rest : List ℕ) → EndsReal (before_height ++ rest)
unfolding before_height
height_ends rest = record { no_digit = refl; no_exponent = refl }

last_ends : EndsReal behind_height
unfolding behind_height
last_ends = record { no_digit = refl; no_exponent = refl }

-- the pieces of the whole

-- a number and a comma, and pieces behind them
abbrev pub number_and_comma : ℤ → List Piece → List Piece
number_and_comma n ps = real_of n ∷ (comma_pieces ++ ps)

-- from the height on
abbrev pub pieces_from_height : FirstForm → List Piece
pieces_from_height f = height_pieces ++ (real_of f.height ∷ last_pieces)

-- from the sizes on
abbrev pub pieces_from_sizes : FirstForm → List Piece
pieces_from_sizes f =
    sizes_pieces ++ number_and_comma f.size_x (real_of f.size_y ∷ pieces_from_height f)

-- all
abbrev pub form_pieces : FirstForm → List Piece
form_pieces f =
    place_pieces
    ++ number_and_comma f.x (number_and_comma f.y (real_of f.z ∷ pieces_from_sizes f))

-- they lead the text

number_leads : (n : ℤ) (ps : List Piece) (next rest : List ℕ) → IsShort n → EndsReal next
    → Lead ps next rest → Lead (real_of n ∷ ps) (number_text n ++ next) rest
number_leads n ps next rest short ends later = (
  number_is_first n next short ends,
  subst (λ b. Lead ps b rest) (sym (drop-append_seam (number_text n) next)) later,
)

number_and_comma_lead : (n : ℤ) (ps : List Piece) (next rest : List ℕ) → IsShort n
    → Lead ps next rest → Lead (number_and_comma n ps) (number_text n ++ (comma ++ next)) rest
number_and_comma_lead n ps next rest short later =
    number_leads n (comma_pieces ++ ps) (comma ++ next) rest short (comma_ends next)
    (lead_append comma_pieces ps (comma ++ next) next rest (comma_leads next) later)

height_text : FirstForm → List ℕ
height_text f = before_height ++ (number_text f.height ++ behind_height)

height_text_leads : (f : FirstForm) → IsShort f.height
    → Lead (pieces_from_height f) (height_text f) line_feed
unfolding height_text
height_text_leads f short =
    let behind = number_text f.height ++ behind_height in
    lead_append height_pieces (real_of f.height ∷ last_pieces) (before_height ++ behind) behind
    line_feed (height_leads behind)
    (number_leads f.height last_pieces behind_height line_feed short last_ends last_leads)

sizes_text : FirstForm → List ℕ
sizes_text f =
    before_sizes ++ (number_text f.size_x ++ (comma ++ (number_text f.size_y ++ height_text f)))

height_text_ends : (f : FirstForm) → EndsReal (height_text f)
unfolding height_text
height_text_ends f = height_ends (number_text f.height ++ behind_height)

sizes_text_leads : (f : FirstForm) → AreShort f
    → Lead (pieces_from_sizes f) (sizes_text f) line_feed
unfolding sizes_text
sizes_text_leads f short =
    let behind = number_text f.size_x ++ (comma ++ (number_text f.size_y ++ height_text f)) in
    let second = number_leads f.size_y (pieces_from_height f) (height_text f) line_feed short.4
    (height_text_ends f) (height_text_leads f short.5) in
    let first = number_and_comma_lead f.size_x (real_of f.size_y ∷ pieces_from_height f)
    (number_text f.size_y ++ height_text f) line_feed short.3 second in
    lead_append sizes_pieces (number_and_comma f.size_x (real_of f.size_y ∷ pieces_from_height f))
    (before_sizes ++ behind) behind line_feed (sizes_leads behind) first

sizes_text_ends : (f : FirstForm) → EndsReal (sizes_text f)
unfolding sizes_text
sizes_text_ends f =
    sizes_end (number_text f.size_x ++ (comma ++ (number_text f.size_y ++ height_text f)))

-- the pieces of the form lead its text, and a line feed is left
pub form_leads : (f : FirstForm) → AreShort f → Lead (form_pieces f) (form_text f) line_feed
unfolding sizes_text height_text
form_leads f short =
    let behind_y = number_text f.z ++ sizes_text f in
    let behind_x = number_text f.y ++ (comma ++ behind_y) in
    let behind = number_text f.x ++ (comma ++ behind_x) in
    let third = number_leads f.z (pieces_from_sizes f) (sizes_text f) line_feed short.2
    (sizes_text_ends f) (sizes_text_leads f short) in
    let second = number_and_comma_lead f.y (real_of f.z ∷ pieces_from_sizes f) behind_y line_feed
    short.1 third in
    let first = number_and_comma_lead f.x
    (number_and_comma f.y (real_of f.z ∷ pieces_from_sizes f)) behind_x line_feed short.0 second in
    lead_append place_pieces
    (number_and_comma f.x (number_and_comma f.y (real_of f.z ∷ pieces_from_sizes f)))
    (before_place ++ behind) behind line_feed (place_leads behind) first
