-- What is computed at the front of bytes, white space and a token again and again, is read as these
-- tokens wherever an input ends with these bytes.
use Rattle.std.proofs.Common.{◌≡◌, ℕ, zero, suc, ◌+◌, ◌-◌, ◌≤◌, Bool, true, false, cond, List, [], ◌∷◌, ◌++◌, Option, Some, None, length, take, drop, sym, refl, ap, ap₂, ◌∙◌, subst, inl, arith, length-drop, drop-drop, one-add}
use Rattle.std.specs.Prelude.{slice_range}
use Rattle.std.specs.List.{prefix_len}
use Rattle.std.proofs.lemmas.List.Sums.{prefix_len-le-length}
use Rattle.std.proofs.lemmas.Option.{same_Some, none-some}
use Rattle.sb_lex.specs.declared.kinds.Kind.{Kind}
use Rattle.sb_lex.specs.declared.kinds.Token.{Token}
use Rattle.sb_lex.specs.Bytes.{is_white}
use Rattle.sb_lex.specs.Kinds.{BlankPiece, Blank}
use Rattle.sb_lex.specs.Scanning.{Scanned, scan}
use Rattle.sb_lex.specs.Tokens.{IsGap, IsNext, AreTokensFrom}
use Rattle.theory_bytes.proofs.RepeatsGrow.{repeated_cons, repeated_nothing}
use Rattle.sb_lex.proofs.OneAnswer.{token_of, found_token}
use Rattle.sb_step.specs.Lexemes.{Lexeme, lexeme_at, lexemes}

-- so many white space bytes, and behind them a token of a kind, so long and with these bytes
pub record Piece : Type 0 where
  pub gap : ℕ
  pub of_kind : Kind
  pub size : ℕ
  pub text : List ℕ

-- it stands at the front
pub record IsFirst (p : Piece) (bytes : List ℕ) : Type 0 where
  pub blank : Blank (take p.gap bytes)
  pub within : p.gap ≤ length bytes
  pub found : scan (drop p.gap bytes) ≡ Some (p.of_kind, p.size)
  pub spelled : take p.size (drop p.gap bytes) ≡ p.text

-- they stand there one after another, and the rest follows
abbrev pub Lead : List Piece → List ℕ → List ℕ → Type 0
Lead [] bytes rest = bytes ≡ rest
Lead (p ∷ ps) bytes rest = IsFirst p bytes × Lead ps (drop p.size (drop p.gap bytes)) rest

-- what leads the bytes and what leads the rest behind it lead the bytes together
pub lead_append : (ps qs : List Piece) (bytes mid rest : List ℕ) → Lead ps bytes mid
    → Lead qs mid rest → Lead (ps ++ qs) bytes rest
lead_append [] qs bytes mid rest first second = subst (λ b. Lead qs b rest) (sym first) second
lead_append (p ∷ ps) qs bytes mid rest first second =
    (first.0, lead_append ps qs (drop p.size (drop p.gap bytes)) mid rest first.1 second)

-- computing

-- the piece that ends with what is found behind so many white space bytes
abbrev pub piece_by : ℕ → List ℕ → Scanned → Option Piece
piece_by gap bytes None = None
piece_by gap bytes (Some x) =
    Some (record { gap = gap; of_kind = x.0; size = x.1; text = take x.1 bytes })

-- the piece at the front
abbrev pub piece_at : List ℕ → Option Piece
piece_at bytes =
    let gap = prefix_len is_white bytes in
    let behind = drop gap bytes in
    piece_by gap behind (scan behind)

-- pieces, and what follows them
pub record Lexed : Type 0 where
  pub pieces : List Piece
  pub rest : List ℕ

-- a piece before those that were found
abbrev pub and_lexed : Piece → Option Lexed → Option Lexed
and_lexed p None = None
and_lexed p (Some l) = Some (record { pieces = p ∷ l.pieces; rest = l.rest })

-- what is found behind a piece, where there is one
abbrev pub lexed_on : (List ℕ → Option Lexed) → List ℕ → Option Piece → Option Lexed
lexed_on next bytes None = None
lexed_on next bytes (Some p) = and_lexed p (next (drop p.size (drop p.gap bytes)))

-- so many pieces
abbrev pub lexed : ℕ → List ℕ → Option Lexed
lexed zero bytes = Some (record { pieces = []; rest = bytes })
lexed (suc n) bytes = lexed_on (lexed n) bytes (piece_at bytes)

-- the computed pieces stand at the front

white_is_blank : (bytes : List ℕ) → Blank (take (prefix_len is_white bytes) bytes)
white_is_blank [] = repeated_nothing BlankPiece
white_is_blank (b ∷ bs) = by (is_white b) refl (white_is_blank bs)
  where
    by : (white : Bool) → is_white b ≡ white → Blank (take (prefix_len is_white bs) bs)
        → Blank (take (prefix_len is_white (b ∷ bs)) (b ∷ bs))
    by true is later =
        subst (λ w. Blank (take (cond w (1 + prefix_len is_white bs) 0) (b ∷ bs))) (sym is)
        (subst (λ n. Blank (take n (b ∷ bs))) (sym (one-add (prefix_len is_white bs)))
        (repeated_cons BlankPiece (b ∷ []) (take (prefix_len is_white bs) bs)
        (inl (record { byte = b; passes = is; alone = refl })) later))
    by false is later =
        subst (λ w. Blank (take (cond w (1 + prefix_len is_white bs) 0) (b ∷ bs))) (sym is)
        (repeated_nothing BlankPiece)

-- the piece is the first of the bytes, where there is one
abbrev pub IsFirstIf : Option Piece → List ℕ → Type 0
IsFirstIf None bytes = Unit {0}
IsFirstIf (Some p) bytes = IsFirst p bytes

piece_by_is_first : (bytes : List ℕ) (gap : ℕ) (o : Scanned) → Blank (take gap bytes)
    → gap ≤ length bytes → scan (drop gap bytes) ≡ o
    → IsFirstIf (piece_by gap (drop gap bytes) o) bytes
piece_by_is_first bytes gap None blank within found = tt
piece_by_is_first bytes gap (Some x) blank within found =
    record { blank = blank; within = within; found = found; spelled = refl }

piece_at_is_first : (bytes : List ℕ) → IsFirstIf (piece_at bytes) bytes
piece_at_is_first bytes =
    piece_by_is_first bytes (prefix_len is_white bytes) _ (white_is_blank bytes)
    (prefix_len-le-length is_white bytes) refl

-- what is computed further on stands there
abbrev pub Leads : (List ℕ → Option Lexed) → Type 0
Leads next = (bytes : List ℕ) (l : Lexed) → next bytes ≡ Some l → Lead l.pieces bytes l.rest

and_lexed_leads : (p : Piece) (bytes : List ℕ) (l : Lexed) (o : Option Lexed) → IsFirst p bytes
    → ((m : Lexed) → o ≡ Some m → Lead m.pieces (drop p.size (drop p.gap bytes)) m.rest)
    → and_lexed p o ≡ Some l → Lead l.pieces bytes l.rest
and_lexed_leads p bytes l None first leads is = absurd (none-some l is)
and_lexed_leads p bytes l (Some m) first leads is =
    subst (λ k. Lead k.pieces bytes k.rest) (same_Some _ l is) (first, leads m refl)

lexed_on_leads : (next : List ℕ → Option Lexed) → Leads next → (bytes : List ℕ) (l : Lexed)
    (o : Option Piece) → IsFirstIf o bytes → lexed_on next bytes o ≡ Some l
    → Lead l.pieces bytes l.rest
lexed_on_leads next leads bytes l None first is = absurd (none-some l is)
lexed_on_leads next leads bytes l (Some p) first is =
    let behind = drop p.size (drop p.gap bytes) in
    and_lexed_leads p bytes l (next behind) first (leads behind) is

-- the tokens that are computed lead the bytes
pub lexed_leads : (n : ℕ) (bytes : List ℕ) (l : Lexed) → lexed n bytes ≡ Some l
    → Lead l.pieces bytes l.rest
lexed_leads zero bytes l is = subst (λ k. Lead k.pieces bytes k.rest) (same_Some _ l is) refl
lexed_leads (suc n) bytes l is =
    lexed_on_leads (lexed n) (lexed_leads n) bytes l (piece_at bytes) (piece_at_is_first bytes) is

-- the pieces at a place of an input

-- the piece as a token from this byte on
abbrev pub token_at : ℕ → Piece → Token
token_at from p = token_of p.of_kind (from + p.gap) p.size

-- the tokens of pieces from a place on
abbrev pub tokens_at : ℕ → List Piece → List Token
tokens_at from [] = []
tokens_at from (p ∷ ps) = token_at from p ∷ tokens_at (from + p.gap + p.size) ps

-- and the lexemes, whose bytes are those of the pieces
abbrev pub lexemes_at : ℕ → List Piece → List Lexeme
lexemes_at from [] = []
lexemes_at from (p ∷ ps) =
    record { token = token_at from p; text = p.text } ∷ lexemes_at (from + p.gap + p.size) ps

-- an input ends with these bytes from the place on
pub record EndsWith (input : List ℕ) (from : ℕ) (bytes : List ℕ) : Type 0 where
  pub within : from ≤ length input
  pub are : drop from input ≡ bytes

gap_from_blank : (input bytes : List ℕ) (from gap : ℕ) → EndsWith input from bytes
    → gap ≤ length bytes → Blank (take gap bytes) → IsGap input from (from + gap)
gap_from_blank input bytes from gap ends within blank =
    let size : from + gap - from ≡ gap = omega arith in
    record {
      ordered = omega arith;
      within = omega (arith, within, ends.within, ap length ends.are, length-drop from input);
      blank = subst Blank (λ i. take (sym size i) (sym ends.are i)) blank;
    }

behind_gap : (input bytes : List ℕ) (from gap : ℕ) → EndsWith input from bytes
    → drop (from + gap) input ≡ drop gap bytes
behind_gap input bytes from gap ends =
    sym (drop-drop gap from input) ∙ ap (drop gap) ends.are

next_from_first : (input bytes : List ℕ) (from : ℕ) (p : Piece) → EndsWith input from bytes
    → IsFirst p bytes → IsNext input from (token_at from p)
next_from_first input bytes from p ends first =
    let gap = gap_from_blank input bytes from p.gap ends first.within first.blank in
    record {
      gap = gap;
      token = found_token input (from + p.gap) (p.of_kind, p.size) gap.within
          (ap scan (behind_gap input bytes from p.gap ends) ∙ first.found);
    }

lexeme_from_first : (input bytes : List ℕ) (from : ℕ) (p : Piece) → EndsWith input from bytes
    → IsFirst p bytes
    → lexeme_at input (token_at from p) ≡ record { token = token_at from p; text = p.text }
lexeme_from_first input bytes from p ends first =
    let size : from + p.gap + p.size - (from + p.gap) ≡ p.size = omega arith in
    let text : slice_range input (from + p.gap) (from + p.gap + p.size) ≡ p.text =
    ap₂ take size (behind_gap input bytes from p.gap ends) ∙ first.spelled in
    λ i. record { token = token_at from p; text = text i }

-- the input from a place on has the tokens of the pieces, and what is white behind them
pub record ReadsPieces (input : List ℕ) (from : ℕ) (ps : List Piece) : Type 0 where
  pub tokens : AreTokensFrom input from (tokens_at from ps) None
  pub texts : lexemes input (tokens_at from ps) ≡ lexemes_at from ps

-- what leads the input is read from its first byte on
pub lead_reads : (ps : List Piece) (input bytes rest : List ℕ) (from : ℕ)
    → EndsWith input from bytes → Lead ps bytes rest → prefix_len is_white rest ≡ length rest
    → ReadsPieces input from ps
lead_reads [] input bytes rest from ends lead white =
    let here = ends.are ∙ lead in
    let all : from + length rest ≡ length input =
    omega (arith, ends.within, ap length here, length-drop from input) in
    record {
      tokens = subst (IsGap input from) all
          (gap_from_blank input rest from (length rest)
          (record { within = ends.within; are = here })
          (omega arith) (subst (λ n. Blank (take n rest)) white (white_is_blank rest)));
      texts = refl;
    }
lead_reads (p ∷ ps) input bytes rest from ends lead white =
    let next = next_from_first input bytes from p ends lead.0 in
    let later = lead_reads ps input (drop p.size (drop p.gap bytes)) rest (from + p.gap + p.size)
    (record {
      within = next.token.candidate.within;
      are = sym (drop-drop p.size (from + p.gap) input)
          ∙ ap (drop p.size) (behind_gap input bytes from p.gap ends);
    }) lead.1 white in
    record {
      tokens = (next, later.tokens);
      texts = ap₂ (λ x xs. x ∷ xs) (lexeme_from_first input bytes from p ends lead.0) later.texts;
    }
