-- The text that is read behind the keyword of the one FILE_SCHEMA is the schema of the file.
use Rattle.sb_step.proofs.Names.{Mark, is_mark, marks, ◌≡◌, ℕ, ◌+◌, ◌-◌, ◌≤◌, ◌↔◌, true, List, [], ◌∷◌, ◌++◌, Option, Some, None, length, refl, sym, ap, ◌∙◌, subst, ⊎_elim, cond, ◌&&◌, codes, slice_range, filter, false≢true, and_parts, and_from, slice_inside, same_Some, none-some, Kind, Token, IsOf, IsCandidate, AreTokensFrom, AreTokens, Record, Lexeme, lexeme_at, lexemes, IsMark, Rule, One, File, Indexed, is_schema, IsString, OneString, HasOneString, IsSchema, HasNoSchema, first_of, behind_first, opens, closes, both_open, both_close, inside, text_in, IsFile}
use Rattle.sb_lex.specs.Bytes as byte
use Rattle.sb_lex.specs.declared.kinds.Kind.TheVariants as kind
use Rattle.sb_lex.specs.declared.kinds.Mark.TheVariants as mark
use Rattle.sb_step.specs.declared.step_file.records.Form.TheVariants as form
use Rattle.sb_step.specs.Rules.{◌⋅◌}
use Rattle.sb_step.specs.Records.SchemaReading.{inside_of}
use Rattle.sb_step.proofs.Records.WhatIsFoundStands.{passes_among}
use Rattle.sb_step.proofs.KindsSay.{mark_says, choice}
use Rattle.sb_step.proofs.Records.RecordsStand.{entity_stands, tokens_behind, reads_on}

-- between two apostrophes

-- a string's text, as it is read
string_says : (input : List ℕ) (t : Token) (k : Kind) (text : List ℕ) → IsCandidate input t
    → t.kind ≡ k → inside_of k t.start t.end input ≡ Some text
    → IsString text (lexeme_at input t)
string_says input t kind.Str text c is read =
    let s = subst (λ k. IsOf k (slice_range input t.start t.end)) is c.of_kind in
    let mid = s.second.front in
    let whole : slice_range input t.start t.end ≡ codes "'" ++ (mid ++ codes "'") =
    s.joined ∙ ap (λ l. l ++ s.back) s.first
    ∙ ap (λ l. codes "'" ++ l) (s.second.joined ∙ ap (λ l. mid ++ l) s.second.second) in
    let same : mid ≡ text =
    sym (slice_inside input t.start t.end byte.apostrophe byte.apostrophe mid c.ordered c.within
    whole)
    ∙ same_Some (slice_range input (t.start + 1) (t.end - 1)) text read in
    record {
      string = is;
      spelled = whole ∙ ap (λ l. codes "'" ++ (l ++ codes "'")) same;
    }
string_says input t _ text c is read = absurd (none-some text read)

said_string : (input : List ℕ) (t : Token) (text : List ℕ) → IsCandidate input t
    → IsString text (lexeme_at input t) → inside input (Some t) ≡ Some text
said_string input t text c is =
    ap (λ k. inside_of k t.start t.end input) is.string
    ∙ ap Some (slice_inside input t.start t.end byte.apostrophe byte.apostrophe text c.ordered
    c.within is.spelled)

-- one token of the list

module _ (input : List ℕ) where
  -- the tokens stand in the input
  abbrev pub AreSome : List Token → Type 0
  AreSome tokens = (from : ℕ) × AreTokensFrom input from tokens None

  some_behind : (tokens : List Token) → AreSome tokens → AreSome (behind_first tokens)
  some_behind [] are = are
  some_behind (t ∷ later) are = (t.end, are.1.1)

  -- the first of them is so
  abbrev First : (Lexeme → Type 0) → List Token → Type 0
  First P [] = ⊥
  First P (t ∷ later) = P (lexeme_at input t)

  first_one : (P : Lexeme → Type 0) (tokens : List Token) → First P tokens
      → One P (lexemes input tokens) (lexemes input (behind_first tokens))
  first_one P [] is = absurd is
  first_one P (t ∷ later) is = (is, refl)

  one_first : (P : Lexeme → Type 0) (tokens : List Token) (rest : List Lexeme)
      → One P (lexemes input tokens) rest
      → First P tokens × (rest ≡ lexemes input (behind_first tokens))
  one_first P [] rest one = absurd one
  one_first P (t ∷ later) rest one = (one.0, one.1)

  -- it stands before what follows the others
  ahead : {P : Lexeme → Type 0} {Q : Rule} (tokens : List Token) {rest : List Lexeme}
      → First P tokens → Q (lexemes input (behind_first tokens)) rest
      → (One P ⋅ Q) (lexemes input tokens) rest
  ahead {P = P} tokens is j = record { middle = _; first = first_one P tokens is; second = j }

  behind : {P : Lexeme → Type 0} {Q : Rule} (tokens : List Token) {rest : List Lexeme}
      → (One P ⋅ Q) (lexemes input tokens) rest
      → First P tokens × Q (lexemes input (behind_first tokens)) rest
  behind {P = P} {Q = Q} tokens {rest = rest} j =
      let one = one_first P tokens j.middle j.first in
      (one.0, subst (λ xs. Q xs rest) one.1 j.second)

  marks_first : (m : Mark) (tokens : List Token) → marks m (first_of tokens) ≡ true
      → First (IsMark m) tokens
  marks_first m [] e = absurd (false≢true e)
  marks_first m (t ∷ later) e = mark_says m t.kind e

  first_marks : (m : Mark) (tokens : List Token) → First (IsMark m) tokens
      → is_mark m (kind.Mark m) ≡ true → marks m (first_of tokens) ≡ true
  first_marks m [] is same = absurd is
  first_marks m (t ∷ later) is same = ap (is_mark m) is ∙ same

  string_first : (text : List ℕ) (tokens : List Token) → AreSome tokens
      → inside input (first_of tokens) ≡ Some text → First (IsString text) tokens
  string_first text [] are read = absurd (none-some text read)
  string_first text (t ∷ later) are read =
      string_says input t t.kind text are.1.0.token.candidate refl read

  first_string : (text : List ℕ) (tokens : List Token) → AreSome tokens
      → First (IsString text) tokens → inside input (first_of tokens) ≡ Some text
  first_string text [] are is = absurd is
  first_string text (t ∷ later) are is =
      said_string input t text are.1.0.token.candidate is

  -- a list of one string
  abbrev pub ListOfOne : List ℕ → Rule
  ListOfOne text =
      One (IsMark mark.Open) ⋅ One (IsMark mark.Open) ⋅ One (IsString text)
      ⋅ One (IsMark mark.Close) ⋅ One (IsMark mark.Close)

  module _ (text : List ℕ) (tokens : List Token) (are : AreSome tokens) where
    abbrev second : List Token
    second = behind_first tokens

    abbrev string : List Token
    string = behind_first second

    abbrev closing : List Token
    closing = behind_first string

    abbrev final : List Token
    final = behind_first closing

    list_from_text : text_in input tokens ≡ Some text
        → ListOfOne text (lexemes input tokens) (lexemes input (behind_first final))
    list_from_text read =
        ⊎_elim
        (λ passed.
        let both = and_parts (both_open tokens) (both_close closing) passed.0 in
        let opened = and_parts (opens (first_of tokens)) (opens (first_of second)) both.0 in
        let closed = and_parts (closes (first_of closing)) (closes (first_of final)) both.1 in
        ahead tokens (marks_first mark.Open tokens opened.0) (ahead second (marks_first mark.Open second opened.1)
        (ahead string (string_first text string (some_behind second (some_behind tokens are))
        passed.1)
        (ahead closing (marks_first mark.Close closing closed.0)
        (first_one _ final (marks_first mark.Close final closed.1))))))
        (λ other. absurd (none-some text other.1))
        (choice (both_open tokens && both_close closing) (inside input (first_of string)) None text
        read)

    text_from_list : (rest : List Lexeme) → ListOfOne text (lexemes input tokens) rest
        → text_in input tokens ≡ Some text
    text_from_list rest l =
        let a = behind tokens l in
        let b = behind second a.1 in
        let c = behind string b.1 in
        let d = behind closing c.1 in
        let e = one_first _ final rest d.1 in
        let passed : (both_open tokens && both_close closing) ≡ true =
        and_from (both_open tokens) (both_close closing)
        (and_from (opens (first_of tokens)) (opens (first_of second)) (first_marks mark.Open tokens a.0 refl)
        (first_marks mark.Open second b.0 refl))
        (and_from (closes (first_of closing)) (closes (first_of final)) (first_marks mark.Close closing d.0 refl)
        (first_marks mark.Close final e.0 refl)) in
        ap (λ b. cond b (inside input (first_of string)) None) passed
        ∙ first_string text string (some_behind second (some_behind tokens are)) c.0

-- the schema

-- the keyword of the only one ends in the input
pub entity_reads_on : (input : List ℕ) (file : File) → IsFile input file → (r : Record) (end : ℕ)
    → filter (is_schema input) file.header ≡ r ∷ [] → r.form ≡ form.Simple end
    → end ≤ length input
entity_reads_on input file is r end only simple =
    let stands = passes_among (is_schema input) file.header r only in
    (reads_on input r end simple (entity_stands input file is r stands)).within

-- what is found behind the keyword is the schema of the file, if the entity is its only one
module _ (indexed : Indexed) (is : IsFile indexed.input indexed.file) (r : Record) (end : ℕ)
    (only : filter (is_schema indexed.input) indexed.file.header ≡ r ∷ [])
    (simple : r.form ≡ form.Simple end) (found : Option (List ℕ))
    (reads : (tokens : List Token) → AreTokensFrom indexed.input end tokens None
    → found ≡ text_in indexed.input tokens) (text : List ℕ) where
  found_is_schema : found ≡ Some text → IsSchema indexed text
  found_is_schema read =
      let input = indexed.input in
      let s = entity_stands input indexed.file is r
      (passes_among (is_schema input) indexed.file.header r only) in
      let o = reads_on input r end simple s in
      let behind = s.inside ++ s.semicolon ∷ s.after in
      let l = list_from_text input text behind (end, o.are) (sym (reads behind o.are) ∙ read) in
      record {
        entity = r;
        only = only;
        string = record {
          before = s.before;
          from = s.keyword ∷ behind;
          rest = _;
          are = s.are;
          stands = record {
            middle = lexemes input behind;
            first = (s.begins, refl);
            second = l;
          };
        };
      }

  stands_as_found : (before from : List Token) (rest : List Lexeme)
      → AreTokens indexed.input (before ++ from) None
      → OneString r text (lexemes indexed.input from) rest → found ≡ Some text
  stands_as_found before [] rest are j = absurd j.first
  stands_as_found before (k ∷ tokens) rest are j =
      let input = indexed.input in
      let b = tokens_behind input 0 before tokens k None are in
      let same : form.Simple k.end ≡ form.Simple end = sym j.first.0.form ∙ simple in
      let ends : k.end ≡ end = cc in
      let behind = subst (λ place. AreTokensFrom input place tokens None) ends b.2 in
      let l = subst (λ xs. ListOfOne input text xs rest) j.first.1 j.second in
      reads tokens behind ∙ text_from_list input text tokens (end, behind) rest l

  schema_is_found : IsSchema indexed text → found ≡ Some text
  schema_is_found h =
      let both : h.entity ∷ [] ≡ r ∷ [] = sym h.only ∙ only in
      let same : h.entity ≡ r = cc in
      let one = subst (λ e. HasOneString indexed.input e text) same h.string in
      stands_as_found one.before one.from one.rest one.are one.stands

  -- a text is found exactly where it is the schema
  pub found_exactly : (found ≡ Some text) ↔ IsSchema indexed text
  found_exactly = (found_is_schema, schema_is_found)

-- nothing is answered exactly where nothing is the schema
pub none_exactly : (indexed : Indexed) (found : Option (List ℕ))
    → ((text : List ℕ) → (found ≡ Some text) ↔ IsSchema indexed text)
    → (found ≡ None) ↔ HasNoSchema indexed
none_exactly indexed None exactly = (
  λ none text is. absurd (none-some text ((exactly text).1 is)),
  λ no. refl,
)
none_exactly indexed (Some found) exactly = (
  λ none text is. absurd (none-some found (sym none)),
  λ no. absurd (no found ((exactly found).0 refl)),
)
