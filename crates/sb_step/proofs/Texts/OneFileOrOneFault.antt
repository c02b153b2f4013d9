-- Each input is one file or has one fault.
use Rattle.sb_step.proofs.Names.{◌≡◌, ℕ, ◌⊎◌, List, [], ◌∷◌, ◌++◌, Option, Some, None, refl, sym, ap, ap₂, ◌∙◌, subst, inl, inr, ⊎_elim, append_assoc, append-nil, map-append, Token, BadToken, AreTokens, EachInputHasTokens, TokensAreUnique, Lexeme, lexeme_at, lexemes, File, IsText, IsFile, BeginsText, GoesOn, IsFaultAt, EachIsFileOrFault, FilesAreUnique, FaultsAreUnique, NoFileHasAFault, Turn, next_turn, start, end_of, file_of, Ran, run}
use Rattle.sb_step.specs.Faults.{place_of}
use Rattle.sb_step.proofs.Texts.TextsEnd.{goes_on, ends_text, no_end, runs_begin, stops, one_file}

-- the lexemes of one token more
pub lexemes-more : (input : List ℕ) (before : List Token) (t : Token)
    → lexemes input (before ++ t ∷ []) ≡ lexemes input before ++ lexeme_at input t ∷ []
lexemes-more input before t = map-append (lexeme_at input) before (t ∷ [])

-- there is a file or a fault

-- the input is a file or has a fault
abbrev pub FileOrFault : List ℕ → Type 0
FileOrFault input = ((file : File) × IsFile input file) ⊎ ((place : ℕ) × IsFaultAt input place)

-- the fault behind tokens that were read
pub fault_behind : (input : List ℕ) (before after : List Token) (bad : Option BadToken) (ran : Ran)
    → AreTokens input (before ++ after) bad → run (lexemes input before) start ≡ Some ran
    → (GoesOn input before after bad → ⊥) → IsFaultAt input (place_of input after bad)
fault_behind input before after bad ran are is refused = record {
  before = before;
  after = after;
  bad = bad;
  are = are;
  at = refl;
  begins = runs_begin (lexemes input before) ran is;
  refused = refused;
}

-- and the file that they are
pub file_behind : (input : List ℕ) (tokens : List Token) (ran : Ran) (k : ℕ)
    → AreTokens input (tokens ++ []) None → run (lexemes input tokens) start ≡ Some ran
    → end_of ran.state ≡ Some k → IsFile input (file_of ran.events k)
file_behind input tokens ran k are is ends = record {
  tokens = tokens;
  are = subst (λ ts. AreTokens input ts None) (append-nil tokens) are;
  text = ends_text (lexemes input tokens) ran k is ends;
}

decide : (input : List ℕ) (before after : List Token) (bad : Option BadToken) (ran : Ran)
    → AreTokens input (before ++ after) bad → run (lexemes input before) start ≡ Some ran
    → FileOrFault input
decide input before [] (Some bad) ran are is =
    inr (bad.0, fault_behind input before [] (Some bad) ran are is (λ goes. goes))
decide input before [] None ran are is = at_end (end_of ran.state) refl
  where
    at_end : (ends : Option ℕ) → end_of ran.state ≡ ends → FileOrFault input
    at_end None none =
        inr (
          _,
          fault_behind input before [] None ran are is
              (no_end (lexemes input before) ran is none),
        )
    at_end (Some k) ends = inl (file_of ran.events k, file_behind input before ran k are is ends)
decide input before (t ∷ after) bad ran are is =
    at_token (λ r reads. decide input (before ++ t ∷ []) after bad r
    (subst (λ ts. AreTokens input ts bad) (sym (append_assoc before (t ∷ []) after)) are) reads)
    (next_turn ran.state (lexeme_at input t)) refl
  where
    at_token : ((r : Ran) → run (lexemes input (before ++ t ∷ [])) start ≡ Some r
        → FileOrFault input) → (found : Option Turn)
        → next_turn ran.state (lexeme_at input t) ≡ found
        → FileOrFault input
    at_token further None none =
        inr (
          t.start,
          fault_behind input before (t ∷ after) bad ran are is
              (stops (lexemes input before) ran is (lexeme_at input t) none),
        )
    at_token further (Some turn) on =
        further (record { state = turn.state; events = ran.events ++ turn.event ∷ [] })
        (ap (λ l. run l start) (lexemes-more input before t)
        ∙ goes_on (lexeme_at input t) turn (lexemes input before) start ran is on)

-- each input is a file or has a fault
pub each_is_file_or_fault : EachInputHasTokens → EachIsFileOrFault
each_is_file_or_fault has_tokens input =
    let h = has_tokens input in
    decide input [] h.0 h.1 (record { state = start; events = [] }) h.2 refl

-- there is one

-- an input is one file at most
pub files_are_unique : TokensAreUnique → FilesAreUnique
files_are_unique one_list input file other is also =
    let same = one_list input is.tokens also.tokens None None is.are also.are in
    one_file (lexemes input is.tokens) file other is.text
    (subst (λ ts. IsText (lexemes input ts) other) (sym same.0) also.text)

-- one list ends where another goes on
pub record GoesFurther (front back longer : List Token) : Type 0 where
  pub next : Token
  pub middle : List Token
  pub rest : List Token
  pub joined : longer ≡ front ++ next ∷ middle
  pub behind : back ≡ next ∷ rest

further : (t u : Token) (b a c : List Token) → t ≡ u → GoesFurther b a c
    → GoesFurther (t ∷ b) a (u ∷ c)
further t u b a c heads g = record {
  next = g.next;
  middle = g.middle;
  rest = g.rest;
  joined = λ i. sym heads i ∷ g.joined i;
  behind = g.behind;
}

-- two ways to cut one list: at one place, or one of them further on
cuts : (b a c d : List Token) → b ++ a ≡ c ++ d
    → ((b ≡ c) × (a ≡ d)) ⊎ (GoesFurther b a c ⊎ GoesFurther c d b)
cuts [] a [] d e = inl (refl, e)
cuts [] a (t ∷ c) d e =
    inr (inl (record { next = t; middle = c; rest = c ++ d; joined = refl; behind = e }))
cuts (t ∷ b) a [] d e =
    inr (inr (record { next = t; middle = b; rest = b ++ a; joined = refl; behind = sym e }))
cuts (t ∷ b) a (u ∷ c) d e =
    let heads : t ≡ u = cc in
    let tails : b ++ a ≡ c ++ d = cc in
    ⊎_elim (λ same. inl ((λ i. heads i ∷ same.0 i), same.1))
    (λ others. inr (⊎_elim (λ g. inl (further t u b a c heads g))
    (λ g. inr (further u t c d b (sym heads) g)) others))
    (cuts b a c d tails)

-- what a text begins with begins with less
begins_less : (xs : List Lexeme) (x : Lexeme) (ys : List Lexeme) → BeginsText (xs ++ x ∷ ys)
    → BeginsText (xs ++ x ∷ [])
begins_less xs x ys begins = record {
  others = ys ++ begins.others;
  file = begins.file;
  text = subst (λ l. IsText l begins.file)
      (append_assoc xs (x ∷ ys) begins.others
      ∙ sym (append_assoc xs (x ∷ []) (ys ++ begins.others))) begins.text;
}

shorter : (input : List ℕ) (before longer : List Token) (t : Token) (middle : List Token)
    → longer ≡ before ++ t ∷ middle → BeginsText (lexemes input longer)
    → BeginsText (lexemes input before ++ lexeme_at input t ∷ [])
shorter input before longer t middle joined begins =
    begins_less (lexemes input before) (lexeme_at input t) (lexemes input middle)
    (subst BeginsText (ap (lexemes input) joined
    ∙ map-append (lexeme_at input) before (t ∷ middle)) begins)

-- no fault stands before what begins a text
no_earlier : (input : List ℕ) (before after longer : List Token) (bad : Option BadToken)
    → (GoesOn input before after bad → ⊥) → BeginsText (lexemes input longer)
    → GoesFurther before after longer → ⊥
no_earlier input before after longer bad refused begins g =
    subst (λ l. GoesOn input before l bad → ⊥) g.behind refused
    (shorter input before longer g.next g.middle g.joined begins)

-- an input has one fault at most
pub faults_are_unique : TokensAreUnique → FaultsAreUnique
faults_are_unique one_list input place other one two =
    let tokens = one_list input (one.before ++ one.after) (two.before ++ two.after)
    one.bad two.bad one.are two.are in
    ⊎_elim (λ same. sym one.at ∙ ap₂ (place_of input) same.1 tokens.1 ∙ two.at)
    (λ apart. absurd (⊎_elim
    (no_earlier input one.before one.after two.before one.bad one.refused two.begins)
    (no_earlier input two.before two.after one.before two.bad two.refused one.begins) apart))
    (cuts one.before one.after two.before two.after tokens.0)

-- a text goes on to its end
goes_to_end : (input : List ℕ) (before after : List Token) (bad : Option BadToken)
    (tokens : List Token) (file : File) → before ++ after ≡ tokens → bad ≡ None
    → IsText (lexemes input tokens) file → GoesOn input before after bad
goes_to_end input before [] None tokens file joined none text =
    (file, subst (λ ts. IsText (lexemes input ts) file) (sym joined ∙ append-nil before) text)
goes_to_end input before [] (Some bad) tokens file joined none text = absurd (cc)
goes_to_end input before (t ∷ after) bad tokens file joined none text =
    shorter input before tokens t after (sym joined) (record {
      others = [];
      file = file;
      text = subst (λ l. IsText l file) (sym (append-nil (lexemes input tokens))) text;
    })

-- and not both
pub no_file_has_a_fault : TokensAreUnique → NoFileHasAFault
no_file_has_a_fault one_list input file place is fault =
    let same = one_list input (fault.before ++ fault.after) is.tokens fault.bad None
    fault.are is.are in
    fault.refused (goes_to_end input fault.before fault.after fault.bad is.tokens file same.0
    same.1 is.text)
