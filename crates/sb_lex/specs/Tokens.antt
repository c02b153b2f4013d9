-- Where the tokens of an input lie, and where it has none.
use Rattle.std.specs.Prelude.{◌≡◌, ◌≢◌, ℕ, ◌+◌, ◌<◌, ◌≤◌, ◌↔◌, false, List, [], ◌∷◌, length, drop, slice_range, Option, Some, None, Result, Ok, Err}
use Rattle.sb_lex.specs.declared.kinds.Kind.{Kind}
use Rattle.sb_lex.specs.declared.kinds.Kind.TheVariants as kind
use Rattle.sb_lex.specs.declared.kinds.Token.{Token}
use Rattle.sb_lex.specs.declared.kinds.BadToken.{BadToken}
use Rattle.theory_bytes.specs.Sets.{Begins, begins_with}
use Rattle.sb_lex.specs.Kinds.{IsOf, not_after, BlankPiece, Blank}

-- what stands at the span is of the kind, and what may not follow it does not
pub record IsCandidate (input : List ℕ) (t : Token) : Type 0 where
  pub ordered : t.start ≤ t.end
  pub within : t.end ≤ length input
  pub of_kind : IsOf t.kind (slice_range input t.start t.end)
  pub free : begins_with (not_after t.kind) (drop t.end input) ≡ false

-- the token at its place is the longest that could be there
pub record IsToken (input : List ℕ) (t : Token) : Type 0 where
  pub candidate : IsCandidate input t
  pub longest : (other : Token) → IsCandidate input other → other.start ≡ t.start → other.end ≤
      t.end

-- from one place to another there are only white space and comments
pub record IsGap (input : List ℕ) (from to : ℕ) : Type 0 where
  pub ordered : from ≤ to
  pub within : to ≤ length input
  pub blank : Blank (slice_range input from to)

-- the first token from a place on
pub record IsNext (input : List ℕ) (from : ℕ) (t : Token) : Type 0 where
  pub gap : IsGap input from t.start
  pub token : IsToken input t

-- behind white space and comments a byte stands with which no white space, comment or token begins
pub record IsBadFrom (input : List ℕ) (from place : ℕ) : Type 0 where
  pub gap : IsGap input from place
  pub within : place < length input
  pub no_blank : Begins BlankPiece (drop place input) → ⊥
  pub no_token : (t : Token) → IsCandidate input t → t.start ≢ place

-- only white space and comments are left
abbrev pub IsEnd : List ℕ → ℕ → Type 0
IsEnd input from = IsGap input from (length input)

-- The tokens of the input from a place on, and what ends them: the end of the input, or a place
-- where neither white space, a comment nor a token begins.
abbrev pub AreTokensFrom : List ℕ → ℕ → List Token → Option BadToken → Type 0
AreTokensFrom input from [] None = IsEnd input from
AreTokensFrom input from [] (Some bad) = IsBadFrom input from bad.0
AreTokensFrom input from (t ∷ ts) fault = IsNext input from t × AreTokensFrom input t.end ts fault

-- the tokens of the whole input
abbrev pub AreTokens : List ℕ → List Token → Option BadToken → Type 0
AreTokens input = AreTokensFrom input 0

-- what a reader of tokens has: its input, and the place where it stands
pub record Reading : Type 0 where
  pub input : List ℕ
  pub place : ℕ

-- the answer to a call for the next token is so
abbrev pub IsTokenAnswer : Reading → Result (Option Token) BadToken → Type 0
IsTokenAnswer at (Ok (Some t)) = IsNext at.input at.place t
IsTokenAnswer at (Ok None) = IsEnd at.input at.place
IsTokenAnswer at (Err bad) = IsBadFrom at.input at.place bad.0

-- behind the token, at the end of the input, or at the bad place
abbrev pub place_after : Reading → Result (Option Token) BadToken → ℕ
place_after at (Ok (Some t)) = t.end
place_after at (Ok None) = length at.input
place_after at (Err bad) = bad.0

-- the reader after the answer
abbrev pub moved : Reading → Result (Option Token) BadToken → Reading
moved at answer = record { input = at.input; place = place_after at answer }

-- How many bytes a token of the kind has at least. A string, an enumeration and a binary have a
-- first byte and a last one, between which their inside lies.
abbrev pub least_length : Kind → ℕ
least_length kind.Str = 2
least_length kind.Enumeration = 2
least_length kind.Binary = 2
least_length _ = 1

-- the token is not empty, and lies in the input, not before the reader
pub record LiesBehind (at : Reading) (t : Token) : Type 0 where
  pub behind : at.place ≤ t.start
  pub some : t.start < t.end
  pub long : t.start + least_length t.kind ≤ t.end
  pub within : t.end ≤ length at.input

-- where the answer lies: in the input, not before the reader
abbrev pub Lies : Reading → Result (Option Token) BadToken → Type 0
Lies at (Ok (Some t)) = LiesBehind at t
Lies at (Ok None) = Unit {0}
Lies at (Err bad) = (at.place ≤ bad.0) × (bad.0 < length at.input)

-- Calls for the next token, one after another: they answered these tokens, and then the end or the
-- fault.
abbrev pub Calls : Reading → List Token → Option BadToken → Type 0
Calls at [] None = IsTokenAnswer at (Ok None)
Calls at [] (Some bad) = IsTokenAnswer at (Err bad)
Calls at (t ∷ ts) fault = IsTokenAnswer at (Ok (Some t)) × Calls (moved at (Ok (Some t))) ts fault

-- Laws

-- each input has tokens: the calls come to an end
abbrev pub EachInputHasTokens : Type 0
EachInputHasTokens = (input : List ℕ) → (tokens : List Token) × (fault : Option BadToken)
    × AreTokens input tokens fault

-- and no others
abbrev pub TokensAreUnique : Type 0
TokensAreUnique =
    (input : List ℕ) (ts us : List Token) (fault other : Option BadToken) → AreTokens input ts
    fault → AreTokens input us other → (ts ≡ us) × (fault ≡ other)

-- from each place of the input on there are tokens
abbrev pub TokensFollowEachPlace : Type 0
TokensFollowEachPlace = (input : List ℕ) (from : ℕ) → from ≤ length input
    → (tokens : List Token) × (fault : Option BadToken) × AreTokensFrom input from tokens fault

-- and no others
abbrev pub TokensBehindAPlaceAreUnique : Type 0
TokensBehindAPlaceAreUnique =
    (input : List ℕ) (from : ℕ) (ts us : List Token) (fault other : Option BadToken)
    → AreTokensFrom input from ts fault → AreTokensFrom input from us other
    → (ts ≡ us) × (fault ≡ other)

-- calling to the end gives the tokens, or the bad place behind them
abbrev pub CallsGiveTokens : Type 0
CallsGiveTokens =
    (input : List ℕ) (tokens : List Token) (fault : Option BadToken)
    → Calls (record { input = input; place = 0 }) tokens fault ↔ AreTokens input tokens fault

-- at a place there is at most one token
abbrev pub OneTokenAtAPlace : Type 0
OneTokenAtAPlace = (input : List ℕ) (t u : Token) → IsToken input t → IsToken input u
    → t.start ≡ u.start → t ≡ u

-- a refusal is final: from the bad place on the same answer comes again
abbrev pub RefusalStays : Type 0
RefusalStays =
    (at : Reading) (bad : BadToken) → IsTokenAnswer at (Err bad)
    → IsTokenAnswer (moved at (Err bad)) (Err bad)
