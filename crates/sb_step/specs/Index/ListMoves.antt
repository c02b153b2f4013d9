-- What may stand next within parameter lists.
use Rattle.std.specs.Prelude.{◌≡◌, ℕ, zero, suc, ◌/◌, ◌%◌, ◌^◌, ◌<◌, ◌≤◌, Bool, true, false, ◌&&◌, nat_lt, if◌then◌else◌, List, [], ◌∷◌, length, Option, Some, None}
use Rattle.sb_lex.specs.declared.kinds.Kind.{Kind}
use Rattle.sb_step.specs.declared.indexing.states.Bracket.{Bracket}
use Rattle.sb_step.specs.declared.indexing.states.Bracket.TheVariants as bracket
use Rattle.sb_step.specs.declared.indexing.states.Want.{Want}
use Rattle.sb_step.specs.declared.indexing.states.Want.TheVariants as want
use Rattle.sb_step.specs.Lexemes.{is_value, is_open, is_close}
use Rattle.sb_step.specs.Grammar.{greatest_depth}
use Rattle.sb_step.specs.KindTests.{is_comma, is_keyword}

-- the parentheses that are open, the innermost first, and what is wanted. A typed parameter's is
-- among them as soon as its keyword was read.
pub record Nest : Type 0 where
  pub brackets : List Bracket
  pub want : Want

-- a further parenthesis, if there is room for it
abbrev pub deeper : ℕ → Bracket → List Bracket → Want → Option Nest
deeper room f fs w =
    if nat_lt (length fs) room then Some (record { brackets = f ∷ fs; want = w }) else None

-- the first lexeme of a parameter
abbrev pub parameter : ℕ → List Bracket → Kind → Option Nest
parameter room fs k =
    if is_value k then Some (record { brackets = fs; want = want.Next })
    else if is_open k then deeper room bracket.List fs want.First
    else if is_keyword k then deeper room bracket.Typed fs want.Open
    else None

-- the innermost parenthesis is that of a list
abbrev pub is_list : List Bracket → Bool
is_list [] = false
is_list (bracket.List ∷ fs) = true
is_list (bracket.Typed ∷ fs) = false

-- a comma goes on with a list, and with nothing else
abbrev pub comma : List Bracket → Kind → Option Nest
comma fs k =
    if is_list fs && is_comma k then Some (record { brackets = fs; want = want.Parameter }) else
    None

-- without the innermost
abbrev pub shut : List Bracket → Nest
shut [] = record { brackets = []; want = want.Next }
shut (f ∷ fs) = record { brackets = fs; want = want.Next }

-- the parentheses that so many bits tell of, the lowest first: 1 for a list, 0 for a typed
-- parameter
abbrev pub bracket_of : ℕ → Bracket
bracket_of zero = bracket.Typed
bracket_of (suc n) = bracket.List

-- all of them
abbrev pub brackets_of : ℕ → ℕ → List Bracket
brackets_of zero bits = []
brackets_of (suc n) bits = bracket_of (bits % 2) ∷ brackets_of n (bits / 2)

-- as many bits as there are parentheses, 64 at most
pub record AreBits (len bits : ℕ) : Type 0 where
  pub few : len ≤ greatest_depth
  pub fits : bits < 2 ^ len

-- and the bit of one
abbrev pub bit_of : Bracket → ℕ
bit_of bracket.List = 1
bit_of bracket.Typed = 0

-- what the kind does to the open parentheses, by what is wanted
abbrev pub by_want : Want → ℕ → List Bracket → Kind → Option Nest
by_want want.First room fs k = if is_close k then Some (shut fs) else parameter room fs k
by_want want.Parameter room fs k = parameter room fs k
by_want want.Next room fs k = if is_close k then Some (shut fs) else comma fs k
by_want want.Open room fs k =
    if is_open k then Some (record { brackets = fs; want = want.Parameter }) else None

-- what a function that changes the open parentheses answers: what is wanted then, if the kind may
-- stand there
abbrev pub MovesTo : Option Nest → List Bracket → Option Want → Type 0
MovesTo found fs None = found ≡ None
MovesTo found fs (Some w) = found ≡ Some (record { brackets = fs; want = w })
