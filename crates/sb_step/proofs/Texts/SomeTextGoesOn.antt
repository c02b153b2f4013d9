-- From each state some text goes on: the first of its ways leads to the end.
use Rattle.sb_step.proofs.Names.{◌≡◌, ℕ, zero, suc, true, cond, List, [], ◌∷◌, ◌++◌, Option, Some, None, refl, ap, ◌∙◌, is_some, option_map, option_and_then, Kind, Mark, Section, Bracket, Want, Move, Lexeme, File, Asked, Way, the_word, the, a_keyword, a_name, the_mark, a_value, section_ways, State, Turn, next_turn, turn_within}
use Rattle.sb_lex.specs.declared.kinds.Kind.TheVariants as kind
use Rattle.sb_lex.specs.declared.kinds.Mark.TheVariants as mark
use Rattle.sb_step.specs.declared.indexing.states.Section.TheVariants as section
use Rattle.sb_step.specs.declared.indexing.states.Want.TheVariants as want
use Rattle.sb_step.proofs.Texts.TurnsByWay.{nest}
use Rattle.sb_step.proofs.Texts.ReadingToTheEnd.{prepend, ends}
use Rattle.sb_step.proofs.Texts.ListsAreFollowed.{state_at}

-- lexemes to go on with

-- a lexeme of the kind and of these bytes, at no place in particular
abbrev pub lexeme_of : Kind → List ℕ → Lexeme
lexeme_of k text = record { token = record { kind = k; start = 0; end = 0 }; text = text }

-- the lexeme of a mark
abbrev pub mark_of : Mark → Lexeme
mark_of m = lexeme_of (kind.Mark m) []

-- the lexeme of a keyword
abbrev pub keyword_of : List ℕ → Lexeme
keyword_of text = lexeme_of kind.Keyword text

-- one that is what is asked
abbrev asked_for : Asked → Lexeme
asked_for (the_word w) = lexeme_of (kind.Word w) []
asked_for (the letters) = keyword_of letters
asked_for a_keyword = keyword_of []
asked_for a_name = lexeme_of (kind.Name 0) []
asked_for (the_mark m) = mark_of m
asked_for a_value = mark_of mark.Dollar

-- those of the first way, with an empty parameter list where it opens one, and what follows
abbrev first_way : List (Way Move) → (Section → List Lexeme) → List Lexeme
first_way [] later = []
first_way (way ∷ ways) later =
    asked_for way.asked
    ∷ (cond way.to.opens (mark_of mark.Close ∷ []) [] ++ later way.to.section)

-- the end of a text from so many sections on
abbrev closing : ℕ → Section → List Lexeme
closing zero o = []
closing (suc n) o = first_way (section_ways o (mark_of mark.Dollar)) (closing n)

-- some text goes on from the state
abbrev pub SomeEnd : State → Type 0
SomeEnd s = (xs : List Lexeme) × (f : File) × (ends xs s ≡ Some f)

-- the longest way to the end has 16 sections
section_ends : (o : Section) (w : Want) → is_some (ends (closing 16 o) (state_at o [] w)) ≡ true
section_ends section.Begin w = refl
section_ends _ w = refl

found : (o : Option File) → is_some o ≡ true → (f : File) × (o ≡ Some f)
found None e = absurd (cc e)
found (Some f) e = (f, refl)

-- one lexeme before it
one_before : (s : State) (x : Lexeme) (turn : Turn) → next_turn s x ≡ Some turn
    → SomeEnd turn.state → SomeEnd s
one_before s x turn is e = (
  x ∷ e.0,
  prepend turn.event e.1,
  ap (option_and_then (λ t. option_map (prepend t.event) (ends e.0 t.state))) is
      ∙ ap (option_map (prepend turn.event)) e.2,
)

module _ (o : Section) where
  at_section : (w : Want) → SomeEnd (state_at o [] w)
  at_section w = let f = found _ (section_ends o w) in (closing 16 o, f.0, f.1)

  next_ends : (fs : List Bracket) → SomeEnd (state_at o fs want.Next)
  next_ends [] = at_section want.Next
  next_ends (f ∷ fs) =
      one_before (state_at o (f ∷ fs) want.Next) (mark_of mark.Close)
      (turn_within o (nest fs want.Next)) refl (next_ends fs)

  parameter_ends : (f : Bracket) (fs : List Bracket) → SomeEnd (state_at o (f ∷ fs) want.Parameter)
  parameter_ends f fs =
      one_before (state_at o (f ∷ fs) want.Parameter) (mark_of mark.Dollar)
      (turn_within o (nest (f ∷ fs) want.Next)) refl (next_ends (f ∷ fs))

  some_end : (fs : List Bracket) (w : Want) → SomeEnd (state_at o fs w)
  some_end [] w = at_section w
  some_end (f ∷ fs) want.First =
      one_before (state_at o (f ∷ fs) want.First) (mark_of mark.Close)
      (turn_within o (nest fs want.Next)) refl (next_ends fs)
  some_end (f ∷ fs) want.Parameter = parameter_ends f fs
  some_end (f ∷ fs) want.Next = next_ends (f ∷ fs)
  some_end (f ∷ fs) want.Open =
      one_before (state_at o (f ∷ fs) want.Open) (mark_of mark.Open)
      (turn_within o (nest (f ∷ fs) want.Parameter)) refl (parameter_ends f fs)

-- from each state
pub some_text_goes_on : (s : State) → SomeEnd s
some_text_goes_on s = some_end s.section s.nest.brackets s.nest.want
