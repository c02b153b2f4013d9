-- The grammar as a machine that reads one lexeme after another. The proofs join this to the
-- grammar: the machine goes on exactly where some text does.
use Rattle.std.specs.Prelude.{◌≡◌, ◌-◌, ℕ, Bool, true, false, if◌then◌else◌, List, [], ◌∷◌, Option, Some, None, option_map, option_and_then}
use Rattle.sb_lex.specs.declared.kinds.Kind.{Kind}
use Rattle.sb_step.specs.declared.step_file.records.Record.{Record}
use Rattle.sb_step.specs.declared.indexing.states.Section.{Section}
use Rattle.sb_step.specs.declared.indexing.states.Section.TheVariants as section
use Rattle.sb_step.specs.declared.indexing.states.Bracket.{Bracket}
use Rattle.sb_step.specs.declared.indexing.states.Bracket.TheVariants as bracket
use Rattle.sb_step.specs.declared.indexing.states.Want.{Want}
use Rattle.sb_step.specs.declared.indexing.states.Want.TheVariants as want
use Rattle.sb_step.specs.declared.indexing.states.Event.{Event}
use Rattle.sb_step.specs.declared.indexing.states.Event.TheVariants as event
use Rattle.sb_step.specs.declared.indexing.states.Move.{Move}
use Rattle.sb_step.specs.Lexemes.{Lexeme}
use Rattle.sb_step.specs.Grammar.{greatest_depth, File}
use Rattle.sb_step.specs.Index.SectionMoves.{section_move}
use Rattle.sb_step.specs.Index.ListMoves.{Nest, by_want}

-- what was read so far: what is wanted outside of the parameter list that is open, and this
pub record State : Type 0 where
  pub section : Section
  pub nest : Nest

-- a state, and what was found on the way to it
pub record Turn : Type 0 where
  pub state : State
  pub event : Event

-- where no parameter list is open
abbrev pub plain : Nest
plain = record { brackets = []; want = want.Next }

-- where a parameter list has just begun
abbrev pub begun : Nest
begun = record { brackets = bracket.List ∷ []; want = want.First }

-- the parenthesis of a complex record is open
abbrev pub is_complex : Section → Bool
is_complex (section.FirstRecord p) = true
is_complex (section.RecordOpen p) = true
is_complex (section.NextRecord p) = true
is_complex _ = false

-- how many parentheses of parameters may be open
abbrev pub room_of : Section → ℕ
room_of o = if is_complex o then (greatest_depth - 1) else greatest_depth

-- the turn where no parameter list was open
abbrev pub turn_of : Move → Turn
turn_of m = record {
  state = record { section = m.section; nest = if m.opens then begun else plain };
  event = m.event;
}

-- the turn where one was
abbrev pub turn_within : Section → Nest → Turn
turn_within o n = record { state = record { section = o; nest = n }; event = event.Nothing }

-- one lexeme more
abbrev pub next_turn_at : Section → List Bracket → Want → Lexeme → Option Turn
next_turn_at o [] w x = option_map turn_of (section_move o x)
next_turn_at o (f ∷ fs) w x =
    option_map (turn_within o) (by_want w (room_of o) (f ∷ fs) x.token.kind)

-- the same from a state
abbrev pub next_turn : State → Lexeme → Option Turn
next_turn s x = next_turn_at s.section s.nest.brackets s.nest.want x

-- what a machine answers: what was found, if the lexeme may stand there
abbrev pub Advances : State → Lexeme → Option Event → State → Type 0
Advances s x None t = next_turn s x ≡ None
Advances s x (Some g) t = next_turn s x ≡ Some (record { state = t; event = g })

-- the same where a parameter list is open, for which the kind is enough
abbrev pub AdvancesList : State → Kind → Option Event → State → Type 0
AdvancesList s k None t = option_map (turn_within s.section)
    (by_want s.nest.want (room_of s.section) s.nest.brackets k) ≡ None
AdvancesList s k (Some g) t = option_map (turn_within s.section)
    (by_want s.nest.want (room_of s.section) s.nest.brackets k)
    ≡ Some (record { state = t; event = g })

-- before the first lexeme
abbrev pub start : State
start = record { section = section.Begin; nest = plain }

-- the end of the data, behind the last semicolon of a text
abbrev pub end_at : Section → List Bracket → Option ℕ
end_at (section.End k) [] = Some k
end_at _ _ = None

-- the same of a state
abbrev pub end_of : State → Option ℕ
end_of s = end_at s.section s.nest.brackets

-- the records of entities among what was found
abbrev pub entities_of : List Event → List Record
entities_of [] = []
entities_of (event.Nothing ∷ events) = entities_of events
entities_of (event.Entity r ∷ events) = r ∷ entities_of events
entities_of (event.Instance n r ∷ events) = entities_of events

-- the instances among it
abbrev pub instances_of : List Event → List (ℕ × Record)
instances_of [] = []
instances_of (event.Nothing ∷ events) = instances_of events
instances_of (event.Entity r ∷ events) = instances_of events
instances_of (event.Instance n r ∷ events) = (n, r) ∷ instances_of events

-- the file of what was found in a text
abbrev pub file_of : List Event → ℕ → File
file_of events k =
    record { header = entities_of events; instances = instances_of events; data_end = k }

-- where a run ends, and what was found on it
pub record Ran : Type 0 where
  pub state : State
  pub events : List Event

-- a run with one event before it
abbrev pub and_ran : Event → Option Ran → Option Ran
and_ran x found = option_map (λ r. record { state = r.state; events = x ∷ r.events }) found

-- a run over the lexemes
abbrev pub run : List Lexeme → State → Option Ran
run [] s = Some (record { state = s; events = [] })
run (x ∷ xs) s = option_and_then (λ t. and_ran t.event (run xs t.state)) (next_turn s x)
