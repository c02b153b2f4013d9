-- The machine keeps count of the parentheses that are open.
use Rattle.sb_step.proofs.Names.{◌≡◌, ◌-◌, ℕ, suc, ◌+◌, ◌≤◌, Bool, true, false, cond, List, [], ◌∷◌, length, Some, refl, ap, arith, nat_lt, false≢true, ltb-true, Kind, greatest_depth, Section, Bracket, Want, Move, Lexeme, is_value, is_open, is_close, Asked, Way, the_word, the, a_keyword, a_name, the_mark, a_value, section_ways, Nest, plain, begun, State, Turn, is_complex, room_of, next_turn, turn_of}
use Rattle.sb_lex.specs.declared.kinds.Kind.TheVariants as kind
use Rattle.sb_lex.specs.declared.kinds.Mark.TheVariants as mark
use Rattle.sb_step.specs.declared.indexing.states.Section.TheVariants as section
use Rattle.sb_step.specs.declared.indexing.states.Bracket.TheVariants as bracket
use Rattle.sb_step.specs.declared.indexing.states.Want.TheVariants as want
use Rattle.sb_step.proofs.Texts.TurnsByWay.{IsAsked, EachWay, parameter_ways, list_ways, EachTurn, each_turned}

-- one parenthesis more, or none
abbrev pub opens : Kind → ℕ
opens k = cond (is_open k) 1 0

-- one parenthesis less, or none
abbrev pub closes : Kind → ℕ
closes k = cond (is_close k) 1 0

-- how many are open in parameter lists
abbrev pub depth_within : List Bracket → Want → ℕ
depth_within [] w = 0
depth_within (f ∷ fs) want.Open = length fs
depth_within (f ∷ fs) want.First = suc (length fs)
depth_within (f ∷ fs) want.Parameter = suc (length fs)
depth_within (f ∷ fs) want.Next = suc (length fs)

-- and outside of them
abbrev pub depth_without : Section → ℕ
depth_without o = cond (is_complex o) 1 0

-- how many parentheses are open
abbrev pub depth : State → ℕ
depth s = depth_without s.section + depth_within s.nest.brackets s.nest.want

-- no more are open, a typed parameter's among them before it is there, than there may be
abbrev pub Fits : State → Type 0
Fits s = length s.nest.brackets ≤ room_of s.section

-- the count goes from one number to the other
abbrev pub Counts : ℕ → Kind → ℕ → Type 0
Counts before k after = after + closes k ≡ before + opens k

-- the table counts

-- how many parentheses what is asked opens, and how many it closes
abbrev opened_by : Asked → ℕ
opened_by (the_mark m) = opens (kind.Mark m)
opened_by _ = 0

abbrev closed_by : Asked → ℕ
closed_by (the_mark m) = closes (kind.Mark m)
closed_by _ = 0

value_counts : (k : Kind) → is_value k ≡ true → (opens k ≡ 0) × (closes k ≡ 0)
value_counts (kind.Mark mark.Open) v = absurd (false≢true v)
value_counts (kind.Mark mark.Close) v = absurd (false≢true v)
value_counts _ v = (refl, refl)

asked_counts : (asked : Asked) (x : Lexeme) → IsAsked asked x
    → (opens x.token.kind ≡ opened_by asked) × (closes x.token.kind ≡ closed_by asked)
asked_counts (the_word w) x is = (ap opens is, ap closes is)
asked_counts (the letters) x is = (ap opens is.keyword, ap closes is.keyword)
asked_counts a_keyword x is = (ap opens is, ap closes is)
asked_counts a_name x is = (ap opens is, ap closes is)
asked_counts (the_mark m) x is = (ap opens is, ap closes is)
asked_counts a_value x is = value_counts x.token.kind is

-- each of the ways counts what it asks
abbrev WaysCount : {A : Type 0} → ℕ → (A → ℕ) → List (Way A) → Type 0
WaysCount before after [] = Unit {0}
WaysCount before after (way ∷ ways) =
    (after way.to + closed_by way.asked ≡ before + opened_by way.asked)
    × WaysCount before after ways

-- so each of them counts, with what is open besides
each_counts : {A : Type 0} (add before start : ℕ) (after end : A → ℕ) (x : Lexeme)
    (ways : List (Way A)) → start ≡ add + before → ((a : A) → end a ≡ add + after a)
    → WaysCount before after ways → EachWay (λ a. Counts start x.token.kind (end a)) x ways
each_counts add before start after end x [] first last count = tt
each_counts add before start after end x (way ∷ ways) first last count = (
  λ is.
      let both = asked_counts way.asked x is in
      let there = last way.to in
      omega (arith, count.0, both.0, both.1, there),
  each_counts add before start after end x ways first last count.1,
)

section_counts : (o : Section) (x : Lexeme)
    → WaysCount (depth_without o + 0) (λ m. depth (turn_of m).state) (section_ways o x)
section_counts section.Entities x = (refl, (refl, tt))
section_counts (section.EntityOrEnd s) x = (refl, (refl, tt))
section_counts section.Instances x = (refl, (refl, tt))
section_counts (section.Body n) x = (refl, (refl, tt))
section_counts (section.NextRecord p) x = (refl, (refl, tt))
section_counts (section.End k) x = tt
section_counts _ x = (refl, tt)

-- the count within a nest
abbrev within : Nest → ℕ
within n = depth_within n.brackets n.want

shut_counts : (fs : List Bracket) → depth_within fs want.Next + 1 ≡ suc (length fs) + 0
shut_counts [] = refl
shut_counts (f ∷ fs) = omega arith

parameters_count : (room : Bool) (f : Bracket) (fs : List Bracket)
    → WaysCount (suc (length fs)) within (parameter_ways room (f ∷ fs))
parameters_count true f fs = (refl, (omega arith, (refl, tt)))
parameters_count false f fs = (refl, tt)

lists_count : (w : Want) (room : Bool) (f : Bracket) (fs : List Bracket)
    → WaysCount (depth_within (f ∷ fs) w) within (list_ways w room f fs)
lists_count want.First room f fs = (shut_counts fs, parameters_count room f fs)
lists_count want.Parameter room f fs = parameters_count room f fs
lists_count want.Next room bracket.List fs = (shut_counts fs, (refl, tt))
lists_count want.Next room bracket.Typed fs = (shut_counts fs, tt)
lists_count want.Open room f fs = (omega arith, tt)

turns_count : (o : Section) (fs : List Bracket) (w : Want) (x : Lexeme)
    → EachTurn (λ t. Counts (depth_without o + depth_within fs w) x.token.kind (depth t.state))
    o fs w x
turns_count o [] w x =
    each_counts 0 (depth_without o + 0) _ (λ m. depth (turn_of m).state) _ x (section_ways o x)
    (omega arith) (λ m. omega arith) (section_counts o x)
turns_count o (f ∷ fs) w x =
    each_counts (depth_without o) (depth_within (f ∷ fs) w) _ within _ x _ refl (λ n. refl)
    (lists_count w (nat_lt (length (f ∷ fs)) (room_of o)) f fs)

-- each step of the machine counts
pub turn_counts : (s : State) (x : Lexeme) (turn : Turn) → next_turn s x ≡ Some turn
    → Counts (depth s) x.token.kind (depth turn.state)
turn_counts s x turn is =
    each_turned (λ t. Counts (depth s) x.token.kind (depth t.state)) s.section s.nest.brackets
    s.nest.want x (turns_count s.section s.nest.brackets s.nest.want x) turn is

-- and keeps to the room that there is

begun_fits : (complex begins : Bool)
    → length (cond begins begun plain).brackets ≤ cond complex (greatest_depth - 1) greatest_depth
begun_fits true true = omega arith
begun_fits true false = omega arith
begun_fits false true = omega arith
begun_fits false false = omega arith

sections_fit : (x : Lexeme) (ways : List (Way Move)) → EachWay (λ m. Fits (turn_of m).state) x ways
sections_fit x [] = tt
sections_fit x (way ∷ ways) =
    (λ is. begun_fits (is_complex way.to.section) way.to.opens, sections_fit x ways)

module _ (limit : ℕ) (x : Lexeme) (fs : List Bracket) (fit : suc (length fs) ≤ limit) where
  abbrev FitsIn : Nest → Type 0
  FitsIn n = length n.brackets ≤ limit

  parameters_fit : (room : Bool) → nat_lt (suc (length fs)) limit ≡ room → (f : Bracket)
      → EachWay FitsIn x (parameter_ways room (f ∷ fs))
  parameters_fit true some f =
      let less = ltb-true (suc (length fs)) limit some in
      (λ is. fit, (λ is. omega (arith, less), (λ is. omega (arith, less), tt)))
  parameters_fit false none f = (λ is. fit, tt)

  lists_fit : (w : Want) (room : Bool) → nat_lt (suc (length fs)) limit ≡ room → (f : Bracket)
      → EachWay FitsIn x (list_ways w room f fs)
  lists_fit want.First room is f = (λ is. omega arith, parameters_fit room is f)
  lists_fit want.Parameter room is f = parameters_fit room is f
  lists_fit want.Next room is bracket.List = (λ is. omega arith, (λ is. fit, tt))
  lists_fit want.Next room is bracket.Typed = (λ is. omega arith, tt)
  lists_fit want.Open room is f = (λ is. fit, tt)

turns_fit : (o : Section) (fs : List Bracket) (w : Want) (x : Lexeme) → length fs ≤ room_of o
    → EachTurn (λ t. Fits t.state) o fs w x
turns_fit o [] w x fit = sections_fit x (section_ways o x)
turns_fit o (f ∷ fs) w x fit = lists_fit (room_of o) x fs fit w _ refl f

pub turn_fits : (s : State) (x : Lexeme) (turn : Turn) → Fits s → next_turn s x ≡ Some turn
    → Fits turn.state
turn_fits s x turn fit is =
    each_turned (λ t. Fits t.state) s.section s.nest.brackets s.nest.want x
    (turns_fit s.section s.nest.brackets s.nest.want x fit) turn is
