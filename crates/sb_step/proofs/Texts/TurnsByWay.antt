-- Each turn of the machine is by one of the ways of its state.
use Rattle.sb_step.proofs.Names.{◌≡◌, ℕ, Bool, true, false, cond, List, [], ◌∷◌, length, Option, Some, None, refl, sym, ap, ◌∙◌, subst, ⊎_elim, nat_lt, same_Some, none-some, Section, Bracket, Want, Lexeme, IsWord, IsKeyword, IsThe, IsName, IsMark, IsValue, is_value, is_open, is_close, is_keyword, number_of, Asked, passes, Way, pick, ◌⇢◌, the_word, the, a_keyword, a_name, the_mark, a_value, section_ways, section_move, Nest, parameter, by_want, Turn, room_of, next_turn_at, turn_of, turn_within, option_map}
use Rattle.sb_lex.specs.declared.kinds.Mark.TheVariants as mark
use Rattle.sb_lex.specs.declared.kinds.Word.TheVariants as word
use Rattle.sb_step.specs.declared.indexing.states.Bracket.TheVariants as bracket
use Rattle.sb_step.specs.declared.indexing.states.Want.TheVariants as want
use Rattle.sb_step.proofs.KindsSay.{mark_says, first_says, last_says, keyword_says, name_says, the_says, choice}

-- the lexeme is what is asked
abbrev pub IsAsked : Asked → Lexeme → Type 0
IsAsked (the_word w) x = IsWord w x
IsAsked (the letters) x = IsThe letters x
IsAsked a_keyword x = IsKeyword x
IsAsked a_name x = IsName (number_of x.token.kind) x
IsAsked (the_mark m) x = IsMark m x
IsAsked a_value x = IsValue x

passed : (asked : Asked) (x : Lexeme) → passes asked x ≡ true → IsAsked asked x
passed (the_word word.First) x holds = first_says x.token.kind holds
passed (the_word word.Last) x holds = last_says x.token.kind holds
passed (the letters) x holds = the_says letters x holds
passed a_keyword x holds = keyword_says x.token.kind holds
passed a_name x holds = name_says x.token.kind holds
passed (the_mark m) x holds = mark_says m x.token.kind holds
passed a_value x holds = holds

-- it holds of where each of the ways leads, if the lexeme is what that way asks
abbrev pub EachWay : {A : Type 0} → (A → Type 0) → Lexeme → List (Way A) → Type 0
EachWay Q x [] = Unit {0}
EachWay Q x (way ∷ ways) = (IsAsked way.asked x → Q way.to) × EachWay Q x ways

-- so it holds of where the lexeme leads
picked : {A : Type 0} (Q : A → Type 0) (x : Lexeme) (ways : List (Way A)) → EachWay Q x ways
    → (a : A) → pick ways x ≡ Some a → Q a
picked Q x [] each a is = absurd (none-some a is)
picked Q x (way ∷ ways) each a is =
    ⊎_elim
    (λ here. subst Q (same_Some way.to a here.1) (each.0 (passed way.asked x here.0)))
    (λ later. picked Q x ways each.1 a later.1)
    (choice (passes way.asked x) (Some way.to) (pick ways x) a is)

-- within parameter lists

-- a nest of parentheses
abbrev pub nest : List Bracket → Want → Nest
nest fs w = record { brackets = fs; want = w }

-- the ways of a parameter, where there is room for a further parenthesis or none
abbrev pub parameter_ways : Bool → List Bracket → List (Way Nest)
parameter_ways true fs =
    a_value ⇢ nest fs want.Next
    ∷ the_mark mark.Open ⇢ nest (bracket.List ∷ fs) want.First
    ∷ a_keyword ⇢ nest (bracket.Typed ∷ fs) want.Open ∷ []
parameter_ways false fs = a_value ⇢ nest fs want.Next ∷ []

-- behind a parameter
abbrev pub further_ways : Bracket → List Bracket → List (Way Nest)
further_ways bracket.List fs =
    the_mark mark.Comma ⇢ nest (bracket.List ∷ fs) want.Parameter ∷ []
further_ways bracket.Typed fs = []

-- the ways where a parenthesis is open
abbrev pub list_ways : Want → Bool → Bracket → List Bracket → List (Way Nest)
list_ways want.First room f fs =
    the_mark mark.Close ⇢ nest fs want.Next ∷ parameter_ways room (f ∷ fs)
list_ways want.Parameter room f fs = parameter_ways room (f ∷ fs)
list_ways want.Next room f fs = the_mark mark.Close ⇢ nest fs want.Next ∷ further_ways f fs
list_ways want.Open room f fs = the_mark mark.Open ⇢ nest (f ∷ fs) want.Parameter ∷ []

nothing : (a b : Bool) → cond {A = Option Nest} a None (cond b None None) ≡ None
nothing true b = refl
nothing false true = refl
nothing false false = refl

parameter_by_ways : (room : ℕ) (fs : List Bracket) (x : Lexeme)
    → parameter room fs x.token.kind ≡ pick (parameter_ways (nat_lt (length fs) room) fs) x
parameter_by_ways room fs x = by (nat_lt (length fs) room)
  where
    by : (room : Bool) → cond (is_value x.token.kind) (Some (nest fs want.Next))
        (cond (is_open x.token.kind) (cond room (Some (nest (bracket.List ∷ fs) want.First)) None)
        (cond (is_keyword x.token.kind)
        (cond room (Some (nest (bracket.Typed ∷ fs) want.Open)) None) None))
        ≡ pick (parameter_ways room fs) x
    by true = refl
    by false = ap (cond (is_value x.token.kind) (Some (nest fs want.Next)))
        (nothing (is_open x.token.kind) (is_keyword x.token.kind))

list_by_ways : (w : Want) (room : ℕ) (f : Bracket) (fs : List Bracket) (x : Lexeme)
    → by_want w room (f ∷ fs) x.token.kind
    ≡ pick (list_ways w (nat_lt (length (f ∷ fs)) room) f fs) x
list_by_ways want.First room f fs x =
    ap (cond (is_close x.token.kind) (Some (nest fs want.Next))) (parameter_by_ways room (f ∷ fs) x)
list_by_ways want.Parameter room f fs x = parameter_by_ways room (f ∷ fs) x
list_by_ways want.Next room bracket.List fs x = refl
list_by_ways want.Next room bracket.Typed fs x = refl
list_by_ways want.Open room f fs x = refl

-- turns

-- it holds of the turn by each way of the state
abbrev pub EachTurn : (Turn → Type 0) → Section → List Bracket → Want → Lexeme → Type 0
EachTurn Q o [] w x = EachWay (λ m. Q (turn_of m)) x (section_ways o x)
EachTurn Q o (f ∷ fs) w x =
    EachWay (λ n. Q (turn_within o n)) x
    (list_ways w (nat_lt (length (f ∷ fs)) (room_of o)) f fs)

-- where something is found of what was found, something was
pub mapped : {A B : Type 0} (g : A → B) (found : Option A) (b : B) → option_map g found ≡ Some b
    → (a : A) × (found ≡ Some a) × (g a ≡ b)
mapped g None b is = absurd (none-some b is)
mapped g (Some a) b is = (a, refl, same_Some (g a) b is)

-- so it holds of the turn that is made
pub each_turned : (Q : Turn → Type 0) (o : Section) (fs : List Bracket) (w : Want) (x : Lexeme)
    → EachTurn Q o fs w x → (turn : Turn) → next_turn_at o fs w x ≡ Some turn → Q turn
each_turned Q o [] w x each turn is =
    let m = mapped turn_of (section_move o x) turn is in
    subst Q m.2 (picked (λ m. Q (turn_of m)) x (section_ways o x) each m.0 m.1)
each_turned Q o (f ∷ fs) w x each turn is =
    let ways = list_ways w (nat_lt (length (f ∷ fs)) (room_of o)) f fs in
    let n = mapped (turn_within o) (by_want w (room_of o) (f ∷ fs) x.token.kind) turn is in
    subst Q n.2 (picked (λ n. Q (turn_within o n)) x ways each n.0
    (sym (list_by_ways w (room_of o) f fs x) ∙ n.1))
