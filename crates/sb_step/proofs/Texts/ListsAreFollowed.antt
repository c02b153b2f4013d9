-- Parameter lists lead the machine to what stands behind them.
use Rattle.sb_step.proofs.Names.{◌≡◌, ◌-◌, ℕ, suc, ◌+◌, ◌<◌, ◌≤◌, Bool, true, false, cond, List, [], ◌∷◌, length, Some, None, refl, ap, ◌∙◌, arith, option_map, option_and_then, false≢true, cond-true, cond-false, lt-ltb, Kind, Section, Bracket, Want, Lexeme, IsKeyword, IsMark, is_value, is_close, greatest_depth, Parameter, ParameterList, MoreParameters, by_want, is_complex, room_of, State, next_turn, turn_within}
use Rattle.sb_lex.specs.declared.kinds.Kind.TheVariants as kind
use Rattle.sb_lex.specs.declared.kinds.Mark.TheVariants as mark
use Rattle.sb_step.specs.declared.indexing.states.Bracket.TheVariants as bracket
use Rattle.sb_step.specs.declared.indexing.states.Want.TheVariants as want
use Rattle.sb_step.specs.Grammar.Parameter.{value, list, typed}
use Rattle.sb_step.specs.Grammar.ParameterList.{empty, some}
use Rattle.sb_step.specs.Grammar.MoreParameters.{last, more}
use Rattle.sb_step.proofs.Texts.TurnsByWay.{nest}
use Rattle.sb_step.proofs.Texts.DepthIsCounted.{opens, closes, depth_without, depth}
use Rattle.sb_step.proofs.Texts.ReadingToTheEnd.{prepend, ends, by_kind, Shallow, Leads, one_leads, led_on}

-- no list of lexemes that is not empty begins with a closing parenthesis
abbrev pub NotClosed : List Lexeme → Type 0
NotClosed [] = ⊥
NotClosed (x ∷ xs) = is_close x.token.kind ≡ false

value_closes_none : (k : Kind) → is_value k ≡ true → is_close k ≡ false
value_closes_none (kind.Mark mark.Close) v = absurd (false≢true v)
value_closes_none _ v = refl

-- no parameter begins with one
pub not_closed : {xs rest : List Lexeme} → Parameter xs rest → NotClosed xs
not_closed (value {x = x} v) = value_closes_none x.token.kind v
not_closed (list (empty o c)) = ap is_close o
not_closed (list (some o p m)) = ap is_close o
not_closed (typed k o p c) = ap is_close k

-- where one more parenthesis may be open in all, there is room for one
room_by : (complex : Bool) (d : ℕ) → cond complex 1 0 + d + 1 ≤ greatest_depth
    → d < cond complex (greatest_depth - 1) greatest_depth
room_by true d fit = omega arith
room_by false d fit = omega arith

-- a parameter list is open
abbrev pub state_at : Section → List Bracket → Want → State
state_at o fs w = record { section = o; nest = nest fs w }

module _ (o : Section) where
  room_now : (d : ℕ) (x : Lexeme) (xs : List Lexeme) → Shallow (depth_without o + d) (x ∷ xs)
      → IsMark mark.Open x → d < room_of o
  room_now d x xs shallow opening =
      let here = shallow (x ∷ []) xs refl in
      let one : opens x.token.kind ≡ 1 = ap opens opening in
      let none : closes x.token.kind ≡ 0 = ap closes opening in
      room_by (is_complex o) d (omega (arith, here, one, none))

  room_next : (d : ℕ) (x y : Lexeme) (ys : List Lexeme)
      → Shallow (depth_without o + d) (x ∷ y ∷ ys) → IsKeyword x → IsMark mark.Open y
      → d < room_of o
  room_next d x y ys shallow keyword opening =
      let here = shallow (x ∷ y ∷ []) ys refl in
      let none_opens : opens x.token.kind ≡ 0 = ap opens keyword in
      let none_closes : closes x.token.kind ≡ 0 = ap closes keyword in
      let one : opens y.token.kind ≡ 1 = ap opens opening in
      let none : closes y.token.kind ≡ 0 = ap closes opening in
      room_by (is_complex o) d (omega (arith, here, none_opens, none_closes, one, none))

  -- one lexeme of a kind within a list
  turned : (fs : List Bracket) (w : Want) (gs : List Bracket) (v : Want) (x : Lexeme)
      (xs : List Lexeme) (k : Kind) → x.token.kind ≡ k
      → by_want w (room_of o) fs k ≡ Some (nest gs v)
      → next_turn (state_at o fs w) x ≡ option_map (turn_within o) (by_want w (room_of o) fs x.token.kind)
      → Shallow (depth (state_at o fs w)) (x ∷ xs)
      → Leads (state_at o fs w) (x ∷ xs) (state_at o gs v) xs (λ f. f)
  turned fs w gs v x xs k is moves begins shallow =
      one_leads (state_at o fs w) x xs (turn_within o (nest gs v))
      (begins ∙ ap (λ q. option_map (turn_within o) (by_want w (room_of o) fs q)) is ∙ ap (option_map (turn_within o)) moves)
      shallow

  -- what begins a parameter may begin one where a list may end
  as_first : (f : Bracket) (fs : List Bracket) {xs rest : List Lexeme} → NotClosed xs
      → Leads (state_at o (f ∷ fs) want.Parameter) xs (state_at o (f ∷ fs) want.Next) rest (λ g. g)
      → Leads (state_at o (f ∷ fs) want.First) xs (state_at o (f ∷ fs) want.Next) rest (λ g. g)
  as_first f fs {xs = []} head l = absurd head
  as_first f fs {xs = x ∷ xs} head l = record {
    shallow = l.shallow;
    leads = λ g e.
        ap (λ n. option_and_then (λ t. option_map (prepend t.event) (ends xs t.state)) (option_map (turn_within o) n))
        (cond-false (is_close x.token.kind) _ _ head) ∙ l.leads g e;
  }

  mutual
    parameter_leads : {xs rest : List Lexeme} → Parameter xs rest → (f : Bracket)
        (fs : List Bracket) → Shallow (depth (state_at o (f ∷ fs) want.Parameter)) xs
        → Leads (state_at o (f ∷ fs) want.Parameter) xs (state_at o (f ∷ fs) want.Next) rest (λ g. g)
    parameter_leads (value {x = x} {rest = xs} v) f fs shallow =
        turned (f ∷ fs) want.Parameter (f ∷ fs) want.Next x xs x.token.kind refl
        (cond-true (is_value x.token.kind) _ _ v) refl shallow
    parameter_leads (list l) f fs shallow =
        list_leads l (state_at o (f ∷ fs) want.Parameter) (f ∷ fs)
        (λ x xs opening deep. by_kind (state_at o (f ∷ fs) want.Parameter) x (kind.Mark mark.Open) _
        opening (ap (option_map (turn_within o)) (cond-true _ _ None
        (lt-ltb (suc (length fs)) (room_of o) (room_now (suc (length fs)) x xs deep opening)))))
        shallow
    parameter_leads (typed {keyword = x} {open_mark = y} {close_mark = z} {xs = xs} {rest = rest}
        keyword opening p closing) f fs shallow =
        let here = turned (f ∷ fs) want.Parameter (bracket.Typed ∷ f ∷ fs) want.Open x (y ∷ xs)
        kind.Keyword keyword (cond-true _ _ None (lt-ltb (suc (length fs)) (room_of o)
        (room_next (suc (length fs)) x y xs shallow keyword opening))) refl shallow in
        let opened = turned (bracket.Typed ∷ f ∷ fs) want.Open (bracket.Typed ∷ f ∷ fs)
        want.Parameter y xs (kind.Mark mark.Open) opening refl refl here.shallow in
        let inner = parameter_leads p bracket.Typed (f ∷ fs) opened.shallow in
        led_on here (led_on opened (led_on inner (turned (bracket.Typed ∷ f ∷ fs) want.Next
        (f ∷ fs) want.Next z rest (kind.Mark mark.Close) closing refl refl inner.shallow)))

    -- a list, where its parenthesis leads to its first parameter
    pub list_leads : {xs rest : List Lexeme} → ParameterList xs rest → (s : State)
        (fs : List Bracket) → ((x : Lexeme) (ys : List Lexeme) → IsMark mark.Open x
        → Shallow (depth s) (x ∷ ys)
        → next_turn s x ≡ Some (turn_within o (nest (bracket.List ∷ fs) want.First)))
        → Shallow (depth s) xs → Leads s xs (state_at o fs want.Next) rest (λ g. g)
    list_leads (empty {open_mark = x} {close_mark = y} {rest = rest} opening closing) s fs turn
        shallow =
        let here = one_leads s x (y ∷ rest) _ (turn x (y ∷ rest) opening shallow) shallow in
        led_on here (turned (bracket.List ∷ fs) want.First fs want.Next y rest
        (kind.Mark mark.Close) closing refl refl here.shallow)
    list_leads (some {open_mark = x} {xs = xs} opening p m) s fs turn shallow =
        let here = one_leads s x xs _ (turn x xs opening shallow) shallow in
        let first = as_first bracket.List fs (not_closed p)
        (parameter_leads p bracket.List fs here.shallow) in
        led_on here (led_on first (more_leads m fs first.shallow))

    more_leads : {xs rest : List Lexeme} → MoreParameters xs rest → (fs : List Bracket)
        → Shallow (depth (state_at o (bracket.List ∷ fs) want.Next)) xs
        → Leads (state_at o (bracket.List ∷ fs) want.Next) xs (state_at o fs want.Next) rest (λ g. g)
    more_leads (last {close_mark = x} {rest = rest} closing) fs shallow =
        turned (bracket.List ∷ fs) want.Next fs want.Next x rest (kind.Mark mark.Close) closing refl
        refl shallow
    more_leads (more {comma = x} {xs = xs} comma p m) fs shallow =
        let here = turned (bracket.List ∷ fs) want.Next (bracket.List ∷ fs) want.Parameter x xs
        (kind.Mark mark.Comma) comma refl refl shallow in
        let one = parameter_leads p bracket.List fs here.shallow in
        led_on here (led_on one (more_leads m fs one.shallow))
