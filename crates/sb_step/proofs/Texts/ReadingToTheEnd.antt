-- What the machine finds from a state to the end of a text, and how it is led there.
use Rattle.sb_step.proofs.Names.{◌≡◌, ℕ, ◌+◌, ◌≤◌, List, [], ◌∷◌, ◌++◌, Option, Some, sym, ap, ◌∙◌, subst, arith, codes, option_map, option_and_then, sum_by-cons, Kind, Section, Event, Lexeme, IsWord, IsThe, opened, closed, Rule, One, Each, greatest_depth, File, Semicolon, IsInstance, EndOfData, State, Turn, plain, next_turn, end_of}
use Rattle.sb_step.specs.declared.indexing.states.Event.TheVariants as event
use Rattle.sb_lex.specs.declared.kinds.Word.TheVariants as word
use Rattle.sb_step.specs.Rules.{◌⋅◌}
use Rattle.sb_step.proofs.Texts.DepthIsCounted.{opens, closes, depth, Counts, turn_counts}

-- what was found, before what is still to come
abbrev pub prepend : Event → File → File
prepend event.Nothing f = f
prepend (event.Entity r) f = record f { header = r ∷ f.header }
prepend (event.Instance n r) f = record f { instances = (n, r) ∷ f.instances }

-- the file of which nothing is still to come but this
abbrev pub no_more : ℕ → File
no_more k = record { header = []; instances = []; data_end = k }

-- the end of a text, from that of its data on
abbrev pub End : ℕ → Rule
End k = EndOfData k ⋅ Semicolon ⋅ One (IsWord word.Last) ⋅ Semicolon

-- the data of a text, and its end
abbrev pub Data : File → Rule
Data f = One (IsThe (codes "DATA")) ⋅ Semicolon ⋅ Each IsInstance f.instances ⋅ End f.data_end

-- what stands behind the entities of a header
abbrev pub BehindEntities : File → Rule
BehindEntities f = One (IsThe (codes "ENDSEC")) ⋅ Semicolon ⋅ Data f

-- what is found from a state on, if the lexemes lead to the end of a text
abbrev pub ends : List Lexeme → State → Option File
ends [] s = option_map no_more (end_of s)
ends (x ∷ xs) s =
    option_and_then (λ t. option_map (prepend t.event) (ends xs t.state)) (next_turn s x)

-- where no parameter list is open
abbrev pub at : Section → State
at o = record { section = o; nest = plain }

-- the lexeme with another kind
abbrev pub with_kind : Kind → Lexeme → Lexeme
with_kind k x = record {
  token = record { kind = k; start = x.token.start; end = x.token.end };
  text = x.text;
}

-- the kind tells the turn
pub by_kind : (s : State) (x : Lexeme) (k : Kind) (turn : Turn) → x.token.kind ≡ k
    → next_turn s (with_kind k x) ≡ Some turn → next_turn s x ≡ Some turn
by_kind s x k turn is next = ap (λ q. next_turn s (with_kind q x)) is ∙ next

-- depth along a text

-- where so many are open, at no place more than 64 are
abbrev pub Shallow : ℕ → List Lexeme → Type 0
Shallow d xs = (front back : List Lexeme) → xs ≡ front ++ back → d + opened front ≤ closed front
    + greatest_depth

-- one lexeme more opens this
pub opened-more : (x : Lexeme) (xs : List Lexeme)
    → opened (x ∷ xs) ≡ opens x.token.kind + opened xs
opened-more x xs = sum_by-cons (λ z. opens z.token.kind) x xs

-- and closes this
pub closed-more : (x : Lexeme) (xs : List Lexeme)
    → closed (x ∷ xs) ≡ closes x.token.kind + closed xs
closed-more x xs = sum_by-cons (λ z. closes z.token.kind) x xs

shallow_later : (d e : ℕ) (x : Lexeme) (xs : List Lexeme) → Counts d x.token.kind e
    → Shallow d (x ∷ xs) → Shallow e xs
shallow_later d e x xs counts shallow front back same =
    let here : d + opened (x ∷ front) ≤ closed (x ∷ front) + greatest_depth =
    shallow (x ∷ front) back (ap (λ l. x ∷ l) same) in
    omega (arith, here, counts, opened-more x front, closed-more x front)

-- the machine is led from one state to the other, and what it finds then becomes this
pub record Leads (s : State) (xs : List Lexeme) (t : State) (rest : List Lexeme)
    (g : File → File) : Type 0 where
  pub shallow : Shallow (depth t) rest
  pub leads : (f : File) → ends rest t ≡ Some f → ends xs s ≡ Some (g f)

-- by one lexeme
pub one_leads : (s : State) (x : Lexeme) (xs : List Lexeme) (turn : Turn)
    → next_turn s x ≡ Some turn → Shallow (depth s) (x ∷ xs)
    → Leads s (x ∷ xs) turn.state xs (prepend turn.event)
one_leads s x xs turn is shallow = record {
  shallow = shallow_later (depth s) (depth turn.state) x xs (turn_counts s x turn is) shallow;
  leads = λ f e.
      ap (option_and_then (λ t. option_map (prepend t.event) (ends xs t.state))) is
      ∙ ap (option_map (prepend turn.event)) e;
}

-- and on from there
pub led_on : {s t u : State} {xs ys zs : List Lexeme} {g h : File → File} → Leads s xs t ys g
    → Leads t ys u zs h → Leads s xs u zs (λ f. g (h f))
led_on {h = h} one other = record {
  shallow = other.shallow;
  leads = λ f e. one.leads (h f) (other.leads f e);
}

-- what the rule describes leads it so
abbrev pub Drives : Rule → State → State → (File → File) → Type 0
Drives P s t g = (xs rest : List Lexeme) → P xs rest → Shallow (depth s) xs → Leads s xs t rest g

-- one lexeme with which the turn is made
pub one_drives : (P : Lexeme → Type 0) (s : State) (turn : Turn)
    → ((x : Lexeme) → P x → next_turn s x ≡ Some turn)
    → Drives (One P) s turn.state (prepend turn.event)
one_drives P s turn next [] rest one shallow = absurd one
one_drives P s turn next (x ∷ xs) rest one shallow =
    subst (λ l. Leads s (x ∷ xs) turn.state l (prepend turn.event)) (sym one.1)
    (one_leads s x xs turn (next x one.0) shallow)

-- one of this kind
pub kind_drives : (k : Kind) (s : State) (turn : Turn)
    → ((x : Lexeme) → next_turn s (with_kind k x) ≡ Some turn)
    → Drives (One (λ x. x.token.kind ≡ k)) s turn.state (prepend turn.event)
kind_drives k s turn next =
    one_drives (λ x. x.token.kind ≡ k) s turn (λ x is. by_kind s x k turn is (next x))

-- one rule and another
pub joined_drive : {P Q : Rule} {s t u : State} {g h : File → File} → Drives P s t g
    → Drives Q t u h → Drives (P ⋅ Q) s u (λ f. g (h f))
joined_drive p q xs rest j shallow =
    let one = p xs j.middle j.first shallow in
    led_on one (q j.middle rest j.second one.shallow)

-- one of each item
abbrev pub each_of : {A : Type 0} → (A → File → File) → List A → File → File
each_of add [] f = f
each_of add (a ∷ items) f = add a (each_of add items f)

pub each_drive : {A : Type 0} (P : A → Rule) (s : State) (add : A → File → File)
    → ((a : A) → Drives (P a) s s (add a)) → (items : List A)
    → Drives (Each P items) s s (each_of add items)
each_drive P s add drive [] xs rest each shallow =
    subst (λ l. Leads s xs s l (λ f. f)) (sym each) (record { shallow = shallow; leads = λ f e. e })
each_drive P s add drive (a ∷ items) xs rest each shallow =
    let one = drive a xs each.middle each.first shallow in
    led_on one (each_drive P s add drive items each.middle rest each.second one.shallow)
