-- What the machine reads to its end is a text, and describes what was found.
use Rattle.sb_step.proofs.Names.{◌≡◌, ◌-◌, ℕ, ◌+◌, ◌≤◌, ◌⊎◌, Bool, true, false, cond, List, [], ◌∷◌, ◌++◌, length, Some, refl, sym, ap, subst, inl, inr, ⊎_elim, arith, codes, nat_lt, option_map, same_Some, none-some, option_and_then_some, Record, Span, Part, Section, Bracket, Want, Event, Lexeme, IsWord, IsKeyword, IsThe, IsName, IsMark, opened, closed, Rule, One, Many, Each, SomeOf, none, File, IsText, greatest_depth, Semicolon, SemicolonAt, Parameter, ParameterList, MoreParameters, BeginsSimple, IsSimple, InnerRecord, IsRecord, IsInstance, Sections, span_of, entity_of, record_of, section_ways, State, is_complex, room_of, next_turn, start, end_at, turn_of}
use Rattle.sb_lex.specs.declared.kinds.Mark.TheVariants as mark
use Rattle.sb_lex.specs.declared.kinds.Word.TheVariants as word
use Rattle.sb_step.specs.declared.indexing.states.Section.TheVariants as section
use Rattle.sb_step.specs.declared.indexing.states.Bracket.TheVariants as bracket
use Rattle.sb_step.specs.declared.indexing.states.Want.TheVariants as want
use Rattle.sb_step.specs.declared.indexing.states.Event.TheVariants as event
use Rattle.sb_step.specs.Rules.{◌⋅◌}
use Rattle.sb_step.specs.Rules.Many.{more as one_more}
use Rattle.sb_step.specs.Grammar.Parameter.{value, list, typed}
use Rattle.sb_step.specs.Grammar.ParameterList.{empty, some}
use Rattle.sb_step.specs.Grammar.MoreParameters.{last, more}
use Rattle.sb_step.proofs.Texts.TurnsByWay.{EachWay, parameter_ways, list_ways, mapped, EachTurn, each_turned}
use Rattle.sb_step.proofs.Texts.DepthIsCounted.{depth_within, depth, Fits, Counts, turn_counts, turn_fits}
use Rattle.sb_step.proofs.Texts.ReadingToTheEnd.{prepend, no_more, End, Data, BehindEntities, ends, Shallow, opened-more, closed-more}

-- how a list may go on
abbrev Rest : Type 1
Rest = List Lexeme → Type 0

-- parameter lists

-- one lexeme that is so, and then the rest
abbrev Then : (Lexeme → Type 0) → Rest → Rest
Then P K [] = ⊥
Then P K (x ∷ xs) = P x × K xs

-- what the rule describes, and then the rest
record After (P : Rule) (K : Rest) (xs : List Lexeme) : Type 0 where
  middle : List Lexeme
  first : P xs middle
  second : K middle

-- the parentheses that are open are closed one by one
abbrev Closing : List Bracket → Rest → Rest
Closing [] K = K
Closing (bracket.List ∷ fs) K = After MoreParameters (Closing fs K)
Closing (bracket.Typed ∷ fs) K = Then (IsMark mark.Close) (Closing fs K)

-- and before it what is wanted
abbrev Wanted : List Bracket → Want → Rest → Rest
Wanted [] w K xs = K xs
Wanted (f ∷ fs) want.First K xs = Then (IsMark mark.Close) (Closing fs K) xs
    ⊎ After Parameter (Closing (f ∷ fs) K) xs
Wanted (f ∷ fs) want.Parameter K xs = After Parameter (Closing (f ∷ fs) K) xs
Wanted (f ∷ fs) want.Next K xs = Closing (f ∷ fs) K xs
Wanted (f ∷ fs) want.Open K xs =
    Then (IsMark mark.Open) (After Parameter (Closing (f ∷ fs) K)) xs

-- behind the innermost parenthesis the next one is open
closed_behind : (fs : List Bracket) (K : Rest) (xs : List Lexeme) → Wanted fs want.Next K xs
    → Closing fs K xs
closed_behind [] K xs on = on
closed_behind (f ∷ fs) K xs on = on

list_comes : (K : Rest) (x : Lexeme) (xs : List Lexeme) → IsMark mark.Open x
    → (Then (IsMark mark.Close) K xs ⊎ After Parameter (After MoreParameters K) xs)
    → After ParameterList K (x ∷ xs)
list_comes K x [] o (inl c) = absurd c
list_comes K x (y ∷ ys) o (inl c) = record { middle = ys; first = empty o c.0; second = c.1 }
list_comes K x xs o (inr a) = record {
  middle = a.second.middle;
  first = some o a.first a.second.first;
  second = a.second.second;
}

typed_from : (K : Rest) (x y : Lexeme) (ys middle : List Lexeme) → IsKeyword x → IsMark mark.Open y
    → Parameter ys middle → Then (IsMark mark.Close) K middle → After Parameter K (x ∷ y ∷ ys)
typed_from K x y ys [] k o p c = absurd c
typed_from K x y ys (z ∷ rest) k o p c = record {
  middle = rest;
  first = typed k o p c.0;
  second = c.1;
}

typed_comes : (K : Rest) (x : Lexeme) (xs : List Lexeme) → IsKeyword x
    → Then (IsMark mark.Open) (After Parameter (Then (IsMark mark.Close) K)) xs
    → After Parameter K (x ∷ xs)
typed_comes K x [] k t = absurd t
typed_comes K x (y ∷ ys) k t = typed_from K x y ys t.1.middle k t.0 t.1.first t.1.second

module _ (K : Rest) (x : Lexeme) (xs : List Lexeme) where
  parameters_come : (room : Bool) (f : Bracket) (fs : List Bracket) (Q : Type 0)
      → (After Parameter (Closing (f ∷ fs) K) (x ∷ xs) → Q)
      → EachWay (λ n. Wanted n.brackets n.want K xs → Q) x (parameter_ways room (f ∷ fs))
  parameters_come true f fs Q wrap = (
    λ v on. wrap (record { middle = xs; first = value v; second = on }),
    (
      λ o on.
          let a = list_comes (Closing (f ∷ fs) K) x xs o on in
          wrap (record { middle = a.middle; first = list a.first; second = a.second }),
      (λ k on. wrap (typed_comes (Closing (f ∷ fs) K) x xs k on), tt),
    ),
  )
  parameters_come false f fs Q wrap =
      (λ v on. wrap (record { middle = xs; first = value v; second = on }), tt)

  lists_come : (w : Want) (room : Bool) (f : Bracket) (fs : List Bracket)
      → EachWay (λ n. Wanted n.brackets n.want K xs → Wanted (f ∷ fs) w K (x ∷ xs)) x
      (list_ways w room f fs)
  lists_come want.First room f fs =
      (λ c on. inl (c, closed_behind fs K xs on), parameters_come room f fs _ inr)
  lists_come want.Parameter room f fs = parameters_come room f fs _ (λ a. a)
  lists_come want.Next room bracket.List fs = (
    λ c on. record { middle = xs; first = last c; second = closed_behind fs K xs on },
    (
      λ m on. record {
        middle = on.second.middle;
        first = more m on.first on.second.first;
        second = on.second.second;
      },
      tt,
    ),
  )
  lists_come want.Next room bracket.Typed fs = (λ c on. (c, closed_behind fs K xs on), tt)
  lists_come want.Open room f fs = (λ o on. (o, on), tt)

-- sections

-- Within a record: what its rule still describes, and then the rest of the text. What is found is
-- the record, and what is found behind it.
record Within (found : Record → Event) (Is : Record → Type 0) (K : File → Rest)
    (At : Record → Rule) (f : File) (xs : List Lexeme) : Type 0 where
  body : Record
  is : Is body
  later : File
  whole : f ≡ prepend (found body) later
  middle : List Lexeme
  goes : At body xs middle
  on : K later middle

-- what stands behind an entity, and behind an instance
abbrev AtEntities : File → Rest
AtEntities f xs = (Each IsSimple f.header ⋅ BehindEntities f) xs []

abbrev AtInstances : File → Rest
AtInstances f xs = (f.header ≡ []) × (Each IsInstance f.instances ⋅ End f.data_end) xs []

-- the entity with this keyword, and an instance of this number or with this part of its record
abbrev InEntity : Span → (Record → Rule) → File → Rest
InEntity s At = Within event.Entity (λ r. r ≡ entity_of s r.end) AtEntities At

abbrev InInstance : ℕ → (Record → Rule) → File → Rest
InInstance n At = Within (event.Instance n) (λ r. Unit {0}) AtInstances At

abbrev InPart : Part → (Record → Rule) → File → Rest
InPart p At = Within (event.Instance p.number) (λ r. r ≡ record_of p r.end) AtInstances At

-- a parameter list, and the end of a record
abbrev SimpleRest : Record → Rule
SimpleRest r = ParameterList ⋅ SemicolonAt r.end

-- further records within a complex one, and its end
abbrev ComplexRest : Record → Rule
ComplexRest r = Many InnerRecord ⋅ One (IsMark mark.Close) ⋅ SemicolonAt r.end

-- nothing of the header is still to come
abbrev Past : Rule → File → Rest
Past P f xs = (f.header ≡ []) × P xs []

-- nothing but the end of the data, which is known
abbrev Ended : ℕ → Rule → File → Rest
Ended k P f xs = (f ≡ no_more k) × P xs []

-- how a text goes on where no parameter list is open, and what is still to come
abbrev Follows : Section → File → Rest
Follows section.Begin f xs = Sections f xs []
Follows section.BeginSemicolon f xs = (Semicolon ⋅ One (IsThe (codes "HEADER")) ⋅ Semicolon
    ⋅ SomeOf IsSimple f.header ⋅ BehindEntities f) xs []
Follows section.Header f xs = (One (IsThe (codes "HEADER")) ⋅ Semicolon
    ⋅ SomeOf IsSimple f.header ⋅ BehindEntities f) xs []
Follows section.HeaderSemicolon f xs =
    (Semicolon ⋅ SomeOf IsSimple f.header ⋅ BehindEntities f) xs []
Follows section.FirstEntity f xs = (SomeOf IsSimple f.header ⋅ BehindEntities f) xs []
Follows section.Entities f xs = AtEntities f xs
Follows (section.EntityOrEnd s) f xs =
    InEntity s SimpleRest f xs ⊎ Past (Semicolon ⋅ Data f) f xs
Follows (section.EntityOpen s) f xs = InEntity s SimpleRest f xs
Follows (section.EntityEnd s) f xs = InEntity s (λ r. SemicolonAt r.end) f xs
Follows section.Data f xs = Past (Data f) f xs
Follows section.DataSemicolon f xs =
    Past (Semicolon ⋅ Each IsInstance f.instances ⋅ End f.data_end) f xs
Follows section.Instances f xs = AtInstances f xs
Follows (section.Equals n) f xs = InInstance n (λ r. One (IsMark mark.Equals) ⋅ IsRecord r) f xs
Follows (section.Body n) f xs = InInstance n IsRecord f xs
Follows (section.SimpleOpen p) f xs = InPart p SimpleRest f xs
Follows (section.FirstRecord p) f xs = InPart p (λ r. InnerRecord ⋅ ComplexRest r) f xs
Follows (section.RecordOpen p) f xs = InPart p (λ r. ParameterList ⋅ ComplexRest r) f xs
Follows (section.NextRecord p) f xs = InPart p ComplexRest f xs
Follows (section.InstanceEnd p) f xs = InPart p (λ r. SemicolonAt r.end) f xs
Follows (section.EndSemicolon k) f xs =
    Ended k (Semicolon ⋅ One (IsWord word.Last) ⋅ Semicolon) f xs
Follows (section.LastWord k) f xs = Ended k (One (IsWord word.Last) ⋅ Semicolon) f xs
Follows (section.LastSemicolon k) f xs = Ended k Semicolon f xs
Follows (section.End k) f xs = (f ≡ no_more k) × (xs ≡ [])

-- how it goes on from a state
abbrev Goes : State → File → Rest
Goes s f = Wanted s.nest.brackets s.nest.want (Follows s.section f)

-- one lexeme before what a rule describes
pub before : {P : Lexeme → Type 0} {Q : Rule} {x : Lexeme} {xs rest : List Lexeme} → P x → Q xs rest
    → (One P ⋅ Q) (x ∷ xs) rest
before {xs = xs} p q = record { middle = xs; first = (p, refl); second = q }

-- what stands before the rest of a record
longer : {found : Record → Event} {Is Js : Record → Type 0} {K : File → Rest}
    {At Bt : Record → Rule} {f : File} {xs ys : List Lexeme} → Within found Is K At f xs
    → ((r : Record) → Is r → Js r × ((rest : List Lexeme) → At r xs rest → Bt r ys rest))
    → Within found Js K Bt f ys
longer w step = record {
  body = w.body;
  is = (step w.body w.is).0;
  later = w.later;
  whole = w.whole;
  middle = w.middle;
  goes = (step w.body w.is).1 w.middle w.goes;
  on = w.on;
}

-- the same of one record
grown : {found : Record → Event} {Is : Record → Type 0} {K : File → Rest} {At Bt : Record → Rule}
    {f : File} {xs ys : List Lexeme} → Within found Is K At f xs
    → ((r : Record) (rest : List Lexeme) → At r xs rest → Bt r ys rest) → Within found Is K Bt f ys
grown w step = longer w (λ r is. (is, step r))

-- the semicolon of a record, behind which the text goes on
closed_at : (found : Record → Event) (Is : Record → Type 0) (K : File → Rest) (r : Record) → Is r
    → (x : Lexeme) (xs : List Lexeme) (f : File) → SemicolonAt r.end (x ∷ xs) xs → K f xs
    → Within found Is K (λ b. SemicolonAt b.end) (prepend (found r) f) (x ∷ xs)
closed_at found Is K r is x xs f goes on =
    record { body = r; is = is; later = f; whole = refl; middle = xs; goes = goes; on = on }

-- a parameter list before the rest of a record
listed : {found : Record → Event} {Is : Record → Type 0} {K : File → Rest} (At : Record → Rule)
    {f : File} {xs : List Lexeme} → After ParameterList (Within found Is K At f) xs
    → Within found Is K (λ r. ParameterList ⋅ At r) f xs
listed At a =
    grown a.second (λ r rest j. record { middle = a.middle; first = a.first; second = j })

begins_simple : (x : Lexeme) (r : Record) → IsKeyword x → r ≡ entity_of (span_of x) r.end
    → BeginsSimple r x
begins_simple x r keyword is = record {
  keyword = keyword;
  start = sym (ap (λ s. s.start) is);
  form = ap (λ s. s.form) is;
}

module _ (x : Lexeme) (xs : List Lexeme) (f : File) where
  entity_comes : IsKeyword x → InEntity (span_of x) SimpleRest f xs
      → (SomeOf IsSimple f.header ⋅ BehindEntities f) (x ∷ xs) []
  entity_comes keyword w =
      subst (λ g. (SomeOf IsSimple g.header ⋅ BehindEntities g) (x ∷ xs) []) (sym w.whole) (record {
        middle = w.on.middle;
        first = record {
          middle = w.middle;
          first = before (begins_simple x w.body keyword w.is) w.goes;
          second = w.on.first;
        };
        second = w.on.second;
      })

  some_are_each : (h : List Record) (Q : Rule) (ys : List Lexeme) → (SomeOf IsSimple h ⋅ Q) ys []
      → (Each IsSimple h ⋅ Q) ys []
  some_are_each [] Q ys j = absurd j.first
  some_are_each (r ∷ h) Q ys j = record { middle = j.middle; first = j.first; second = j.second }

  entities_come : IsKeyword x → InEntity (span_of x) SimpleRest f xs → AtEntities f (x ∷ xs)
  entities_come keyword w =
      some_are_each f.header (BehindEntities f) (x ∷ xs) (entity_comes keyword w)

  header_ends : IsThe (codes "ENDSEC") x → Past (Semicolon ⋅ Data f) f xs → AtEntities f (x ∷ xs)
  header_ends the on =
      subst (λ h. (Each IsSimple h ⋅ BehindEntities f) (x ∷ xs) []) (sym on.0)
      (record { middle = x ∷ xs; first = refl; second = before the on.1 })

  data_ends : IsThe (codes "ENDSEC") x
      → Ended x.token.start (Semicolon ⋅ One (IsWord word.Last) ⋅ Semicolon) f xs
      → AtInstances f (x ∷ xs)
  data_ends the on =
      subst (λ g. AtInstances g (x ∷ xs)) (sym on.0)
      (refl, record { middle = x ∷ xs; first = refl; second = before (the, refl) on.1 })

  instance_comes : (n : ℕ) → IsName n x
      → InInstance n (λ r. One (IsMark mark.Equals) ⋅ IsRecord r) f xs → AtInstances f (x ∷ xs)
  instance_comes n name w =
      subst (λ g. AtInstances g (x ∷ xs)) (sym w.whole) (
        w.on.0,
        record {
          middle = w.on.1.middle;
          first = record {
            middle = w.middle;
            first = before name w.goes;
            second = w.on.1.first;
          };
          second = w.on.1.second;
        },
      )

-- where no parameter list is open, the grammar goes on by each of the ways
sections_come : (o : Section) (x : Lexeme) (xs : List Lexeme) (f : File)
    → EachWay (λ m. Goes (turn_of m).state f xs → Follows o (prepend m.event f) (x ∷ xs)) x
    (section_ways o x)
sections_come section.Begin x xs f = (λ w on. before w on, tt)
sections_come section.BeginSemicolon x xs f = (λ s on. before s on, tt)
sections_come section.Header x xs f = (λ the on. before the on, tt)
sections_come section.HeaderSemicolon x xs f = (λ s on. before s on, tt)
sections_come section.FirstEntity x xs f = (λ k on. entity_comes x xs f k on, tt)
sections_come section.Entities x xs f = (
  λ the on. ⊎_elim (entities_come x xs f the.keyword) (header_ends x xs f the) on,
  (λ k on. entities_come x xs f k on, tt),
)
sections_come (section.EntityOrEnd s) x xs f = (
  λ c on. inr (on.0, before c on.1),
  (λ o on. inl (listed (λ r. SemicolonAt r.end) (list_comes _ x xs o on)), tt),
)
sections_come (section.EntityOpen s) x xs f =
    (λ o on. listed (λ r. SemicolonAt r.end) (list_comes _ x xs o on), tt)
sections_come (section.EntityEnd s) x xs f =
    (λ c on. closed_at _ _ AtEntities (entity_of s x.token.start) refl x xs f ((c, refl), refl) on, tt)
sections_come section.Data x xs f = (λ the on. (on.0, before the on.1), tt)
sections_come section.DataSemicolon x xs f = (λ s on. (on.0, before s on.1), tt)
sections_come section.Instances x xs f =
    (λ the on. data_ends x xs f the on, (λ name on. instance_comes x xs f _ name on, tt))
sections_come (section.Equals n) x xs f =
    (λ e on. grown on (λ r rest j. before e j), tt)
sections_come (section.Body n) x xs f = (
  λ k on. longer on (λ r is. (tt, λ rest j. inl (before (begins_simple x r k is) j))),
  (
    λ o on. longer on (λ r is. (
      tt,
      λ rest j. inr (before (record {
        open_mark = o;
        start = sym (ap (λ s. s.start) is);
        form = ap (λ s. s.form) is;
      }) j),
    )),
    tt,
  ),
)
sections_come (section.SimpleOpen p) x xs f =
    (λ o on. listed (λ r. SemicolonAt r.end) (list_comes _ x xs o on), tt)
sections_come (section.FirstRecord p) x xs f = (
  λ k on. grown on (λ r rest j. record
      { middle = j.middle; first = before k j.first; second = j.second }),
  tt,
)
sections_come (section.RecordOpen p) x xs f =
    (λ o on. listed ComplexRest (list_comes _ x xs o on), tt)
sections_come (section.NextRecord p) x xs f = (
  λ c on. grown on (λ r rest j. record { middle = x ∷ xs; first = none; second = before c j }),
  (
    λ k on. grown on (λ r rest j. record {
      middle = j.second.middle;
      first = one_more (before k j.first) j.second.first;
      second = j.second.second;
    }),
    tt,
  ),
)
sections_come (section.InstanceEnd p) x xs f =
    (λ c on. closed_at _ _ AtInstances (record_of p x.token.start) refl x xs f ((c, refl), refl) on, tt)
sections_come (section.EndSemicolon k) x xs f = (λ s on. (on.0, before s on.1), tt)
sections_come (section.LastWord k) x xs f = (λ w on. (on.0, before w on.1), tt)
sections_come (section.LastSemicolon k) x xs f = (λ s on. (on.0, (s, sym on.1)), tt)
sections_come (section.End k) x xs f = tt

turns_come : (o : Section) (fs : List Bracket) (w : Want) (x : Lexeme) (xs : List Lexeme) (f : File)
    → EachTurn (λ t. Goes t.state f xs → Wanted fs w (Follows o (prepend t.event f)) (x ∷ xs))
    o fs w x
turns_come o [] w x xs f = sections_come o x xs f
turns_come o (g ∷ fs) w x xs f =
    lists_come (Follows o f) x xs w (nat_lt (length (g ∷ fs)) (room_of o)) g fs

-- the whole

-- a text goes on so from the state, and is shallow
record ReadsAFile (s : State) (f : File) (xs : List Lexeme) : Type 0 where
  goes : Goes s f xs
  shallow : Shallow (depth s) xs

low : (complex : Bool) (fs : List Bracket) (w : Want)
    → length fs ≤ cond complex (greatest_depth - 1) greatest_depth
    → cond complex 1 0 + depth_within fs w ≤ greatest_depth
low true [] w fit = omega arith
low false [] w fit = omega arith
low true (f ∷ fs) want.Open fit = omega arith
low true (f ∷ fs) _ fit = omega arith
low false (f ∷ fs) want.Open fit = omega arith
low false (f ∷ fs) _ fit = omega arith

shallow_before : (d e : ℕ) (x : Lexeme) (xs : List Lexeme) → d ≤ greatest_depth
    → Counts d x.token.kind e → Shallow e xs → Shallow d (x ∷ xs)
shallow_before d e x xs low counts shallow [] back same = omega arith
shallow_before d e x xs low counts shallow (y ∷ front) back same =
    let first : x ≡ y = cc in
    let others : xs ≡ front ++ back = cc in
    let there = shallow front back others in
    subst (λ z. d + opened (z ∷ front) ≤ closed (z ∷ front) + greatest_depth) first
    (omega (arith, there, counts, opened-more x front, closed-more x front))

ended : (o : Section) (fs : List Bracket) (w : Want) (f : File)
    → option_map no_more (end_at o fs) ≡ Some f → Wanted fs w (Follows o f) []
ended (section.End k) [] w f is = (sym (same_Some (no_more k) f is), refl)
ended _ _ w f is = absurd (none-some f is)

shallow_end : (d : ℕ) → d ≤ greatest_depth → Shallow d []
shallow_end d low [] back same = omega arith
shallow_end d low (x ∷ front) back same = absurd (cc)

reads : (xs : List Lexeme) (s : State) (f : File) → Fits s → ends xs s ≡ Some f → ReadsAFile s f xs
reads [] s f fit is = record {
  goes = ended s.section s.nest.brackets s.nest.want f is;
  shallow = shallow_end (depth s)
      (low (is_complex s.section) s.nest.brackets s.nest.want fit);
}
reads (x ∷ xs) s f fit is =
    option_and_then_some _ (next_turn s x) f is (λ turn next found.
    let later = mapped (prepend turn.event) (ends xs turn.state) f found in
    let r = reads xs turn.state later.0 (turn_fits s x turn fit next) later.1 in
    subst (λ g. ReadsAFile s g (x ∷ xs)) later.2 (record {
      goes = each_turned
          (λ t. Goes t.state later.0 xs → Goes s (prepend t.event later.0) (x ∷ xs)) s.section
          s.nest.brackets s.nest.want x
          (turns_come s.section s.nest.brackets s.nest.want x xs later.0) turn next r.goes;
      shallow = shallow_before (depth s) (depth turn.state) x xs
          (low (is_complex s.section) s.nest.brackets s.nest.want fit)
          (turn_counts s x turn next) r.shallow;
    }))

-- what is read to its end is a text
pub what_is_read : (xs : List Lexeme) (f : File) → ends xs start ≡ Some f → IsText xs f
what_is_read xs f is =
    let r = reads xs start f (omega arith) is in
    record {
      sections = r.goes;
      shallow = λ front back same.
          let here = r.shallow front back same in omega (arith, here);
    }
