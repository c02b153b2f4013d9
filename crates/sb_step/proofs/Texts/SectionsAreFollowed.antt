-- A text leads the machine to its end, and what it describes is what is found.
use Rattle.sb_step.proofs.Names.{Kind, ◌≡◌, ℕ, true, cond, List, [], ◌∷◌, ◌++◌, Some, None, refl, sym, ap, ◌∙◌, subst, inl, inr, ⊎_elim, append-nil, arith, codes, cases_Bool, Record, Span, Part, Section, Event, Move, Lexeme, IsThe, IsMark, One, Many, SomeOf, none, File, IsText, Semicolon, SemicolonAt, ParameterList, BeginsSimple, BeginsComplex, IsSimple, InnerRecord, IsComplex, IsRecord, IsInstance, Sections, is_keyword, number_of, is_the, Way, pick, ◌⇢◌, the, a_keyword, a_name, moves, enters, finds, span_of, entity_of, record_of, option_map, next_turn, start, turn_of}
use Rattle.sb_lex.specs.declared.kinds.Kind.TheVariants as kind
use Rattle.sb_lex.specs.declared.kinds.Mark.TheVariants as mark
use Rattle.sb_lex.specs.declared.kinds.Word.TheVariants as word
use Rattle.sb_step.specs.declared.indexing.states.Section.TheVariants as section
use Rattle.sb_step.specs.declared.indexing.states.Event.TheVariants as event
use Rattle.sb_step.specs.Rules.{◌⋅◌}
use Rattle.sb_step.specs.Rules.Many.{more}
use Rattle.sb_step.proofs.KindsSay.{said_the}
use Rattle.sb_step.proofs.Texts.DepthIsCounted.{depth}
use Rattle.sb_step.proofs.Texts.ReadingToTheEnd.{prepend, no_more, ends, at, with_kind, by_kind, Shallow, Leads, one_leads, led_on, Data, End, BehindEntities, Drives, one_drives, kind_drives, joined_drive, each_of, each_drive}
use Rattle.sb_step.proofs.Texts.ListsAreFollowed.{list_leads}

-- one lexeme of the kind leads from one to the other
kind_moves : (k : Kind) (o p : Section)
    → ((x : Lexeme) → next_turn (at o) (with_kind k x) ≡ Some (turn_of (moves p)))
    → Drives (One (λ x. x.token.kind ≡ k)) (at o) (at p) (λ f. f)
kind_moves k o p next = kind_drives k (at o) (turn_of (moves p)) next

-- a semicolon does
semicolon_moves : (o p : Section) → ((x : Lexeme)
    → next_turn (at o) (with_kind (kind.Mark mark.Semicolon) x) ≡ Some (turn_of (moves p)))
    → Drives Semicolon (at o) (at p) (λ f. f)
semicolon_moves o p next = kind_moves (kind.Mark mark.Semicolon) o p next

-- a keyword of these letters does, where it is asked first
by_letters : (letters : List ℕ) (m : Move) (ways : List (Way Move)) (x : Lexeme)
    → is_the letters x ≡ true → option_map turn_of (pick (the letters ⇢ m ∷ ways) x) ≡ Some (turn_of m)
by_letters letters m ways x is = ap (λ b. option_map turn_of (cond b (Some m) (pick ways x))) is

-- and leads from one to the other, where it alone is asked
letters_drive : (letters : List ℕ) (o p : Section) → ((x : Lexeme)
    → option_map turn_of (pick (the letters ⇢ moves p ∷ []) x) ≡ Some (turn_of (moves p))
    → next_turn (at o) x ≡ Some (turn_of (moves p)))
    → Drives (One (IsThe letters)) (at o) (at p) (λ f. f)
letters_drive letters o p next =
    one_drives (IsThe letters) (at o) (turn_of (moves p))
    (λ x is. next x (by_letters letters (moves p) [] x (said_the letters x is)))

-- records

-- a parameter list, where its parenthesis is asked
lists_drive : (o p : Section) → ((x : Lexeme)
    → next_turn (at o) (with_kind (kind.Mark mark.Open) x) ≡ Some (turn_of (enters p)))
    → Drives ParameterList (at o) (at p) (λ f. f)
lists_drive o p opens xs rest l shallow =
    list_leads p l (at o) []
    (λ x ys opening deep. by_kind (at o) x (kind.Mark mark.Open) (turn_of (enters p)) opening
    (opens x)) shallow

-- a list and a semicolon, at which the record is found
simple_drives : (o p q : Section) (r : Record) (found : Event) → ((x : Lexeme)
    → next_turn (at o) (with_kind (kind.Mark mark.Open) x) ≡ Some (turn_of (enters p)))
    → ((x : Lexeme) → x.token.start ≡ r.end → next_turn (at p)
    (with_kind (kind.Mark mark.Semicolon) x) ≡ Some (turn_of (finds q found)))
    → Drives (ParameterList ⋅ SemicolonAt r.end) (at o) (at q) (prepend found)
simple_drives o p q r found opens closes =
    joined_drive (lists_drive o p opens)
    (one_drives (λ x. IsMark mark.Semicolon x × (x.token.start ≡ r.end)) (at p)
    (turn_of (finds q found))
    (λ x is. by_kind (at p) x (kind.Mark mark.Semicolon) (turn_of (finds q found)) is.0
    (closes x is.1)))

-- entities

-- the entity whose keyword stands there
entity_leads : (o p : Section) (r : Record) (x : Lexeme) (xs rest : List Lexeme) → BeginsSimple r x
    → next_turn (at o) x ≡ Some (turn_of (moves p)) → ((y : Lexeme)
    → next_turn (at p) (with_kind (kind.Mark mark.Open) y)
    ≡ Some (turn_of (enters (section.EntityEnd (span_of x)))))
    → (ParameterList ⋅ SemicolonAt r.end) xs rest → Shallow (depth (at o)) (x ∷ xs)
    → Leads (at o) (x ∷ xs) (at section.Entities) rest (prepend (event.Entity r))
entity_leads o p r x xs rest begins turn opens j shallow =
    let here = one_leads (at o) x xs (turn_of (moves p)) turn shallow in
    let is : entity_of (span_of x) r.end ≡ r =
    λ i. record { start = begins.start i; end = r.end; form = sym begins.form i } in
    led_on here (simple_drives p (section.EntityEnd (span_of x)) section.Entities r
    (event.Entity r) opens
    (λ y same. ap (λ e. Some (turn_of (finds section.Entities (event.Entity e))))
    (ap (entity_of (span_of x)) same ∙ is))
    xs rest j here.shallow)

first_entity_drives : (r : Record)
    → Drives (IsSimple r) (at section.FirstEntity) (at section.Entities) (prepend (event.Entity r))
first_entity_drives r [] rest j shallow = absurd j.first
first_entity_drives r (x ∷ xs) rest j shallow =
    entity_leads section.FirstEntity (section.EntityOpen (span_of x)) r x xs rest j.first.0
    (by_kind (at section.FirstEntity) x kind.Keyword _ j.first.0.keyword refl) (λ y. refl)
    (subst (λ l. (ParameterList ⋅ SemicolonAt r.end) l rest) j.first.1 j.second) shallow

-- a keyword among the entities, which may be that of the end
entity_drives : (r : Record)
    → Drives (IsSimple r) (at section.Entities) (at section.Entities) (prepend (event.Entity r))
entity_drives r [] rest j shallow = absurd j.first
entity_drives r (x ∷ xs) rest j shallow =
    let behind = subst (λ l. (ParameterList ⋅ SemicolonAt r.end) l rest) j.first.1 j.second in
    let opening = section.EntityOpen (span_of x) in
    let either = section.EntityOrEnd (span_of x) in
    ⊎_elim
    (λ ends. entity_leads section.Entities either r x xs rest j.first.0
    (by_letters (codes "ENDSEC") (moves either) (a_keyword ⇢ moves opening ∷ []) x ends) (λ y. refl)
    behind shallow)
    (λ begins. entity_leads section.Entities opening r x xs rest j.first.0
    (ap (λ b. option_map turn_of (cond b (Some (moves either))
    (cond (is_keyword x.token.kind) (Some (moves opening)) None))) begins
    ∙ ap (λ k. option_map turn_of (cond (is_keyword k) (Some (moves opening)) None)) j.first.0.keyword)
    (λ y. refl) behind shallow)
    (cases_Bool (is_the (codes "ENDSEC") x))

-- instances

-- the record in progress
abbrev part_of : ℕ → Record → Part
part_of n r = record { number = n; start = r.start; form = r.form }

module _ (n : ℕ) (r : Record) where
  -- its semicolon
  instance_ends : Drives (SemicolonAt r.end) (at (section.InstanceEnd (part_of n r)))
      (at section.Instances) (prepend (event.Instance n r))
  instance_ends =
      let o = section.InstanceEnd (part_of n r) in
      one_drives (λ x. IsMark mark.Semicolon x × (x.token.start ≡ r.end)) (at o)
      (turn_of (finds section.Instances (event.Instance n r)))
      (λ x is. by_kind (at o) x (kind.Mark mark.Semicolon) _ is.0
      (ap (λ e. Some (turn_of (finds section.Instances (event.Instance n
      (record_of (part_of n r) e))))) is.1))

  simple_record_drives : Drives (IsSimple r) (at (section.Body n)) (at section.Instances)
      (prepend (event.Instance n r))
  simple_record_drives =
      joined_drive
      (one_drives (BeginsSimple r) (at (section.Body n))
      (turn_of (moves (section.SimpleOpen (part_of n r))))
      (λ x b. by_kind (at (section.Body n)) x kind.Keyword _ b.keyword
      (λ i. Some (turn_of (moves (section.SimpleOpen
      (record { number = n; start = b.start i; form = sym b.form i })))))))
      (joined_drive (lists_drive (section.SimpleOpen (part_of n r))
      (section.InstanceEnd (part_of n r)) (λ x. refl)) instance_ends)

  inner_drives : (o : Section) → ((x : Lexeme) → next_turn (at o) (with_kind kind.Keyword x)
      ≡ Some (turn_of (moves (section.RecordOpen (part_of n r)))))
      → Drives InnerRecord (at o) (at (section.NextRecord (part_of n r))) (λ f. f)
  inner_drives o next =
      joined_drive (kind_moves kind.Keyword o (section.RecordOpen (part_of n r)) next)
      (lists_drive (section.RecordOpen (part_of n r)) (section.NextRecord (part_of n r))
      (λ x. refl))

  many_lead : {xs rest : List Lexeme} → Many InnerRecord xs rest
      → Shallow (depth (at (section.NextRecord (part_of n r)))) xs
      → Leads (at (section.NextRecord (part_of n r))) xs (at (section.NextRecord (part_of n r))) rest
      (λ f. f)
  many_lead none shallow = record { shallow = shallow; leads = λ f e. e }
  many_lead (more {xs = xs} {ys = ys} one others) shallow =
      let here = inner_drives (section.NextRecord (part_of n r)) (λ x. refl) xs ys one shallow in
      led_on here (many_lead others here.shallow)

  complex_record_drives : Drives (IsComplex r) (at (section.Body n)) (at section.Instances)
      (prepend (event.Instance n r))
  complex_record_drives =
      joined_drive
      (one_drives (BeginsComplex r) (at (section.Body n))
      (turn_of (moves (section.FirstRecord (part_of n r))))
      (λ x b. by_kind (at (section.Body n)) x (kind.Mark mark.Open) _ b.open_mark
      (λ i. Some (turn_of (moves (section.FirstRecord
      (record { number = n; start = b.start i; form = sym b.form i })))))))
      (joined_drive (inner_drives (section.FirstRecord (part_of n r)) (λ x. refl))
      (joined_drive {P = Many InnerRecord} (λ xs rest m shallow. many_lead m shallow)
      (joined_drive (kind_drives (kind.Mark mark.Close) _
      (turn_of (moves (section.InstanceEnd (part_of n r)))) (λ x. refl)) instance_ends)))

  record_drives : Drives (IsRecord r) (at (section.Body n)) (at section.Instances)
      (prepend (event.Instance n r))
  record_drives xs rest (inl s) shallow = simple_record_drives xs rest s shallow
  record_drives xs rest (inr c) shallow = complex_record_drives xs rest c shallow

instance_drives : (i : ℕ × Record) → Drives (IsInstance i) (at section.Instances)
    (at section.Instances) (prepend (event.Instance i.0 i.1))
instance_drives i =
    joined_drive (kind_moves (kind.Name i.0) section.Instances (section.Equals i.0) (λ x. refl))
    (joined_drive (kind_moves (kind.Mark mark.Equals) (section.Equals i.0) (section.Body i.0)
    (λ x. refl)) (record_drives i.0 i.1))

-- sections

-- the entities of a header
abbrev entities_add : List Record → File → File
entities_add = each_of (λ r. prepend (event.Entity r))

-- the instances of the data
abbrev instances_add : List (ℕ × Record) → File → File
instances_add = each_of (λ i. prepend (event.Instance i.0 i.1))

some_entities_drive : (h : List Record) → Drives (SomeOf IsSimple h) (at section.FirstEntity)
    (at section.Entities) (entities_add h)
some_entities_drive [] xs rest each shallow = absurd each
some_entities_drive (r ∷ h) xs rest each shallow =
    let one = first_entity_drives r xs each.middle each.first shallow in
    led_on one (each_drive IsSimple (at section.Entities) (λ e. prepend (event.Entity e))
    entity_drives h each.middle rest each.second one.shallow)

end_drives : (k : ℕ) → Drives (End k) (at section.Instances) (at (section.End k)) (λ f. f)
end_drives k =
    joined_drive
    (one_drives (λ x. IsThe (codes "ENDSEC") x × (x.token.start ≡ k)) (at section.Instances)
    (turn_of (moves (section.EndSemicolon k)))
    (λ x is. by_letters (codes "ENDSEC") (moves (section.EndSemicolon x.token.start))
    (a_name ⇢ moves (section.Equals (number_of x.token.kind)) ∷ []) x
    (said_the (codes "ENDSEC") x is.0)
    ∙ ap (λ e. Some (turn_of (moves (section.EndSemicolon e)))) is.1))
    (joined_drive (semicolon_moves (section.EndSemicolon k) (section.LastWord k) (λ x. refl))
    (joined_drive (kind_moves (kind.Word word.Last) (section.LastWord k) (section.LastSemicolon k) (λ x. refl))
    (semicolon_moves (section.LastSemicolon k) (section.End k) (λ x. refl))))

data_drives : (f : File) (s : Span) → Drives (Semicolon ⋅ Data f) (at (section.EntityOrEnd s))
    (at (section.End f.data_end)) (instances_add f.instances)
data_drives f s =
    joined_drive (semicolon_moves (section.EntityOrEnd s) section.Data (λ x. refl))
    (joined_drive (letters_drive (codes "DATA") section.Data section.DataSemicolon (λ x is. is))
    (joined_drive (semicolon_moves section.DataSemicolon section.Instances (λ x. refl))
    (joined_drive (each_drive IsInstance (at section.Instances)
    (λ i. prepend (event.Instance i.0 i.1)) instance_drives f.instances)
    (end_drives f.data_end))))

behind_entities : (f : File) → Drives (BehindEntities f) (at section.Entities)
    (at (section.End f.data_end)) (instances_add f.instances)
behind_entities f [] rest j shallow = absurd j.first
behind_entities f (x ∷ xs) rest j shallow =
    let s = span_of x in
    let here = one_leads (at section.Entities) x xs (turn_of (moves (section.EntityOrEnd s)))
    (by_letters (codes "ENDSEC") (moves (section.EntityOrEnd s))
    (a_keyword ⇢ moves (section.EntityOpen s) ∷ []) x (said_the (codes "ENDSEC") x j.first.0))
    shallow in
    led_on here (data_drives f s xs rest
    (subst (λ l. (Semicolon ⋅ Data f) l rest) j.first.1 j.second) here.shallow)

sections_drive : (f : File) → Drives (Sections f) start (at (section.End f.data_end))
    (λ g. entities_add f.header (instances_add f.instances g))
sections_drive f =
    joined_drive (kind_drives (kind.Word word.First) start
    (turn_of (moves section.BeginSemicolon)) (λ x. refl))
    (joined_drive (semicolon_moves section.BeginSemicolon section.Header (λ x. refl))
    (joined_drive (letters_drive (codes "HEADER") section.Header section.HeaderSemicolon (λ x is. is))
    (joined_drive (semicolon_moves section.HeaderSemicolon section.FirstEntity (λ x. refl))
    (joined_drive (some_entities_drive f.header) (behind_entities f)))))

entities_added : (h : List Record) (f : File)
    → entities_add h f ≡ record f { header = h ++ f.header }
entities_added [] f = refl
entities_added (r ∷ h) f = ap (prepend (event.Entity r)) (entities_added h f)

instances_added : (instances : List (ℕ × Record)) (f : File)
    → instances_add instances f ≡ record f { instances = instances ++ f.instances }
instances_added [] f = refl
instances_added (i ∷ later) f =
    ap (prepend (event.Instance i.0 i.1)) (instances_added later f)

-- a text is read to its end, and found
pub texts_are_read : (xs : List Lexeme) (f : File) → IsText xs f → ends xs start ≡ Some f
texts_are_read xs f text =
    let l = sections_drive f xs [] text.sections
    (λ front back same. let here = text.shallow front back same in omega (arith, here)) in
    l.leads (no_more f.data_end) refl
    ∙ ap (λ g. Some (entities_add f.header g)) (instances_added f.instances (no_more f.data_end))
    ∙ ap Some (entities_added f.header _)
    ∙ (λ i. Some (record {
      header = append-nil f.header i;
      instances = append-nil f.instances i;
      data_end = f.data_end;
    }))
