-- What holds of a list of lexemes and with it of each tail holds behind a rule too.
use Rattle.sb_step.proofs.Names.{ℕ, List, [], ◌∷◌, sym, subst, inl, inr, Stands, Record, Lexeme, Rule, One, Many, Each, SomeOf, none, File, Parameter, ParameterList, MoreParameters, IsSimple, InnerRecord, IsComplex, IsRecord, IsInstance, Sections}
use Rattle.sb_step.specs.Rules.{◌⋅◌}
use Rattle.sb_step.specs.Rules.Many.{more}
use Rattle.sb_step.specs.Grammar.Parameter.{value, list, typed}
use Rattle.sb_step.specs.Grammar.ParameterList.{empty, some}
use Rattle.sb_step.specs.Grammar.MoreParameters.{last, more as further}

-- what holds of a list holds of its tail
abbrev pub HoldsOfTails : (List Lexeme → Type 0) → Type 0
HoldsOfTails Holds = (x : Lexeme) (xs : List Lexeme) → Holds (x ∷ xs) → Holds xs

-- what holds before the rule holds behind it
abbrev pub Leaves : (List Lexeme → Type 0) → Rule → Type 0
Leaves Holds P = (xs rest : List Lexeme) → P xs rest → Holds xs → Holds rest

-- where an item of a list of records stands
pub record ItemPlace {A : Type 0} (Holds : List Lexeme → Type 0) (P : A → Rule) (a : A)
    : Type 0 where
  pub at : List Lexeme
  pub rest : List Lexeme
  pub is : P a at rest
  pub holds : Holds at

module _ (Holds : List Lexeme → Type 0) (tail : HoldsOfTails Holds) where
  -- behind one lexeme
  pub one_leaves : (P : Lexeme → Type 0) → Leaves Holds (One P)
  one_leaves P [] rest one h = absurd one
  one_leaves P (x ∷ xs) rest one h = subst Holds (sym one.1) (tail x xs h)

  -- behind one rule and another
  pub joined_leaves : (P Q : Rule) → Leaves Holds P → Leaves Holds Q → Leaves Holds (P ⋅ Q)
  joined_leaves P Q p q xs rest j h = q j.middle rest j.second (p xs j.middle j.first h)

  mutual
    parameter_leaves : {xs rest : List Lexeme} → Parameter xs rest → Holds xs → Holds rest
    parameter_leaves (value v) h = tail _ _ h
    parameter_leaves (list l) h = list_leaves l h
    parameter_leaves (typed k o p c) h = tail _ _ (parameter_leaves p (tail _ _ (tail _ _ h)))

    -- behind a parameter list
    pub list_leaves : {xs rest : List Lexeme} → ParameterList xs rest → Holds xs → Holds rest
    list_leaves (empty o c) h = tail _ _ (tail _ _ h)
    list_leaves (some o p m) h = more_leaves m (parameter_leaves p (tail _ _ h))

    more_leaves : {xs rest : List Lexeme} → MoreParameters xs rest → Holds xs → Holds rest
    more_leaves (last c) h = tail _ _ h
    more_leaves (further c p m) h = more_leaves m (parameter_leaves p (tail _ _ h))

  many_leaves : (P : Rule) → Leaves Holds P → {xs rest : List Lexeme} → Many P xs rest
      → Holds xs → Holds rest
  many_leaves P p none h = h
  many_leaves P p (more {xs = xs} {ys = ys} one others) h =
      many_leaves P p others (p xs ys one h)

  lists_leave : Leaves Holds ParameterList
  lists_leave xs rest l h = list_leaves l h

  inner_leaves : Leaves Holds InnerRecord
  inner_leaves = joined_leaves _ ParameterList (one_leaves _) lists_leave

  -- behind a simple record
  pub simple_leaves : (r : Record) → Leaves Holds (IsSimple r)
  simple_leaves r =
      joined_leaves _ _ (one_leaves _) (joined_leaves ParameterList _ lists_leave (one_leaves _))

  complex_leaves : (r : Record) → Leaves Holds (IsComplex r)
  complex_leaves r =
      joined_leaves _ _ (one_leaves _) (joined_leaves InnerRecord _ inner_leaves
      (joined_leaves (Many InnerRecord) _ (λ xs rest m h. many_leaves InnerRecord inner_leaves m h)
      (joined_leaves _ _ (one_leaves _) (one_leaves _))))

  record_leaves : (r : Record) → Leaves Holds (IsRecord r)
  record_leaves r xs rest (inl s) h = simple_leaves r xs rest s h
  record_leaves r xs rest (inr c) h = complex_leaves r xs rest c h

  -- behind an instance
  pub instance_leaves : (i : ℕ × Record) → Leaves Holds (IsInstance i)
  instance_leaves i =
      joined_leaves _ _ (one_leaves _) (joined_leaves _ (IsRecord i.1) (one_leaves _)
      (record_leaves i.1))

  each_leaves : {A : Type 0} (P : A → Rule) → ((a : A) → Leaves Holds (P a)) → (items : List A)
      → Leaves Holds (Each P items)
  each_leaves P p [] xs rest each h = subst Holds (sym each) h
  each_leaves P p (a ∷ items) xs rest each h =
      each_leaves P p items each.middle rest each.second (p a xs each.middle each.first h)

  -- each of the items stands somewhere
  pub item_place : {A : Type 0} (P : A → Rule) → ((a : A) → Leaves Holds (P a)) → (items : List A)
      → (a : A) → Stands a items → (xs rest : List Lexeme) → Each P items xs rest → Holds xs
      → ItemPlace Holds P a
  item_place P p [] a stands xs rest each h = absurd stands
  item_place P p (b ∷ items) a (inl same) xs rest each h = record {
    at = xs;
    rest = each.middle;
    is = subst (λ c. P c xs each.middle) (sym same) each.first;
    holds = h;
  }
  item_place P p (b ∷ items) a (inr later) xs rest each h =
      item_place P p items a later each.middle rest each.second
      (p b xs each.middle each.first h)

  -- behind one lexeme, before the rule that follows it
  next : {P : Lexeme → Type 0} {Q : Rule} {xs rest : List Lexeme} → (One P ⋅ Q) xs rest → Holds xs
      → (ys : List Lexeme) × Q ys rest × Holds ys
  next {P = P} {xs = xs} j h = (j.middle, j.second, one_leaves P xs j.middle j.first h)

  entities_each : (items : List Record) (xs rest : List Lexeme) → SomeOf IsSimple items xs rest
      → Each IsSimple items xs rest
  entities_each [] xs rest each = absurd each
  entities_each (r ∷ items) xs rest each = each

  module _ (f : File) (xs : List Lexeme) (s : Sections f xs []) (h : Holds xs) where
    -- where an entity of a text stands
    pub entity_place : (r : Record) → Stands r f.header → ItemPlace Holds IsSimple r
    entity_place r stands =
        let a = next s h in
        let b = next a.1 a.2 in
        let c = next b.1 b.2 in
        let d = next c.1 c.2 in
        item_place IsSimple simple_leaves f.header r stands d.0 d.1.middle
        (entities_each f.header d.0 d.1.middle d.1.first) d.2

    -- where one of its instances does
    pub instance_place : (i : ℕ × Record) → Stands i f.instances → ItemPlace Holds IsInstance i
    instance_place i stands =
        let a = next s h in
        let b = next a.1 a.2 in
        let c = next b.1 b.2 in
        let d = next c.1 c.2 in
        let entities = each_leaves IsSimple simple_leaves f.header d.0 d.1.middle
        (entities_each f.header d.0 d.1.middle d.1.first) d.2 in
        let e = next d.1.second entities in
        let k = next e.1 e.2 in
        let l = next k.1 k.2 in
        let m = next l.1 l.2 in
        item_place IsInstance instance_leaves f.instances i stands m.0 m.1.middle m.1.first m.2
