-- A reader behind a parameter of a list reads the token with which the list ends or goes on.
use Rattle.sb_step.proofs.Names.{⊎_elim, ◌⊎◌, ◌≡◌, ◌<◌, ◌≤◌, true, false, List, [], ◌∷◌, length, sym, ap, ◌∙◌, subst, inl, inr, arith, false≢true, Token, IsToken, Reading, Param, Lexeme, lexeme_at, is_comma, Rule, AreFurther, behind, HasNext, ReadsToken, AreAhead, Awaits, AreInList, NextItem, ReadsItem}
use Rattle.sb_step.proofs.ParameterLists.WhatListsSay.{FurtherOn, says_on, further_on}

-- one token

module _ {a b : Reading} {t : Token} (read : ReadsToken a b t) where
  -- the token was the first of the lexemes ahead, and the reader stands before the others
  pub passes : (x : Lexeme) (xs : List Lexeme) → AreAhead a (x ∷ xs)
      → (x ≡ lexeme_at a.input t) × AreAhead b xs
  passes x xs ahead =
      let same = read.only x.token ahead.0 in (
        ahead.1 ∙ ap (lexeme_at a.input) same,
        subst (λ r. AreAhead r xs) (sym read.moved)
            (subst (λ u. AreAhead (behind a.input u) xs) same ahead.2),
      )

  -- the input is the same
  pub input_stays : b.input ≡ a.input
  input_stays = ap (λ r. r.input) read.moved

  place_is : b.place ≡ t.end
  place_is = ap (λ r. r.place) read.moved

  -- it has moved on
  pub goes_further : a.place < b.place
  goes_further = omega (arith, place_is, read.lies.behind, read.lies.some)

  -- it is in the input
  pub stays_within : b.place ≤ length a.input
  stays_within = omega (arith, place_is, read.lies.within)

-- where a rule is awaited that never describes nothing, there is a token
pub awaits_token : {A : Type 0} (P : A → Rule)
    → ((a : A) (rest : List Lexeme) → P a [] rest → ⊥) → (at : Reading) → Awaits P at → HasNext at
awaits_token P never at w = by_first w.xs w.ahead w.is
  where
    by_first : (xs : List Lexeme) → AreAhead at xs → P w.value xs w.rest → HasNext at
    by_first [] ahead is = absurd (never w.value w.rest is)
    by_first (x ∷ xs) ahead is = (x.token, ahead.0)

-- a list is never described by nothing
pub nothing_in_list : (ps : List Param) (rest : List Lexeme) → AreInList ps [] rest → ⊥
nothing_in_list [] rest c = c
nothing_in_list (p ∷ ps) rest j = says_on j.first

-- behind a parameter of a list there is a token
pub more_has_next : (at : Reading) → Awaits AreFurther at → HasNext at
more_has_next at w = awaits_token AreFurther (λ ps rest m. further_on m) at w

module _ {a b : Reading} {t : Token} (read : ReadsToken a b t) where
  -- the token ends the list or begins its next parameter
  pub item_read : (ps : List Param) (xs rest : List Lexeme) → AreAhead a xs → AreInList ps xs rest
      → NextItem (lexeme_at a.input t) b ps rest
  item_read ps [] rest ahead l = absurd (nothing_in_list ps rest l)
  item_read ps (x ∷ xs) rest ahead l =
      let p = passes read x xs ahead in
      let in_list = subst (λ y. AreInList ps (y ∷ xs) rest) p.0 l in
      record { ys = xs; ahead = p.1; in_list = in_list }

  kind_is : (x : Lexeme) (xs : List Lexeme) → AreAhead a (x ∷ xs) → t.kind ≡ x.token.kind
  kind_is x xs ahead = ap (λ y. y.token.kind) (sym (passes read x xs ahead).0)

  -- behind a parameter it ends the list, or is a comma
  further_read : (ps : List Param) (xs rest : List Lexeme) → AreAhead a xs → FurtherOn ps rest xs
      → ((is_comma t.kind ≡ false) × NextItem (lexeme_at a.input t) b ps rest)
      ⊎ ((is_comma t.kind ≡ true) × (ys : List Lexeme) × AreAhead b ys × AreInList ps ys rest)
  further_read ps [] rest ahead on = absurd on
  further_read ps (x ∷ xs) rest ahead (inl c) =
      inl (ap is_comma (kind_is x xs ahead ∙ c.0), item_read ps (x ∷ xs) rest ahead c.1)
  further_read ps (x ∷ xs) rest ahead (inr m) =
      inr (ap is_comma (kind_is x xs ahead ∙ m.0), xs, (passes read x xs ahead).1, m.1)

  -- behind a comma there is a token
  pub comma_has_next : is_comma t.kind ≡ true → Awaits AreFurther a → HasNext b
  comma_has_next comma w =
      ⊎_elim (λ l. absurd (false≢true (sym l.0 ∙ comma)))
      (λ m. awaits_token AreInList nothing_in_list b
      (record { value = w.value; xs = m.1; rest = w.rest; ahead = m.2; is = m.3 }))
      (further_read w.value w.xs w.rest w.ahead (further_on w.is))

  -- where there is no comma the list ends
  pub reads_last : is_comma t.kind ≡ false → ReadsItem a b t
  reads_last none = record {
    input_is = input_stays read;
    further = goes_further read;
    within = stays_within read;
    token = read.next.token;
    leads = λ ps xs rest ahead m.
        ⊎_elim (λ l. l.1) (λ c. absurd (false≢true (sym none ∙ c.0)))
        (further_read ps xs rest ahead (further_on m));
  }

-- behind a comma the next parameter begins
pub reads_further : {a b c : Reading} {t u : Token} → ReadsToken a b t → ReadsToken b c u
    → is_comma t.kind ≡ true → ReadsItem a c u
reads_further {c = c} {u = u} read then comma =
    let input = input_stays read in
    record {
      input_is = input_stays then ∙ input;
      further = omega (arith, goes_further read, goes_further then);
      within = subst (λ i. c.place ≤ length i) input (stays_within then);
      token = subst (λ i. IsToken i u) input then.next.token;
      leads = λ ps xs rest ahead m.
          ⊎_elim (λ l. absurd (false≢true (sym l.0 ∙ comma)))
          (λ k. subst (λ i. NextItem (lexeme_at i u) c ps rest) input
          (item_read then ps k.1 rest k.2 k.3))
          (further_read read ps xs rest ahead (further_on m));
    }
