-- A list is read to its end, parameter by parameter.
use Rattle.sb_step.proofs.Names.{◌≡◌, ℕ, ◌+◌, ◌-◌, ◌*◌, ◌<◌, ◌≤◌, true, false, List, [], ◌∷◌, ◌++◌, length, refl, sym, ap, ◌∙◌, subst, append_assoc, append-nil, arith, false≢true, Token, IsToken, Reading, Param, Lexeme, lexeme_at, is_close, IsParameter, AreFurther, HasNext, ReadsToken, AreAhead, Awaits, Reads, Behind, AreInList, NextItem, ReadsItem}
use Rattle.sb_step.proofs.Texts.ListsAreFollowed.{not_closed}
use Rattle.sb_step.proofs.ParameterLists.SaidIsParameter.{said_parameter}
use Rattle.sb_step.proofs.ParameterLists.ParametersAreRead.{awaits_token, nothing_in_list, item_read, input_stays, goes_further, stays_within}

-- where the reader stands behind a token that ends the list or begins its next parameter, what the
-- list says is the items so far and later ones
pub record ItemsSoFar (items : List Param) (y : Lexeme) (now : Reading) (ps : List Param)
    (rest : List Lexeme) : Type 0 where
  pub later : List Param
  pub next : NextItem y now later rest
  pub is : ps ≡ items ++ later

-- a list that was begun is read so far
pub record ReadSoFar (bytes : List ℕ) (entry now : Reading) (items : List Param) (t : Token)
    : Type 0 where
  pub entry_is : entry.input ≡ bytes
  pub input_is : now.input ≡ bytes
  pub further : entry.place < now.place
  pub within : now.place ≤ length bytes
  pub token : IsToken bytes t
  pub leads : (ps : List Param) (xs rest : List Lexeme) → AreAhead entry xs → AreInList ps xs rest
      → ItemsSoFar items (lexeme_at bytes t) now ps rest

-- there is a token behind the parenthesis
pub list_has_next : (at : Reading) → Awaits AreInList at → HasNext at
list_has_next at w = awaits_token AreInList nothing_in_list at w

module _ {bytes : List ℕ} {entry now : Reading} {t : Token} (read : ReadsToken entry now t)
    (entry_is : entry.input ≡ bytes) where
  first_item : (ps : List Param) (xs rest : List Lexeme) → AreAhead entry xs → AreInList ps xs rest
      → ItemsSoFar [] (lexeme_at bytes t) now ps rest
  first_item ps xs rest ahead l =
      let next = item_read read ps xs rest ahead l in
      let here = subst (λ i. NextItem (lexeme_at i t) now ps rest) entry_is next in
      record { later = ps; next = here; is = refl }

  -- nothing but its first token
  pub list_begins : (items : List Param) → items ≡ [] → ReadSoFar bytes entry now items t
  list_begins items none = record {
    entry_is = entry_is;
    input_is = input_stays read ∙ entry_is;
    further = goes_further read;
    within = subst (λ i. now.place ≤ length i) entry_is (stays_within read);
    token = subst (λ i. IsToken i t) entry_is read.next.token;
    leads = λ ps xs rest ahead l.
        subst (λ all. ItemsSoFar all (lexeme_at bytes t) now ps rest) (sym none)
        (first_item ps xs rest ahead l);
  }

-- the first of the later items
record GoesOn (later : List Param) (y : Lexeme) (ys rest : List Lexeme) : Type 0 where
  first : Param
  others : List Param
  is : later ≡ first ∷ others
  middle : List Lexeme
  says : IsParameter first (y ∷ ys) middle
  further : AreFurther others middle rest

-- the token does not end the list, so that a parameter begins with it
going_on : (y : Lexeme) (ys rest : List Lexeme) (later : List Param) → is_close y.token.kind ≡ false
    → AreInList later (y ∷ ys) rest → GoesOn later y ys rest
going_on y ys rest [] going c = absurd (false≢true (sym going ∙ ap is_close c.0))
going_on y ys rest (p ∷ ps) going j = record {
  first = p;
  others = ps;
  is = refl;
  middle = j.middle;
  says = j.first;
  further = j.second;
}

module _ {bytes : List ℕ} {entry now : Reading} {items : List Param} {t : Token}
    (read : ReadSoFar bytes entry now items t) where
  pub item_less : 2 * (length bytes - now.place) + 1 < 2 * (length bytes - entry.place)
  item_less = omega (arith, read.further, read.within)

  -- a parameter is awaited
  pub item_awaited : is_close t.kind ≡ false → Awaits AreInList entry
      → Awaits (Behind (lexeme_at bytes t) IsParameter) now
  item_awaited going w =
      let l = read.leads w.value w.xs w.rest w.ahead w.is in
      let g = going_on (lexeme_at bytes t) l.next.ys w.rest l.later going l.next.in_list in
      record {
        value = g.first;
        xs = l.next.ys;
        rest = g.middle;
        ahead = l.next.ahead;
        is = g.says;
      }

  module _ {b : Reading} {p : Param}
      (item : Reads (Behind (lexeme_at bytes t) IsParameter) now b p) where
    -- and what follows it
    pub next_awaited : is_close t.kind ≡ false → Awaits AreInList entry → Awaits AreFurther b
    next_awaited going w =
        let l = read.leads w.value w.xs w.rest w.ahead w.is in
        let g = going_on (lexeme_at bytes t) l.next.ys w.rest l.later going l.next.in_list in
        record {
          value = g.others;
          xs = g.middle;
          rest = w.rest;
          ahead = (item.leads g.first l.next.ys g.middle l.next.ahead g.says).1;
          is = g.further;
        }

    module _ {c : Reading} {u : Token} (next : ReadsItem b c u) where
      b_is : b.input ≡ bytes
      b_is = item.onward.input_is ∙ read.input_is

      item_more : is_close t.kind ≡ false → (ps : List Param) (xs rest : List Lexeme)
          → AreAhead entry xs → AreInList ps xs rest
          → ItemsSoFar (items ++ p ∷ []) (lexeme_at bytes u) c ps rest
      item_more going ps xs rest ahead in_list =
          let l = read.leads ps xs rest ahead in_list in
          let g = going_on (lexeme_at bytes t) l.next.ys rest l.later going l.next.in_list in
          let one = item.leads g.first l.next.ys g.middle l.next.ahead g.says in
          record {
            later = g.others;
            next = subst (λ i. NextItem (lexeme_at i u) c g.others rest) b_is
                (next.leads g.others g.middle rest one.1 g.further);
            is = l.is ∙ ap (λ k. items ++ k) (g.is ∙ ap (λ q. q ∷ g.others) one.0)
                ∙ sym (append_assoc items (p ∷ []) g.others);
          }

      -- one parameter more
      pub list_goes_on : (pushed : List Param) → pushed ≡ items ++ p ∷ []
          → is_close t.kind ≡ false → ReadSoFar bytes entry c pushed u
      list_goes_on pushed is going = record {
        entry_is = read.entry_is;
        input_is = next.input_is ∙ b_is;
        further = omega (arith, read.further, item.onward.place, next.further);
        within = subst (λ i. c.place ≤ length i) b_is next.within;
        token = subst (λ i. IsToken i u) b_is next.token;
        leads = λ ps xs rest ahead l.
            subst (λ all. ItemsSoFar all (lexeme_at bytes u) c ps rest) (sym is)
            (item_more going ps xs rest ahead l);
      }

  closed_by : (later : List Param) (rest : List Lexeme) → is_close t.kind ≡ true
      → NextItem (lexeme_at bytes t) now later rest → (later ≡ []) × AreAhead now rest
  closed_by [] rest closed n = (refl, subst (AreAhead now) (sym n.in_list.1) n.ahead)
  closed_by (p ∷ ps) rest closed n =
      absurd (false≢true (sym (not_closed (said_parameter n.in_list.first)) ∙ closed))

  -- where the token closes the list, all of it was read
  pub list_ends : is_close t.kind ≡ true → Reads AreInList entry now items
  list_ends closed = record {
    onward = record {
      input_is = read.input_is ∙ sym read.entry_is;
      place = omega (arith, read.further);
    };
    leads = λ ps xs rest ahead in_list.
        let l = read.leads ps xs rest ahead in_list in
        let none = closed_by l.later rest closed l.next in
        (l.is ∙ ap (λ k. items ++ k) none.0 ∙ append-nil items, none.1);
  }
