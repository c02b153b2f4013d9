-- Behind the parenthesis of a list all its parameters are left.
use Rattle.std.proofs.Common.{◌≡◌, ℕ, true, false, List, [], ◌∷◌, Option, refl, sym, ap, ◌∙◌, subst, ◌⊎◌, inl, inr}
use Rattle.std.proofs.lemmas.Bool.{false≢true, cases_Bool}
use Rattle.sb_lex.specs.declared.kinds.Token.{Token}
use Rattle.sb_lex.specs.Tokens.{Reading, IsToken}
use Rattle.sb_step.specs.declared.parameters.param.Param.{Param}
use Rattle.sb_step.specs.Lexemes.{Lexeme, lexeme_at, is_close}
use Rattle.sb_step.specs.Params.Parameters.{AreParameters}
use Rattle.sb_step.specs.Params.Readers.{HasNext, ReadsToken, AreAhead, Awaits, AreInList, behind}
use Rattle.sb_step.specs.Cursors.Cursor.{StandsAt, AreLeft, ListBehind, unless_closed}
use Rattle.sb_step.proofs.Texts.ListsAreFollowed.{not_closed}
use Rattle.sb_step.proofs.ParameterLists.SaidIsParameter.{said_parameter}
use Rattle.sb_step.proofs.ParameterLists.ParametersAreRead.{passes, input_stays, nothing_in_list}
use Rattle.sb_step.proofs.ParameterLists.ListsAreRead.{list_has_next}
use Rattle.sb_step.specs.Params.ParamsAnswers.{reader_at, ListSays}
use Rattle.sb_step.proofs.ParameterLists.WhatListsSay.{ListSaysOn, list_says_on}

-- a list that is closed at once has no parameter
pub closed_is_empty : (ps : List Param) (x : Lexeme) (xs rest : List Lexeme)
    → is_close x.token.kind ≡ true → AreInList ps (x ∷ xs) rest → ps ≡ []
closed_is_empty [] x xs rest closed says = refl
closed_is_empty (p ∷ ps) x xs rest closed says =
    absurd (false≢true (sym (not_closed (said_parameter says.first)) ∙ closed))

module _ (input : List ℕ) (b c : Reading) (t : Token) (read : ReadsToken b c t)
    (is_input : b.input ≡ input) where
  -- where a token of a list was read, its parameters are left unless it ends the list
  pub left_in_list : (ps : List Param) (xs rest : List Lexeme) → AreAhead b xs
      → AreInList ps xs rest → AreLeft input (unless_closed t) ps
  left_in_list ps [] rest ahead says = absurd (nothing_in_list ps rest says)
  left_in_list ps (x ∷ xs) rest ahead says = by_close (cases_Bool (is_close t.kind))
    where
      p : (x ≡ lexeme_at b.input t) × AreAhead c xs
      p = passes read x xs ahead

      same : x ≡ lexeme_at input t
      same = p.0 ∙ ap (λ i. lexeme_at i t) is_input

      by_close : (is_close t.kind ≡ true) ⊎ (is_close t.kind ≡ false)
          → AreLeft input (unless_closed t) ps
      by_close (inl closed) =
          let none = closed_is_empty ps x xs rest (ap (λ y. is_close y.token.kind) same ∙ closed)
          says in
          rw closed none
      by_close (inr going) =
          let stands : StandsAt input t ps = record {
            token = subst (λ i. IsToken i t) is_input read.next.token;
            going = going;
            xs = xs;
            rest = rest;
            ahead = subst (λ i. AreAhead (behind i t) xs) is_input
                (subst (λ r. AreAhead r xs) read.moved p.1);
            says = subst (λ y. AreInList ps (y ∷ xs) rest) same says;
          } in
          rw going stands

-- behind the parenthesis all are left
pub left_of_list : (input : List ℕ) (a b c : Reading) (o t : Token) → ReadsToken a b o
    → ReadsToken b c t → b.input ≡ input → (ps : List Param) (xs rest : List Lexeme)
    → AreAhead a xs → AreParameters ps xs rest → AreLeft input (unless_closed t) ps
left_of_list input a b c o t opens read is_input ps xs rest ahead says =
    by_first xs ahead (list_says_on says)
  where
    by_first : (xs : List Lexeme) → AreAhead a xs → ListSaysOn ps rest xs
        → AreLeft input (unless_closed t) ps
    by_first [] ahead on = absurd on
    by_first (x ∷ xs) ahead on =
        left_in_list input b c t read is_input ps xs rest
        (passes opens x xs ahead).1 on.1

-- where a cursor begins at a list, the parameters that it says are left
module _ (bytes : List ℕ) (place : ℕ) (a b c : Reading) (o t : Token) (opens : ReadsToken a b o)
    (read : ReadsToken b c t) (a_is : a ≡ reader_at bytes place) (next : Option Token)
    (next_is : next ≡ unless_closed t) where
  pub all_left : (ps : List Param) (xs rest : List Lexeme) → AreAhead (reader_at bytes place) xs
      → AreParameters ps xs rest → AreLeft bytes next ps
  all_left ps xs rest ahead says =
      subst (λ n. AreLeft bytes n ps) (sym next_is)
      (left_of_list bytes a b c o t opens read
      (input_stays opens ∙ ap (λ r. r.input) a_is) ps xs rest
      (subst (λ r. AreAhead r xs) (sym a_is) ahead) says)

  -- there are some
  pub some_left : Awaits AreParameters (reader_at bytes place)
      → (ps : List Param) × AreLeft bytes next ps
  some_left w = (w.value, all_left w.value w.xs w.rest w.ahead w.is)

  -- and no others
  pub what_is_said : (qs : List Param) → ((ps : List Param) → AreLeft bytes next ps → qs ≡ ps)
      → ListSays bytes place qs
  what_is_said qs only ps xs rest ahead l = sym (only ps (all_left ps xs rest ahead l))

-- ---- inside a list

module _ (bytes : List ℕ) (o : Token) (b : Reading) (b_is : b ≡ behind bytes o) (ps : List Param)
    (l : ListBehind bytes o ps) where
  -- there is a token behind its parenthesis
  pub inside_has_next : HasNext b
  inside_has_next =
      list_has_next b (record {
        value = ps;
        xs = l.xs;
        rest = l.rest;
        ahead = subst (λ r. AreAhead r l.xs) (sym b_is) l.ahead;
        is = l.says;
      })

  -- and its parameters are left
  pub inside_left : (c : Reading) (t : Token) → ReadsToken b c t → (next : Option Token)
      → next ≡ unless_closed t → AreLeft bytes next ps
  inside_left c t read next next_is =
      subst (λ n. AreLeft bytes n ps) (sym next_is)
      (left_in_list bytes b c t read (ap (λ r. r.input) b_is) ps l.xs l.rest
      (subst (λ r. AreAhead r l.xs) (sym b_is) l.ahead) l.says)
