-- A parameter list says one list of parameters, and ends at one place.
use Rattle.sb_step.proofs.Names.{◌≡◌, ℕ, List, [], ◌∷◌, refl, sym, ap, ◌∙◌, subst, inl, inr, false≢true, Kind, Param, Lexeme, is_close, doubled, Encloses, IsParameter, AreParameters, AreFurther, inside-between}
use Rattle.sb_lex.specs.Bytes as byte
use Rattle.sb_lex.specs.declared.kinds.Kind.TheVariants as kind
use Rattle.sb_lex.specs.declared.kinds.Mark.TheVariants as mark
use Rattle.sb_step.specs.declared.parameters.param.Param.TheVariants as param
use Rattle.sb_step.specs.Params.Parameters.{Says}
use Rattle.sb_step.specs.Params.Parameters.IsParameter.{value, list, typed}
use Rattle.sb_step.specs.Params.Parameters.AreParameters.{empty, some}
use Rattle.sb_step.specs.Params.Parameters.AreFurther.{last, more}
use Rattle.theory_bytes.specs.Insides.{inside_of}
use Rattle.sb_step.proofs.ParameterLists.DoubledApostrophes.{doubled_once}
use Rattle.sb_step.proofs.ParameterLists.WhatListsSay.{SaysOn, ListSaysOn, FurtherOn, list_says_on, says_on, further_on, never_closed, value_is_no_mark, value_is_no_keyword, list_on_mark, typed_on_keyword}

-- one token

same_inside : (q : ℕ) (s u text : List ℕ) → Encloses (q ∷ []) s text → Encloses (q ∷ []) u text
    → s ≡ u
same_inside q s u text a b =
    sym (inside-between q q s) ∙ ap inside_of (sym a.whole ∙ b.whole) ∙ inside-between q q u

-- a token says one thing
pub says_once : (k : Kind) (text : List ℕ) (p q : Param) → Says k text p → Says k text q → p ≡ q
says_once kind.Integer text p q a b = a ∙ sym b
says_once kind.Real text p q a b = a ∙ sym b
says_once kind.Str text p q a b =
    let same = same_inside byte.apostrophe (doubled a.0) (doubled b.0) text a.1 b.1 in
    a.2 ∙ ap (λ s. param.Str s) (doubled_once a.0 b.0 same) ∙ sym b.2
says_once kind.Enumeration text p q a b =
    a.2 ∙ ap (λ s. param.Enumeration s) (same_inside byte.point a.0 b.0 text a.1 b.1) ∙ sym b.2
says_once kind.Binary text p q a b =
    a.2 ∙ ap (λ s. param.Binary s) (same_inside byte.quote a.0 b.0 text a.1 b.1) ∙ sym b.2
says_once (kind.Name n) text p q a b = a ∙ sym b
says_once (kind.Mark mark.Dollar) text p q a b = a ∙ sym b
says_once (kind.Mark mark.Asterisk) text p q a b = a ∙ sym b
says_once _ text p q a b = absurd a

-- the list that a parameter is, if it begins with a parenthesis
opened_list : (ps : List Param) (xs rest : List Lexeme) (q : Param) (other : List Lexeme)
    → ListSaysOn ps rest xs → SaysOn q other xs
    → (qs : List Param) × (q ≡ param.List qs) × ListSaysOn qs other xs
opened_list ps [] rest q other o on = absurd o
opened_list ps (x ∷ xs) rest q other o on =
    let l = list_on_mark q x xs other o.0 on in (l.items, l.is, (o.0, l.says))

mutual
  -- a parameter says one thing
  pub parameter_once : {p : Param} {xs rest : List Lexeme} → IsParameter p xs rest
      → (q : Param) (other : List Lexeme) → SaysOn q other xs → (p ≡ q) × (rest ≡ other)
  parameter_once (value {p = p} {x = x} says) q other (inl v) =
      (says_once x.token.kind x.text p q says v.0, sym v.1)
  parameter_once (value {p = p} {x = x} says) q other (inr (inl l)) =
      absurd (value_is_no_mark x p says l.0)
  parameter_once (value {p = p} {x = x} says) q other (inr (inr t)) =
      absurd (value_is_no_keyword x p says t.0)
  parameter_once (list {ps = ps} {xs = xs} {rest = rest} l) q other on =
      let o = opened_list ps xs rest q other (list_says_on l) on in
      let once = list_once l o.0 other o.2 in
      (ap (λ items. param.List items) once.0 ∙ sym o.1, once.1)
  parameter_once (typed {keyword = x} {open_mark = y} {close_mark = c} {p = p} {xs = xs}
      {rest = rest} k o says e) q other on =
      let t = typed_on_keyword q x (y ∷ xs) other k on in
      let once = parameter_once says t.inner (t.close_mark ∷ other) (says_on t.says) in
      let tails : c ∷ rest ≡ t.close_mark ∷ other = once.1 in
      (ap (λ inner. param.Typed x.text inner) once.0 ∙ sym t.is, cc)

  list_once : {ps : List Param} {xs rest : List Lexeme} → AreParameters ps xs rest
      → (qs : List Param) (other : List Lexeme) → ListSaysOn qs other xs
      → (ps ≡ qs) × (rest ≡ other)
  list_once (empty o c) [] other on = (refl, sym on.1.1)
  list_once (empty {close_mark = x} {rest = rest} o c) (q ∷ qs) other on =
      absurd (never_closed (x ∷ rest) rest on.1.first (c, refl))
  list_once (some {xs = xs} o one m) [] other on = absurd (never_closed xs other one on.1)
  list_once (some o one m) (q ∷ qs) other on =
      let first = parameter_once one q on.1.middle (says_on on.1.first) in
      let later = further_once m qs other
      (subst (λ l. FurtherOn qs other l) (sym first.1) (further_on on.1.second)) in
      ((λ i. first.0 i ∷ later.0 i), later.1)

  further_once : {ps : List Param} {xs rest : List Lexeme} → AreFurther ps xs rest
      → (qs : List Param) (other : List Lexeme) → FurtherOn qs other xs
      → (ps ≡ qs) × (rest ≡ other)
  further_once (last c) [] other (inl e) = (refl, sym e.1.1)
  further_once (last {close_mark = x} {rest = rest} c) (q ∷ qs) other (inl e) =
      absurd (never_closed (x ∷ rest) rest e.1.first (c, refl))
  further_once (last {close_mark = x} c) qs other (inr m) =
      absurd (false≢true (sym (ap is_close m.0) ∙ ap is_close c))
  further_once (more {comma = x} c one others) qs other (inl e) =
      absurd (false≢true (sym (ap is_close c) ∙ ap is_close e.0))
  further_once (more {xs = xs} c one others) [] other (inr m) = absurd (never_closed xs other one m.1)
  further_once (more c one others) (q ∷ qs) other (inr m) =
      let first = parameter_once one q m.1.middle (says_on m.1.first) in
      let later = further_once others qs other
      (subst (λ l. FurtherOn qs other l) (sym first.1) (further_on m.1.second)) in
      ((λ i. first.0 i ∷ later.0 i), later.1)

-- a list of lexemes says one list of parameters
pub parameters_are_unique : (ps qs : List Param) (xs rest other : List Lexeme)
    → AreParameters ps xs rest → AreParameters qs xs other → (ps ≡ qs) × (rest ≡ other)
parameters_are_unique ps qs xs rest other a b = list_once a qs other (list_says_on b)
