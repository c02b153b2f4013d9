-- The form of the next parameter shows in the token with which it begins.
use Rattle.std.proofs.Common.{◌≡◌, ℕ, List, [], ◌∷◌, Option, Some, false, true, refl, sym, ap, ◌∙◌, subst, inl, inr}
use Rattle.std.proofs.lemmas.Bool.{false≢true}
use Rattle.std.proofs.lemmas.Option.{same_Some}
use Rattle.std.specs.Prelude.{slice_get, slice_range}
use Rattle.sb_lex.specs.declared.kinds.Kind.{Kind}
use Rattle.sb_lex.specs.declared.kinds.Kind.TheVariants as kind
use Rattle.sb_lex.specs.declared.kinds.Mark.TheVariants as mark
use Rattle.sb_lex.specs.declared.kinds.Token.{Token}
use Rattle.sb_step.specs.declared.parameters.param.Param.{Param}
use Rattle.sb_step.specs.declared.parameters.param.Param.TheVariants as param
use Rattle.sb_step.specs.Lexemes.{Lexeme, lexeme_at, is_close, is_open}
use Rattle.sb_step.specs.Params.Parameters.{Says, Encloses}
use Rattle.sb_lex.specs.Bytes as byte
use Rattle.theory_bytes.specs.Insides.{inside_of}
use Rattle.theory_bytes.proofs.InsidesAreBetween.{inside-between}
use Rattle.sb_step.specs.Cursors.Cursor.{StandsAt, ListBehind}
use Rattle.sb_step.specs.Cursors.Forms.{reference_in, reference_or_none_in, number_in, integer_in, enumeration_in, is_null_in, is_dollar, name_of, name_or_none_of, number_text, integer_text, enumeration_text}
use Rattle.sb_step.proofs.KindsSay.{mark_says}
use Rattle.sb_step.proofs.ParameterLists.WhatListsSay.{SaysOn, TypedSays, says_on, list_on_mark}
use Rattle.sb_step.proofs.ParameterLists.ParametersAreUnique.{parameter_once}

-- the next parameter, and how it begins
record Next (bytes : List ℕ) (t : Token) (ps : List Param) : Type 0 where
  p : Param
  is : slice_get ps 0 ≡ Some p
  xs : List Lexeme
  rest : List Lexeme
  says : SaysOn p rest (lexeme_at bytes t ∷ xs)

next_of : (bytes : List ℕ) (t : Token) (ps : List Param) → StandsAt bytes t ps → Next bytes t ps
next_of bytes t [] s = absurd (false≢true (sym s.going ∙ ap is_close s.says.0))
next_of bytes t (p ∷ ps) s = record {
  p = p;
  is = refl;
  xs = s.xs;
  rest = s.says.middle;
  says = says_on s.says.first;
}

-- what a keyword says is a typed parameter
typed_is : (x : Lexeme) (p : Param) (rest xs : List Lexeme) → TypedSays x p rest xs
    → (inner : Param) × (p ≡ param.Typed x.text inner)
typed_is x p rest [] t = absurd t
typed_is x p rest (y ∷ xs) t = (t.inner, t.is)

-- A form is told by the first token where it is so of a token that says a parameter, and where lists
-- and typed parameters are not of it.
module _ {V : Type 0} (form : Option Param → V) (by_token : Kind → List ℕ → V)
    (by_value : (k : Kind) (text : List ℕ) (p : Param) → Says k text p
    → form (Some p) ≡ by_token k text)
    (no_list : (ps : List Param) (text : List ℕ) → form (Some (param.List ps))
    ≡ by_token (kind.Mark mark.Open) text)
    (no_typed : (name text : List ℕ) (p : Param) → form (Some (param.Typed name p))
    ≡ by_token kind.Keyword text) where
  pub told_by_token : (bytes : List ℕ) (t : Token) (ps : List Param) → StandsAt bytes t ps
      → form (slice_get ps 0) ≡ by_token t.kind (slice_range bytes t.start t.end)
  told_by_token bytes t ps s =
      let n = next_of bytes t ps s in
      ap form n.is ∙ by_case n.p n.rest n.xs n.says
    where
      text : List ℕ
      text = slice_range bytes t.start t.end

      by_case : (p : Param) (rest xs : List Lexeme) → SaysOn p rest (lexeme_at bytes t ∷ xs)
          → form (Some p) ≡ by_token t.kind (slice_range bytes t.start t.end)
      by_case p rest xs (inl v) = by_value t.kind (slice_range bytes t.start t.end) p v.0
      by_case p rest xs (inr (inl l)) =
          ap (λ q. form (Some q)) l.1.is ∙ no_list l.1.items (slice_range bytes t.start t.end)
          ∙ ap (λ k. by_token k (slice_range bytes t.start t.end)) (sym l.0)
      by_case p rest xs (inr (inr k)) =
          let q = typed_is (lexeme_at bytes t) p rest xs k.1 in
          ap (λ q. form (Some q)) q.1
          ∙ no_typed (lexeme_at bytes t).text (slice_range bytes t.start t.end) q.0
          ∙ ap (λ k. by_token k (slice_range bytes t.start t.end)) (sym k.0)

-- ---- form by form

reference_says : (k : Kind) (text : List ℕ) (p : Param) → Says k text p
    → reference_in (Some p) ≡ name_of k
reference_says kind.Integer text p says = ap (λ q. reference_in (Some q)) says
reference_says kind.Real text p says = ap (λ q. reference_in (Some q)) says
reference_says kind.Str text p says = ap (λ q. reference_in (Some q)) says.2
reference_says kind.Enumeration text p says = ap (λ q. reference_in (Some q)) says.2
reference_says kind.Binary text p says = ap (λ q. reference_in (Some q)) says.2
reference_says (kind.Name n) text p says = ap (λ q. reference_in (Some q)) says
reference_says (kind.Mark mark.Dollar) text p says = ap (λ q. reference_in (Some q)) says
reference_says (kind.Mark mark.Asterisk) text p says = ap (λ q. reference_in (Some q)) says
reference_says _ text p says = absurd says

-- a reference is a name
pub reference_is : (bytes : List ℕ) (t : Token) (ps : List Param) → StandsAt bytes t ps
    → reference_in (slice_get ps 0) ≡ name_of t.kind
reference_is =
    told_by_token reference_in (λ k text. name_of k) reference_says (λ ps text. refl)
    (λ name text p. refl)

reference_or_none_says : (k : Kind) (text : List ℕ) (p : Param) → Says k text p
    → reference_or_none_in (Some p) ≡ name_or_none_of k
reference_or_none_says kind.Integer text p says = ap (λ q. reference_or_none_in (Some q)) says
reference_or_none_says kind.Real text p says = ap (λ q. reference_or_none_in (Some q)) says
reference_or_none_says kind.Str text p says = ap (λ q. reference_or_none_in (Some q)) says.2
reference_or_none_says kind.Enumeration text p says =
    ap (λ q. reference_or_none_in (Some q)) says.2
reference_or_none_says kind.Binary text p says = ap (λ q. reference_or_none_in (Some q)) says.2
reference_or_none_says (kind.Name n) text p says = ap (λ q. reference_or_none_in (Some q)) says
reference_or_none_says (kind.Mark mark.Dollar) text p says =
    ap (λ q. reference_or_none_in (Some q)) says
reference_or_none_says (kind.Mark mark.Asterisk) text p says =
    ap (λ q. reference_or_none_in (Some q)) says
reference_or_none_says _ text p says = absurd says

-- a reference or `$` is a name or that mark
pub reference_or_none_is : (bytes : List ℕ) (t : Token) (ps : List Param) → StandsAt bytes t ps
    → reference_or_none_in (slice_get ps 0) ≡ name_or_none_of t.kind
reference_or_none_is =
    told_by_token reference_or_none_in (λ k text. name_or_none_of k) reference_or_none_says
    (λ ps text. refl) (λ name text p. refl)

number_says : (k : Kind) (text : List ℕ) (p : Param) → Says k text p
    → number_in (Some p) ≡ number_text k text
number_says kind.Integer text p says = ap (λ q. number_in (Some q)) says
number_says kind.Real text p says = ap (λ q. number_in (Some q)) says
number_says kind.Str text p says = ap (λ q. number_in (Some q)) says.2
number_says kind.Enumeration text p says = ap (λ q. number_in (Some q)) says.2
number_says kind.Binary text p says = ap (λ q. number_in (Some q)) says.2
number_says (kind.Name n) text p says = ap (λ q. number_in (Some q)) says
number_says (kind.Mark mark.Dollar) text p says = ap (λ q. number_in (Some q)) says
number_says (kind.Mark mark.Asterisk) text p says = ap (λ q. number_in (Some q)) says
number_says _ text p says = absurd says

-- a number is the text of an integer or a real
pub number_is : (bytes : List ℕ) (t : Token) (ps : List Param) → StandsAt bytes t ps
    → number_in (slice_get ps 0) ≡ number_text t.kind (slice_range bytes t.start t.end)
number_is =
    told_by_token number_in number_text number_says (λ ps text. refl) (λ name text p. refl)

integer_says : (k : Kind) (text : List ℕ) (p : Param) → Says k text p
    → integer_in (Some p) ≡ integer_text k text
integer_says kind.Integer text p says = ap (λ q. integer_in (Some q)) says
integer_says kind.Real text p says = ap (λ q. integer_in (Some q)) says
integer_says kind.Str text p says = ap (λ q. integer_in (Some q)) says.2
integer_says kind.Enumeration text p says = ap (λ q. integer_in (Some q)) says.2
integer_says kind.Binary text p says = ap (λ q. integer_in (Some q)) says.2
integer_says (kind.Name n) text p says = ap (λ q. integer_in (Some q)) says
integer_says (kind.Mark mark.Dollar) text p says = ap (λ q. integer_in (Some q)) says
integer_says (kind.Mark mark.Asterisk) text p says = ap (λ q. integer_in (Some q)) says
integer_says _ text p says = absurd says

-- an integer is the text of one
pub integer_is : (bytes : List ℕ) (t : Token) (ps : List Param) → StandsAt bytes t ps
    → integer_in (slice_get ps 0) ≡ integer_text t.kind (slice_range bytes t.start t.end)
integer_is =
    told_by_token integer_in integer_text integer_says (λ ps text. refl) (λ name text p. refl)

inside_is : (q : ℕ) (s text : List ℕ) → Encloses (q ∷ []) s text → s ≡ inside_of text
inside_is q s text e = sym (inside-between q q s) ∙ ap inside_of (sym e.whole)

enumeration_says : (k : Kind) (text : List ℕ) (p : Param) → Says k text p
    → enumeration_in (Some p) ≡ enumeration_text k text
enumeration_says kind.Integer text p says = ap (λ q. enumeration_in (Some q)) says
enumeration_says kind.Real text p says = ap (λ q. enumeration_in (Some q)) says
enumeration_says kind.Str text p says = ap (λ q. enumeration_in (Some q)) says.2
enumeration_says kind.Enumeration text p says =
    ap (λ q. enumeration_in (Some q)) says.2
    ∙ ap (λ s. Some s) (inside_is byte.point says.0 text says.1)
enumeration_says kind.Binary text p says = ap (λ q. enumeration_in (Some q)) says.2
enumeration_says (kind.Name n) text p says = ap (λ q. enumeration_in (Some q)) says
enumeration_says (kind.Mark mark.Dollar) text p says = ap (λ q. enumeration_in (Some q)) says
enumeration_says (kind.Mark mark.Asterisk) text p says = ap (λ q. enumeration_in (Some q)) says
enumeration_says _ text p says = absurd says

-- an enumeration is what is inside its token
pub enumeration_first : (bytes : List ℕ) (t : Token) (ps : List Param) → StandsAt bytes t ps
    → enumeration_in (slice_get ps 0)
    ≡ enumeration_text t.kind (slice_range bytes t.start t.end)
enumeration_first =
    told_by_token enumeration_in enumeration_text enumeration_says (λ ps text. refl)
    (λ name text p. refl)

-- ---- strings

-- the parameter is what its token says, where that says one
pub what_says_is_first : (bytes : List ℕ) (t : Token) (ps : List Param) → StandsAt bytes t ps
    → (p : Param) → Says t.kind (slice_range bytes t.start t.end) p → slice_get ps 0 ≡ Some p
what_says_is_first bytes t [] s p says = absurd (false≢true (sym s.going ∙ ap is_close s.says.0))
what_says_is_first bytes t (q ∷ ps) s p says =
    ap (λ q. Some q)
    (parameter_once s.says.first p s.xs (inl (says, refl))).0

-- ---- no value

null_says : (k : Kind) (text : List ℕ) (p : Param) → Says k text p
    → is_null_in (Some p) ≡ is_dollar k
null_says kind.Integer text p says = ap (λ q. is_null_in (Some q)) says
null_says kind.Real text p says = ap (λ q. is_null_in (Some q)) says
null_says kind.Str text p says = ap (λ q. is_null_in (Some q)) says.2
null_says kind.Enumeration text p says = ap (λ q. is_null_in (Some q)) says.2
null_says kind.Binary text p says = ap (λ q. is_null_in (Some q)) says.2
null_says (kind.Name n) text p says = ap (λ q. is_null_in (Some q)) says
null_says (kind.Mark mark.Dollar) text p says = ap (λ q. is_null_in (Some q)) says
null_says (kind.Mark mark.Asterisk) text p says = ap (λ q. is_null_in (Some q)) says
null_says _ text p says = absurd says

-- no value is the mark `$`
pub null_is : (bytes : List ℕ) (t : Token) (ps : List Param) → StandsAt bytes t ps
    → is_null_in (slice_get ps 0) ≡ is_dollar t.kind
null_is =
    told_by_token is_null_in (λ k text. is_dollar k) null_says (λ ps text. refl)
    (λ name text p. refl)

-- ---- lists

no_list : (k : Kind) (text : List ℕ) (qs : List Param) → Says k text (param.List qs) → ⊥
no_list kind.Integer text qs says = cc
no_list kind.Real text qs says = cc
no_list kind.Str text qs says = let other = says.2 in cc
no_list kind.Enumeration text qs says = let other = says.2 in cc
no_list kind.Binary text qs says = let other = says.2 in cc
no_list (kind.Name n) text qs says = cc
no_list (kind.Mark mark.Dollar) text qs says = cc
no_list (kind.Mark mark.Asterisk) text qs says = cc
no_list _ text qs says = says

typed_is_no_list : (p inner : Param) (name : List ℕ) (qs : List Param) → p ≡ param.Typed name inner
    → p ≡ param.List qs → ⊥
typed_is_no_list p inner name qs typed is = cc

-- where the token is no parenthesis, the parameter is no list
pub list_is_open : (bytes : List ℕ) (t : Token) (ps qs : List Param) → StandsAt bytes t ps
    → is_open t.kind ≡ false → slice_get ps 0 ≡ Some (param.List qs) → ⊥
list_is_open bytes t ps qs s other is =
    let n = next_of bytes t ps s in
    let same : n.p ≡ param.List qs = same_Some n.p (param.List qs) (sym n.is ∙ is) in
    by_case n.p n.rest n.xs n.says same
  where
    by_case : (p : Param) (rest xs : List Lexeme) → SaysOn p rest (lexeme_at bytes t ∷ xs)
        → p ≡ param.List qs → ⊥
    by_case p rest xs (inl v) same =
        no_list t.kind (slice_range bytes t.start t.end) qs
        (subst (Says t.kind (slice_range bytes t.start t.end)) same v.0)
    by_case p rest xs (inr (inl l)) same = false≢true (sym other ∙ ap is_open l.0)
    by_case p rest xs (inr (inr k)) same =
        let q = typed_is (lexeme_at bytes t) p rest xs k.1 in
        typed_is_no_list p q.0 (lexeme_at bytes t).text qs q.1 same

-- where it is one, the parameter is the list behind it
pub record FirstList (bytes : List ℕ) (t : Token) (ps : List Param) : Type 0 where
  pub items : List Param
  pub is : slice_get ps 0 ≡ Some (param.List items)
  pub behind_it : ListBehind bytes t items

pub first_list : (bytes : List ℕ) (t : Token) (ps : List Param) → StandsAt bytes t ps
    → is_open t.kind ≡ true → FirstList bytes t ps
first_list bytes t [] s opens = absurd (false≢true (sym s.going ∙ ap is_close s.says.0))
first_list bytes t (p ∷ ps) s opens =
    let l = list_on_mark p (lexeme_at bytes t) s.xs s.says.middle (mark_says mark.Open t.kind opens)
    (says_on s.says.first) in
    record {
      items = l.items;
      is = ap (λ q. Some q) l.is;
      behind_it = record {
        xs = s.xs;
        rest = s.says.middle;
        ahead = s.ahead;
        says = l.says;
      };
    }
