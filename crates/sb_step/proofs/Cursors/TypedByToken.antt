-- A keyword begins a typed parameter, whose argument stands in parentheses as a list of one.
use Rattle.std.proofs.Common.{◌≡◌, ℕ, true, false, List, [], ◌∷◌, Some, refl, sym, ap, ◌∙◌, subst}
use Rattle.std.proofs.lemmas.Bool.{false≢true}
use Rattle.std.specs.Prelude.{slice_get, slice_range}
use Rattle.sb_lex.specs.declared.kinds.Kind.{Kind}
use Rattle.sb_lex.specs.declared.kinds.Kind.TheVariants as kind
use Rattle.sb_lex.specs.declared.kinds.Token.{Token}
use Rattle.sb_lex.specs.Tokens.{Reading}
use Rattle.sb_step.specs.declared.parameters.param.Param.{Param}
use Rattle.sb_step.specs.declared.parameters.param.Param.TheVariants as param
use Rattle.sb_step.specs.Lexemes.{Lexeme, lexeme_at, is_value, is_close}
use Rattle.sb_step.specs.KindTests.{is_keyword}
use Rattle.sb_step.specs.Params.Parameters.{IsParameter}
use Rattle.sb_step.specs.Params.Parameters.IsParameter.{value, list, typed}
use Rattle.sb_step.specs.Params.Parameters.AreParameters.{empty, some}
use Rattle.sb_step.specs.Params.Parameters.AreFurther.{last}
use Rattle.sb_step.specs.Params.Readers.{HasNext, ReadsToken, AreAhead, AreInList, behind}
use Rattle.sb_step.specs.Cursors.Cursor.{StandsAt, ListBehind}
use Rattle.sb_step.specs.Cursors.Forms.{IsTyped}
use Rattle.sb_step.proofs.ParameterLists.SaidIsParameter.{says_value}
use Rattle.sb_step.proofs.ParameterLists.ParametersAreRead.{passes}

-- what a keyword goes on with
pub record Argument (p : Param) (rest : List Lexeme) (x y : Lexeme) (ys : List Lexeme) : Type 0 where
  pub inner : Param
  pub is : p ≡ param.Typed x.text inner
  pub says : AreInList (inner ∷ []) ys rest

-- a parameter, where it begins with a keyword
abbrev pub KeywordOn : Param → List Lexeme → List Lexeme → Type 0
KeywordOn p rest [] = ⊥
KeywordOn p rest (x ∷ []) = is_keyword x.token.kind ≡ true → ⊥
KeywordOn p rest (x ∷ (y ∷ ys)) = is_keyword x.token.kind ≡ true → Argument p rest x y ys

value_is_no_keyword : (k : Kind) → is_value k ≡ true → is_keyword k ≡ false
value_is_no_keyword kind.Keyword v = absurd (false≢true v)
value_is_no_keyword _ v = refl

no_keyword_on : (p : Param) (rest : List Lexeme) (x : Lexeme) (xs : List Lexeme)
    → is_keyword x.token.kind ≡ false → KeywordOn p rest (x ∷ xs)
no_keyword_on p rest x [] other = λ named. false≢true (sym other ∙ named)
no_keyword_on p rest x (y ∷ ys) other = λ named. absurd (false≢true (sym other ∙ named))

-- a parameter begins so
pub keyword_on : {p : Param} {xs rest : List Lexeme} → IsParameter p xs rest → KeywordOn p rest xs
keyword_on (value {p = p} {x = x} {rest = rest} says) =
    no_keyword_on p rest x rest
    (value_is_no_keyword x.token.kind (says_value x.token.kind x.text p says))
keyword_on (list {rest = rest} (empty {open_mark = x} {close_mark = y} o c)) =
    no_keyword_on (param.List []) rest x (y ∷ rest) (ap is_keyword o)
keyword_on (list {rest = rest} (some {open_mark = x} {p = p} {ps = ps} {xs = xs} o is others)) =
    no_keyword_on (param.List (p ∷ ps)) rest x xs (ap is_keyword o)
keyword_on (typed {keyword = x} {close_mark = e} {p = p} {rest = rest} k o is c) = λ named. record {
  inner = p;
  is = refl;
  says = record { middle = e ∷ rest; first = is; second = last c };
}

-- the typed parameter that is next, and the list of its argument
record TypedNext (bytes : List ℕ) (t : Token) (ps : List Param) : Type 0 where
  inner : Param
  is : slice_get ps 0 ≡ Some (param.Typed (slice_range bytes t.start t.end) inner)
  y : Lexeme
  ys : List Lexeme
  rest : List Lexeme
  ahead : AreAhead (behind bytes t) (y ∷ ys)
  says : AreInList (inner ∷ []) ys rest

typed_next : (bytes : List ℕ) (t : Token) (ps : List Param) → StandsAt bytes t ps
    → is_keyword t.kind ≡ true → TypedNext bytes t ps
typed_next bytes t [] s named = absurd (false≢true (sym s.going ∙ ap is_close s.says.0))
typed_next bytes t (p ∷ ps) s named = by_first s.xs s.ahead (keyword_on s.says.first)
  where
    by_first : (xs : List Lexeme) → AreAhead (behind bytes t) xs
        → KeywordOn p s.says.middle (lexeme_at bytes t ∷ xs) → TypedNext bytes t (p ∷ ps)
    by_first [] ahead on = absurd (on named)
    by_first (y ∷ ys) ahead on =
        let a = on named in
        record {
          inner = a.inner;
          is = ap (λ q. Some q) a.is;
          y = y;
          ys = ys;
          rest = s.says.middle;
          ahead = ahead;
          says = a.says;
        }

module _ (bytes : List ℕ) (t : Token) (b : Reading) (b_is : b ≡ behind bytes t) (ps : List Param)
    (s : StandsAt bytes t ps) (named : is_keyword t.kind ≡ true) where
  -- there is a parenthesis
  pub parenthesis_next : HasNext b
  parenthesis_next =
      let n = typed_next bytes t ps s named in
      (n.y.token, (subst (λ r. AreAhead r (n.y ∷ n.ys)) (sym b_is) n.ahead).0)

  -- behind it the argument is a list of one
  pub argument_behind : (c : Reading) (o : Token) → ReadsToken b c o
      → (p : Param) × IsTyped (slice_get ps 0) (slice_range bytes t.start t.end) (p ∷ [])
      × ListBehind bytes o (p ∷ [])
  argument_behind c o read =
      let n = typed_next bytes t ps s named in
      let p = passes read n.y n.ys
      (subst (λ r. AreAhead r (n.y ∷ n.ys)) (sym b_is) n.ahead) in (
        n.inner,
        (n.inner, n.is, refl),
        record {
          xs = n.ys;
          rest = n.rest;
          ahead = subst (λ i. AreAhead (behind i o) n.ys) (ap (λ r. r.input) b_is)
              (subst (λ r. AreAhead r n.ys) read.moved p.1);
          says = n.says;
        },
      )
