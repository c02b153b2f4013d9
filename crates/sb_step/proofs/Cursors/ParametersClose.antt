-- A parameter closes as many parentheses as it opens.
use Rattle.std.proofs.Common.{◌≡◌, ℕ, suc, true, List, [], ◌∷◌, refl, sym, ap, subst}
use Rattle.std.proofs.lemmas.Bool.{false≢true}
use Rattle.sb_lex.specs.declared.kinds.Kind.{Kind}
use Rattle.sb_lex.specs.declared.kinds.Kind.TheVariants as kind
use Rattle.sb_lex.specs.declared.kinds.Mark.TheVariants as mark
use Rattle.sb_step.specs.declared.parameters.param.Param.{Param}
use Rattle.sb_step.specs.Lexemes.{Lexeme, is_value}
use Rattle.sb_step.specs.Grammar.{Parameter, ParameterList, MoreParameters}
use Rattle.sb_step.specs.Grammar.Parameter.{value, list, typed}
use Rattle.sb_step.specs.Grammar.ParameterList.{empty, some}
use Rattle.sb_step.specs.Grammar.MoreParameters.{last, more}
use Rattle.sb_step.specs.Params.Readers.{AreInList}
use Rattle.sb_step.specs.Cursors.Passing.{depth_behind, Closes}
use Rattle.sb_step.proofs.ParameterLists.SaidIsParameter.{said_parameter, said_further}

-- a value leaves as many open as there were
pub value_keeps : (n : ℕ) (k : Kind) → is_value k ≡ true → depth_behind n k ≡ n
value_keeps n kind.Integer v = refl
value_keeps n kind.Real v = refl
value_keeps n kind.Str v = refl
value_keeps n kind.Enumeration v = refl
value_keeps n kind.Binary v = refl
value_keeps n (kind.Name m) v = refl
value_keeps n (kind.Mark mark.Dollar) v = refl
value_keeps n (kind.Mark mark.Asterisk) v = refl
value_keeps n _ v = absurd (false≢true v)

-- where a lexeme leaves so many open, what follows it closes those
closes_on : (depth after : ℕ) (x : Lexeme) (xs rest : List Lexeme)
    → depth_behind (suc depth) x.token.kind ≡ after → Closes after xs rest
    → Closes (suc depth) (x ∷ xs) rest
closes_on depth after x xs rest is closes = subst (λ n. Closes n xs rest) (sym is) closes

mutual
  -- behind a parameter as many are open as before it
  pub parameter_closes : {xs ys : List Lexeme} → Parameter xs ys → (depth : ℕ)
      (rest : List Lexeme) → Closes (suc depth) ys rest → Closes (suc depth) xs rest
  parameter_closes (value {x = x} {rest = ys} v) depth rest closes =
      closes_on depth (suc depth) x ys rest (value_keeps (suc depth) x.token.kind v) closes
  parameter_closes (list l) depth rest closes = list_closes l depth rest closes
  parameter_closes (typed {keyword = x} {open_mark = o} {close_mark = e} {xs = xs} {rest = ys} k m
      p c) depth rest closes =
      let behind_all = closes_on (suc depth) (suc depth) e ys rest (ap (depth_behind (suc (suc depth))) c)
      closes in
      let inner = parameter_closes p (suc depth) rest behind_all in
      closes_on depth (suc depth) x (o ∷ xs) rest (ap (depth_behind (suc depth)) k)
      (closes_on depth (suc (suc depth)) o xs rest (ap (depth_behind (suc depth)) m) inner)

  -- and behind a list
  pub list_closes : {xs ys : List Lexeme} → ParameterList xs ys → (depth : ℕ)
      (rest : List Lexeme) → Closes (suc depth) ys rest → Closes (suc depth) xs rest
  list_closes (empty {open_mark = o} {close_mark = e} {rest = ys} m c) depth rest closes =
      closes_on depth (suc (suc depth)) o (e ∷ ys) rest (ap (depth_behind (suc depth)) m)
      (closes_on (suc depth) (suc depth) e ys rest (ap (depth_behind (suc (suc depth))) c) closes)
  list_closes (some {open_mark = o} {xs = xs} m p others) depth rest closes =
      closes_on depth (suc (suc depth)) o xs rest (ap (depth_behind (suc depth)) m)
      (parameter_closes p (suc depth) rest (more_closes others (suc depth) rest closes))

  -- what follows a parameter closes the parenthesis of its list
  pub more_closes : {xs ys : List Lexeme} → MoreParameters xs ys → (depth : ℕ)
      (rest : List Lexeme) → Closes depth ys rest → Closes (suc depth) xs rest
  more_closes (last {close_mark = e} {rest = ys} c) depth rest closes =
      closes_on depth depth e ys rest (ap (depth_behind (suc depth)) c) closes
  more_closes (more {comma = x} {xs = xs} c p others) depth rest closes =
      closes_on depth (suc depth) x xs rest (ap (depth_behind (suc depth)) c)
      (parameter_closes p depth rest (more_closes others depth rest closes))

-- behind its parenthesis a list closes one
pub list_closes_one : (ps : List Param) (xs rest : List Lexeme) → AreInList ps xs rest
    → Closes 1 xs rest
list_closes_one [] [] rest c = absurd c
list_closes_one [] (x ∷ xs) rest c = closes_on 0 0 x xs rest (ap (depth_behind 1) c.0) c.1
list_closes_one (p ∷ ps) xs rest j =
    parameter_closes (said_parameter j.first) 0 rest
    (more_closes (said_further j.second) 0 rest refl)
