-- How a list of lexemes begins that says a parameter, and what it says there.
use Rattle.sb_step.proofs.Names.{◌≡◌, ◌⊎◌, false, List, [], ◌∷◌, refl, sym, ap, ◌∙◌, inl, inr, false≢true, Param, Lexeme, is_value, is_close, is_open, IsMark, IsKeyword, One, is_keyword, IsParameter, AreParameters, AreFurther, AreInList}
use Rattle.sb_lex.specs.declared.kinds.Mark.TheVariants as mark
use Rattle.sb_step.specs.declared.parameters.param.Param.TheVariants as param
use Rattle.sb_step.specs.Params.Parameters.{Says}
use Rattle.sb_step.specs.Params.Parameters.IsParameter.{value, list, typed}
use Rattle.sb_step.specs.Params.Parameters.AreParameters.{empty, some}
use Rattle.sb_step.specs.Params.Parameters.AreFurther.{last, more}
use Rattle.sb_step.proofs.Texts.ListsAreFollowed.{not_closed}
use Rattle.sb_step.proofs.ParameterLists.SaidIsParameter.{says_value, said_parameter}

-- a list
pub record SaysList (p : Param) (rest xs : List Lexeme) : Type 0 where
  pub items : List Param
  pub is : p ≡ param.List items
  pub says : AreInList items xs rest

-- a keyword with its parameter
pub record SaysTyped (x : Lexeme) (p : Param) (rest ys : List Lexeme) : Type 0 where
  pub inner : Param
  pub close_mark : Lexeme
  pub is : p ≡ param.Typed x.text inner
  pub says : IsParameter inner ys (close_mark ∷ rest)

-- what a keyword goes on with, where it says this parameter
abbrev pub TypedSays : Lexeme → Param → List Lexeme → List Lexeme → Type 0
TypedSays x p rest [] = ⊥
TypedSays x p rest (y ∷ ys) = SaysTyped x p rest ys

-- what a parameter goes on with behind its first lexeme
abbrev pub SaysOn : Param → List Lexeme → List Lexeme → Type 0
SaysOn p rest [] = ⊥
SaysOn p rest (x ∷ xs) = (Says x.token.kind x.text p × (rest ≡ xs))
    ⊎ ((IsMark mark.Open x × SaysList p rest xs) ⊎ (IsKeyword x × TypedSays x p rest xs))

-- what a list goes on with behind its parenthesis
abbrev pub ListSaysOn : List Param → List Lexeme → List Lexeme → Type 0
ListSaysOn ps rest [] = ⊥
ListSaysOn ps rest (x ∷ xs) = IsMark mark.Open x × AreInList ps xs rest

-- what follows a parameter of a list: the end of the list, or a comma and a parameter
abbrev pub FurtherOn : List Param → List Lexeme → List Lexeme → Type 0
FurtherOn ps rest [] = ⊥
FurtherOn ps rest (x ∷ xs) = (IsMark mark.Close x × AreInList ps (x ∷ xs) rest)
    ⊎ (IsMark mark.Comma x × AreInList ps xs rest)

-- a list goes on so
pub list_says_on : {ps : List Param} {xs rest : List Lexeme} → AreParameters ps xs rest
    → ListSaysOn ps rest xs
list_says_on (empty o c) = (o, (c, refl))
list_says_on (some {ys = ys} o p m) = (o, record { middle = ys; first = p; second = m })

parameter_is_list : (ps : List Param) (xs rest : List Lexeme) → ListSaysOn ps rest xs
    → SaysOn (param.List ps) rest xs
parameter_is_list ps [] rest on = on
parameter_is_list ps (x ∷ xs) rest on =
    inr (inl (on.0, record { items = ps; is = refl; says = on.1 }))

-- a parameter goes on so
pub says_on : {p : Param} {xs rest : List Lexeme} → IsParameter p xs rest → SaysOn p rest xs
says_on (value says) = inl (says, refl)
says_on (list {ps = ps} {xs = xs} {rest = rest} l) = parameter_is_list ps xs rest (list_says_on l)
says_on (typed {close_mark = c} {p = p} k o says e) =
    inr (inr (k, record { inner = p; close_mark = c; is = refl; says = says }))

-- and so does what follows one
pub further_on : {ps : List Param} {xs rest : List Lexeme} → AreFurther ps xs rest
    → FurtherOn ps rest xs
further_on (last c) = inl (c, (c, refl))
further_on (more {ys = ys} c one others) =
    inr (c, record { middle = ys; first = one; second = others })

-- no parameter begins with a closing parenthesis
pub never_closed : {p : Param} (xs : List Lexeme) {ys : List Lexeme} (rest : List Lexeme)
    → IsParameter p xs ys → One (IsMark mark.Close) xs rest → ⊥
never_closed [] rest is one = one
never_closed (x ∷ xs) rest is one =
    false≢true (sym (not_closed (said_parameter is)) ∙ ap is_close one.0)

-- what a lexeme is, where it is also something else
module _ (x : Lexeme) where
  -- no value is a parenthesis
  pub value_is_no_mark : (p : Param) → Says x.token.kind x.text p → IsMark mark.Open x → ⊥
  value_is_no_mark p says o =
      false≢true (sym (ap is_value o) ∙ says_value x.token.kind x.text p says)

  -- nor a keyword
  pub value_is_no_keyword : (p : Param) → Says x.token.kind x.text p → IsKeyword x → ⊥
  value_is_no_keyword p says k =
      false≢true (sym (ap is_value k) ∙ says_value x.token.kind x.text p says)

  -- no keyword is a parenthesis
  pub mark_is_no_keyword : IsMark mark.Open x → IsKeyword x → ⊥
  mark_is_no_keyword o k = false≢true (sym (ap is_keyword o) ∙ ap is_keyword k)

-- what a parenthesis begins is a list
pub list_on_mark : (p : Param) (x : Lexeme) (xs rest : List Lexeme) → IsMark mark.Open x
    → SaysOn p rest (x ∷ xs) → SaysList p rest xs
list_on_mark p x xs rest o (inl v) = absurd (value_is_no_mark x p v.0 o)
list_on_mark p x xs rest o (inr (inl l)) = l.1
list_on_mark p x xs rest o (inr (inr t)) = absurd (mark_is_no_keyword x o t.0)

-- what a keyword begins is a parameter with its name
pub typed_on_keyword : (p : Param) (x : Lexeme) (xs rest : List Lexeme) → IsKeyword x
    → SaysOn p rest (x ∷ xs) → TypedSays x p rest xs
typed_on_keyword p x xs rest k (inl v) = absurd (value_is_no_keyword x p v.0 k)
typed_on_keyword p x xs rest k (inr (inl l)) = absurd (mark_is_no_keyword x l.0 k)
typed_on_keyword p x xs rest k (inr (inr t)) = t.1

-- what neither begins is a value
pub value_on_other : (p : Param) (x : Lexeme) (xs rest : List Lexeme)
    → is_keyword x.token.kind ≡ false → is_open x.token.kind ≡ false → SaysOn p rest (x ∷ xs)
    → Says x.token.kind x.text p × (rest ≡ xs)
value_on_other p x xs rest no_keyword no_list (inl v) = v
value_on_other p x xs rest no_keyword no_list (inr (inl l)) =
    absurd (false≢true (sym no_list ∙ ap is_open l.0))
value_on_other p x xs rest no_keyword no_list (inr (inr t)) =
    absurd (false≢true (sym no_keyword ∙ ap is_keyword t.0))
