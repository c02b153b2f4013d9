-- What says parameters is a parameter list of the grammar, and says no other parameters.
use Rattle.sb_step.proofs.Names.{◌≡◌, ℕ, true, List, refl, Kind, Param, Lexeme, is_value, Parameter, ParameterList, MoreParameters, IsParameter, AreParameters, AreFurther}
use Rattle.sb_lex.specs.declared.kinds.Kind.TheVariants as kind
use Rattle.sb_lex.specs.declared.kinds.Mark.TheVariants as mark
use Rattle.sb_step.specs.Grammar.Parameter.{value as one, list as nested, typed as named}
use Rattle.sb_step.specs.Grammar.ParameterList.{empty as none, some as few}
use Rattle.sb_step.specs.Grammar.MoreParameters.{last as end, more as further}
use Rattle.sb_step.specs.Params.Parameters.{Says}
use Rattle.sb_step.specs.Params.Parameters.IsParameter.{value, list, typed}
use Rattle.sb_step.specs.Params.Parameters.AreParameters.{empty, some}
use Rattle.sb_step.specs.Params.Parameters.AreFurther.{last, more}

-- a token that says something is a parameter by itself
pub says_value : (k : Kind) (text : List ℕ) (p : Param) → Says k text p → is_value k ≡ true
says_value kind.Integer text p says = refl
says_value kind.Real text p says = refl
says_value kind.Str text p says = refl
says_value kind.Enumeration text p says = refl
says_value kind.Binary text p says = refl
says_value (kind.Name n) text p says = refl
says_value (kind.Mark mark.Dollar) text p says = refl
says_value (kind.Mark mark.Asterisk) text p says = refl
says_value _ text p says = absurd says

mutual
  -- what says a parameter is one
  pub said_parameter : {p : Param} {xs rest : List Lexeme} → IsParameter p xs rest
      → Parameter xs rest
  said_parameter (value {p = p} {x = x} says) = one (says_value x.token.kind x.text p says)
  said_parameter (list l) = nested (said_list l)
  said_parameter (typed k o p c) = named k o (said_parameter p) c

  -- what says parameters is a list
  pub said_list : {ps : List Param} {xs rest : List Lexeme} → AreParameters ps xs rest
      → ParameterList xs rest
  said_list (empty o c) = none o c
  said_list (some o p m) = few o (said_parameter p) (said_further m)

  -- what says further ones goes on with the list
  pub said_further : {ps : List Param} {xs rest : List Lexeme} → AreFurther ps xs rest
      → MoreParameters xs rest
  said_further (last c) = end c
  said_further (more c p m) = further c (said_parameter p) (said_further m)
