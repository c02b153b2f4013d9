-- Wherever a cursor stands, there is one list of parameters that are left.
use Rattle.std.proofs.Common.{◌≡◌, ℕ, List, [], ◌∷◌, Option, Some, None, refl, sym, ◌∙◌, subst}
use Rattle.sb_lex.specs.declared.kinds.Kind.TheVariants as kind
use Rattle.sb_lex.specs.declared.kinds.Mark.TheVariants as mark
use Rattle.sb_lex.specs.declared.kinds.Token.{Token}
use Rattle.sb_lex.specs.Tokens.{TokensBehindAPlaceAreUnique}
use Rattle.sb_step.specs.declared.parameters.param.Param.{Param}
use Rattle.sb_step.specs.Lexemes.{Lexeme, lexeme_at, IsMark}
use Rattle.sb_step.specs.Params.Parameters.{AreParameters}
use Rattle.sb_step.specs.Params.Parameters.AreParameters.{empty, some}
use Rattle.sb_step.specs.Params.Readers.{AreInList, behind}
use Rattle.std.specs.Coded.{Coded-set, coded_list}
use Rattle.sb_step.specs.contracts.parameters.param.Param as param
use Rattle.sb_step.specs.Cursors.Cursor.{AreLeft, LeftAreUnique, Left, left_once}
use Rattle.sb_step.proofs.ParameterLists.ParametersOfAnInstance.{ahead_once}
use Rattle.sb_step.proofs.ParameterLists.ParametersAreUnique.{parameters_are_unique}

-- behind a parenthesis a whole list is left
said_behind : (x : Lexeme) (ps : List Param) (xs rest : List Lexeme) → IsMark mark.Open x
    → AreInList ps xs rest → AreParameters ps (x ∷ xs) rest
said_behind x [] [] rest o says = absurd says
said_behind x [] (y ∷ xs) rest o says =
    subst (λ r. AreParameters [] (x ∷ y ∷ xs) r) (sym says.1) (empty o says.0)
said_behind x (p ∷ ps) xs rest o says = some o says.first says.second

-- a parenthesis, before which what is left is a whole list
abbrev parenthesis : Lexeme
parenthesis = record {
  token = record { kind = kind.Mark mark.Open; start = 0; end = 1 };
  text = [];
}

-- what is left is one list
pub left_are_unique : TokensBehindAPlaceAreUnique → LeftAreUnique
left_are_unique one_list input None ps qs a b = a ∙ sym b
left_are_unique one_list input (Some t) ps qs a b =
    let y = lexeme_at input t in
    let same = ahead_once one_list (behind input t) a.xs b.xs a.ahead b.ahead in
    (parameters_are_unique ps qs (parenthesis ∷ y ∷ b.xs) a.rest b.rest
    (subst (λ l. AreParameters ps (parenthesis ∷ y ∷ l) a.rest) same
    (said_behind parenthesis ps (y ∷ a.xs) a.rest refl a.says))
    (said_behind parenthesis qs (y ∷ b.xs) b.rest refl b.says)).0

-- lists of parameters are data
params_set : IsSet (List Param)
params_set = Coded-set (coded_list param.the_row.coded)

-- what is kept is what is left
pub kept_is : LeftAreUnique → (input : List ℕ) (next : Option Token) (kept : Left input next)
    (ps : List Param) → AreLeft input next ps → kept.0 ≡ ps
kept_is unique input next kept ps left =
    left_once params_set unique input next kept (ps, ∣ left ∣₁)
