use Rattle.sb_step.proofs.Names.{sym, subst, IfOk-weaker, AreParameters, Awaits, AreAhead}
use Rattle.sb_step.proofs.ParameterLists.ParametersOfAnInstance.{behind_parenthesis, list_said}
use Rattle.sb_step.proofs.parameters.list_at.Goals as goal

pub list-requires-clause-awaits : goal.list-requires-clause-awaits
list-requires-clause-awaits c =
    behind_parenthesis c.next-opens.ensures
    (subst (Awaits AreParameters) (sym c.at-lexer.ensures) c.requires.awaits)

pub returns : goal.returns
returns c =
    IfOk-weaker c.list.result _ _
    (λ ps reads. λ qs xs rest ahead l. list_said c.next-opens.ensures reads qs xs rest
    (subst (λ r. AreAhead r xs) (sym c.at-lexer.ensures) ahead) l) c.list.ensures
