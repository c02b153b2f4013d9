-- A cell that does not lie under the top is a run of its own.
use Rattle.std.proofs.Common.{sym, ◌∙◌, ap, ◌++◌, ◌∷◌, []}
use Rattle.sb_join.proofs.Stacked.{on_ok, lay_own}
use Rattle.sb_join.proofs.runs.lay.Goals as goal

pub returns : goal.returns
returns c =
    on_ok
    (λ items.
    lay_own _ _ _ _ _ _ c.in-Some.ensures.items
    (sym c.is_raised_by.ensures ∙ c.if-is_raised_by.false)
    (items ∙ ap (λ xs. xs ++ c.in_ok-run_of-2.field-0 ∷ []) c.in_ok-push.ensures)
    c.in_ok-run_of-2.ensures)
    c.push-3.result c.push-3.ensures
