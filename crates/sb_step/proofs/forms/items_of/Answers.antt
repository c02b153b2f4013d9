use Rattle.std.proofs.Common.{Some, sym, ap, ◌∙◌}
use Rattle.sb_step.specs.declared.parameters.param.Param.TheVariants as param
use Rattle.sb_step.proofs.Cursors.FormsByToken.{first_list, list_is_open}
use Rattle.sb_step.proofs.forms.items_of.Goals as goal

pub inside-requires-clause-list : goal.inside-requires-clause-list
inside-requires-clause-list c =
    let first = first_list c.args.bytes.now c.args.first c.requires.0 c.requires.1
    (sym c.if-is_open.ensures) in
    (first.items, first.behind_it)

pub returns-then-is_open-clause-some : goal.returns-then-is_open-clause-some
returns-then-is_open-clause-some c = λ ps stands.
    let first = first_list c.args.bytes.now c.args.first ps stands (sym c.if-is_open.ensures) in
    first.is ∙ ap (λ qs. Some (param.List qs)) (sym (c.inside.ensures first.items first.behind_it))

pub returns-else-is_open-clause-none : goal.returns-else-is_open-clause-none
returns-else-is_open-clause-none c = λ ps qs stands none is.
    list_is_open c.args.bytes.now c.args.first ps qs stands (sym c.if-is_open.ensures) is
