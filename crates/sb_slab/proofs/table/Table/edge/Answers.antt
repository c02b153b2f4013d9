-- Each edge reaches past the abscissa.
use Rattle.std.proofs.Common.{arith, ◌∙◌, ap, subst, IsTrue, get_or}
use Rattle.sb_slab.specs.Table.{is_table, item_at}
use Rattle.sb_slab.proofs.TableIsOver.{over_if_found}
use Rattle.sb_slab.proofs.table.Table.edge.Goals as goal

pub returns-in-Some-clause-value : goal.returns-in-Some-clause-value
returns-in-Some-clause-value c =
    c.in-Some.ensures.lookup.3.1 c.self.inside.first
    ∙ ap (λ list. get_or list c.args.i c.self.inside.first) c.as_slice.ensures.value
    ∙ ap (λ t. item_at t c.args.i) c.self.view_is

pub returns-in-Some-clause-over : goal.returns-in-Some-clause-over
returns-in-Some-clause-over c =
    over_if_found c.args.self.now c.args.i c.in-Some.edge.now
    (subst (λ t. IsTrue (is_table t)) c.self.view_is c.self.invariant)
    (returns-in-Some-clause-value c)

pub returns-in-None-clause-value : goal.returns-in-None-clause-value
returns-in-None-clause-value c =
    c.in-None.ensures.lookup.4 (omega arith) c.self.inside.first
    ∙ ap (λ list. get_or list c.args.i c.self.inside.first) c.as_slice.ensures.value
    ∙ ap (λ t. item_at t c.args.i) c.self.view_is

pub returns-in-None-clause-over : goal.returns-in-None-clause-over
returns-in-None-clause-over c =
    over_if_found c.args.self.now c.args.i c.self.inside.first
    (subst (λ t. IsTrue (is_table t)) c.self.view_is c.self.invariant)
    (returns-in-None-clause-value c)
