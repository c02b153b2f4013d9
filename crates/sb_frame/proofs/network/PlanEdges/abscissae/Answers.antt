-- These are the abscissae of the direction.
use Rattle.sb_fraction.specs.Lines.{arrow_along}
use Rattle.sb_frame.proofs.Along.AbscissaeFound.{are_abscissae, if_abscissae, if_sized}
use Rattle.sb_frame.proofs.network.PlanEdges.abscissae.Goals as goal

pub returns-clause-abscissae : goal.returns-clause-abscissae
returns-clause-abscissae c m is =
    if_abscissae m (arrow_along c.args.d) c.each_once-list.result.items c.numbers_of.result
    (are_abscissae m (arrow_along c.args.d) c.args.self.now is c.in_ok-all_abscissae.field-0.items
    c.each_once-list.result.items c.in_ok-all_abscissae.ensures c.each_once-list.ensures)
    c.as_slice.result.now c.as_slice.ensures.value c.numbers_of.ensures

pub returns-clause-size : goal.returns-clause-size
returns-clause-size c =
    if_sized c.numbers_of.result c.as_slice.result.now c.numbers_of.ensures
