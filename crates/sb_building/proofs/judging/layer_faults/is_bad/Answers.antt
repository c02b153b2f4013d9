use Rattle.std.proofs.Common.{Some, sym, ap, ◌∙◌}
use Rattle.sb_building.specs.Layerings.{has_bad_layers}
use Rattle.sb_building.proofs.Products.BadLayersOneByOne.{made_tells}
use Rattle.sb_building.proofs.judging.layer_faults.is_bad.Goals as goal

pub returns-clause-bad : goal.returns-clause-bad
returns-clause-bad c = λ said says.
    let (what, there) = c.in_ok-read_once.ensures.there in
    c.is_bad_by.ensures what there
    ∙ made_tells said c.args.unit (Some c.in-Some.number) what
    (c.in_ok-read_once.ensures.known said says c.in-Some.number what there)
    ∙ ap (has_bad_layers said c.args.unit) (sym c.in-Some.is)
