use Rattle.std.proofs.Common.{Some, sym, subst}
use Rattle.std.specs.Option.{option_copied}
use Rattle.std.proofs.lemmas.Result.{IfOk-weaker}
use Rattle.sb_building.specs.Layerings.{IsLayeringOf}
use Rattle.sb_building.proofs.Known.MadeOnce.{layering_is}
use Rattle.sb_building.proofs.once.layering_of.Goals as goal

pub returns-clause-layering : goal.returns-clause-layering
returns-clause-layering c =
    let (what, there) = c.in_ok-read_once.ensures.there in
    IfOk-weaker c.layering_by.result _ _
    (λ layering by said says.
    subst
    (λ m. IsLayeringOf said c.args.unit (option_copied c.args.keyword) c.args.prism.now c.args.turn m layering)
    (sym c.in-Some.is)
    (layering_is said c.args.unit (option_copied c.args.keyword) c.args.prism.now c.args.turn
    (Some c.in-Some.number) what layering
    (c.in_ok-read_once.ensures.known said says c.in-Some.number what there) (by what there)))
    c.layering_by.ensures
