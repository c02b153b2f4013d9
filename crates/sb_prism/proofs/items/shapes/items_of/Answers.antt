use Rattle.std.proofs.Common.{arith}
use Rattle.sb_prism.proofs.Solids.ShapesAreRead.{one_at}
use Rattle.sb_prism.proofs.items.shapes.items_of.Goals as goal

pub returns-in_ok-solid : goal.returns-in_ok-solid
returns-in_ok-solid c =
    let (s, seen, is) = c.in_ok-solid.ensures in
    one_at c.args.file.now c.args.unit c.args.numbers.now s c.in_ok-solid.solid (omega (arith, c.if-numbers-eq1.true)) seen is
