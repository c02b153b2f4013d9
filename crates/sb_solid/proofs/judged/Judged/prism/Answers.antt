use Rattle.std.proofs.Common.{subst}
use Rattle.sb_model.specs.Frames.{vector_of}
use Rattle.sb_solid.specs.Judged.{PlacedAt}
use Rattle.sb_solid.proofs.Moves.MovedPrisms.{placed_is}
use Rattle.sb_solid.proofs.judged.Judged.prism.Goals as goal

pub returns-in-Ok : goal.returns-in-Ok
returns-in-Ok c e judged =
    let placed = subst (PlacedAt e (vector_of c.args.shift)) c.in-Ok.is (c.placed.ensures e judged) in
    c.moved.ensures e judged placed.1.0 placed.1.1

pub returns-in-Err : goal.returns-in-Err
returns-in-Err c e judged =
    placed_is e (vector_of c.args.shift) c.in-Err.error
    (subst (PlacedAt e (vector_of c.args.shift)) c.in-Err.is (c.placed.ensures e judged))
