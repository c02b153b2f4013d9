use Rattle.std.proofs.Common.{subst}
use Rattle.sb_model.specs.Frames.{vector_of}
use Rattle.sb_solid.specs.Judged.{IsPlacingWhere}
use Rattle.sb_solid.proofs.Moves.JudgedAnswers.{empty_has_none}
use Rattle.sb_solid.proofs.judged.Judged.moved.Goals as goal

pub returns-in-Some : goal.returns-in-Some
returns-in-Some c e judged inside on_grid =
    c.moved.ensures e (subst (IsPlacingWhere e) c.in-Some.is judged.placing) judged.way inside on_grid

pub returns-in-None : goal.returns-in-None
returns-in-None c e judged inside on_grid =
    (inside, on_grid, empty_has_none e (vector_of c.args.shift) (subst (IsPlacingWhere e) c.in-None.is judged.placing))
