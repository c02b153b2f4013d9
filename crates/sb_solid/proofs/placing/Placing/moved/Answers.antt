use Rattle.std.proofs.Common.{◌∙◌, ap, sym, subst}
use Rattle.std.proofs.lemmas.Bool.{false≢true}
use Rattle.sb_model.specs.Frames.{vector_of}
use Rattle.sb_solid.specs.Steps.{IsWideAt, wide_at}
use Rattle.sb_solid.specs.Judged.{steps_of, anchor_at}
use Rattle.sb_solid.proofs.Moves.JudgedAnswers.{in_world_is_wide, kept_none}
use Rattle.sb_solid.proofs.Moves.MovedPrisms.{moved_answers}
use Rattle.sb_solid.proofs.placing.Placing.moved.Goals as goal

-- in range, the shift is not too great
pub returns-in_default : goal.returns-in_default
returns-in_default c e is way inside on_grid =
    let p = c.args.self.now in
    absurd
    (false≢true
    (sym (subst (IsWideAt c.args.shift) c.in_default.is c.wide.ensures)
    ∙ in_world_is_wide e p (vector_of c.args.shift) is.spans p.x.reach.small_low p.y.reach.small_low p.z.reach.small_low inside))

pub returns-in-Some-prism : goal.returns-in-Some-prism
returns-in-Some-prism c e is way inside on_grid =
    let p = c.args.self.now in
    let at = subst (IsWideAt c.args.shift) c.in-Some.is c.wide.ensures in
    moved_answers e p (vector_of c.args.shift) is inside on_grid c.in-Some-prism.prism c.in-Some-prism.is c.steps.result
    (c.steps.ensures.value ∙ ap (λ w. steps_of (anchor_at p w) (wide_at c.in-Some.shift)) way ∙ ap (steps_of (anchor_at p e.way)) at.1)
    c.moved.result c.moved.ensures

pub returns-in-None : goal.returns-in-None
returns-in-None c e is way inside on_grid =
    (inside, on_grid, kept_none e c.args.self.now (vector_of c.args.shift) is inside on_grid c.in-None.is)
