use Rattle.std.proofs.Common.{◌∙◌, ap, sym, subst, not}
use Rattle.sb_model.specs.Frames.{vector_of}
use Rattle.sb_solid.specs.Steps.{IsWideAt}
use Rattle.sb_solid.specs.Judged.{IsPlacingWhere, steps_of, anchor_at}
use Rattle.sb_solid.specs.Moving.{moved_upright}
use Rattle.sb_solid.specs.Solids.{is_beyond, is_off_grid}
use Rattle.sb_solid.proofs.Moves.JudgedAnswers.{empty_in_world, empty_on_grid, empty_has_none, beyond_by, kept_none, kept_some, kept_count}
use Rattle.sb_solid.proofs.judged.Judged.placed.Goals as goal

-- no points: none of the first two, and no prism
pub returns-in_default : goal.returns-in_default
returns-in_default c e judged =
    let none = subst (IsPlacingWhere e) c.in_default.is judged.placing in (
      empty_in_world e (vector_of c.args.shift) none,
      empty_on_grid e (vector_of c.args.shift) none,
      empty_has_none e (vector_of c.args.shift) none,
    )

-- a shift that is too great
pub returns-in_default-wide : goal.returns-in_default-wide
returns-in_default-wide c e judged =
    let placing = subst (IsPlacingWhere e) c.in-Some.is judged.placing in
    beyond_by e c.in-Some.placing (vector_of c.args.shift) placing.spans c.in-Some.placing.x.reach.small_low
    c.in-Some.placing.y.reach.small_low c.in-Some.placing.z.reach.small_low
    (subst (IsWideAt c.args.shift) c.in_default-wide.is c.wide.ensures)

pub returns-in-Some-prism : goal.returns-in-Some-prism
returns-in-Some-prism c e judged =
    let placing = subst (IsPlacingWhere e) c.in-Some.is judged.placing in
    let at = subst (IsWideAt c.args.shift) c.in-Some-wide.is c.wide.ensures in
    let inside = ap (is_beyond e) (sym at.1) ∙ c.are_in_world.ensures e placing.spans judged.way ∙ ap not c.if-not-are_in_world.false in
    let on_grid = ap (is_off_grid e) (sym at.1) ∙ c.are_near.ensures e placing.spans judged.way ∙ ap not c.if-not-are_near.false in
    let steps = steps_of (anchor_at c.in-Some.placing e.way) (vector_of c.args.shift) in (
      moved_upright steps c.in-Some-prism.field-0,
      (
        inside,
        on_grid,
        kept_some e c.in-Some.placing (vector_of c.args.shift) placing inside on_grid c.in-Some-prism.field-0 c.in-Some-prism.is,
      ),
      kept_count e c.in-Some.placing (vector_of c.args.shift) placing inside on_grid c.in-Some-prism.field-0 c.in-Some-prism.is,
    )

pub returns-in-None : goal.returns-in-None
returns-in-None c e judged =
    let placing = subst (IsPlacingWhere e) c.in-Some.is judged.placing in
    let at = subst (IsWideAt c.args.shift) c.in-Some-wide.is c.wide.ensures in
    let inside = ap (is_beyond e) (sym at.1) ∙ c.are_in_world.ensures e placing.spans judged.way ∙ ap not c.if-not-are_in_world.false in
    let on_grid = ap (is_off_grid e) (sym at.1) ∙ c.are_near.ensures e placing.spans judged.way ∙ ap not c.if-not-are_near.false in
    (inside, on_grid, kept_none e c.in-Some.placing (vector_of c.args.shift) placing inside on_grid c.in-None.is)
