use Rattle.std.proofs.Common.{◌∙◌, ap}
use Rattle.theory_turns.specs.Turns.{y_of, mixture_of}
use Rattle.sb_model.specs.Frames.{way_of}
use Rattle.sb_model.proofs.TurnsInCode.{x_axis, y_axis, z_axis, within-equal, cross-equal}
use Rattle.sb_model.proofs.frame.Turn.turned.Goals as goal

pub mixture-requires-clause-x_in : goal.mixture-requires-clause-x_in
mixture-requires-clause-x_in c =
    within-equal (way_of c.axes.result.0) c.args.self.x c.axes.ensures.x_is
    (x_axis c.args.self c.axes.ensures.is_turn)

pub mixture-requires-clause-y_in : goal.mixture-requires-clause-y_in
mixture-requires-clause-y_in c =
    within-equal (way_of c.cross.result) (y_of c.args.self)
    (c.cross.ensures
    ∙ cross-equal c.axes.ensures.z_is c.axes.ensures.x_is)
    (y_axis c.args.self c.axes.ensures.is_turn)

pub mixture-requires-clause-z_in : goal.mixture-requires-clause-z_in
mixture-requires-clause-z_in c =
    within-equal (way_of c.axes.result.1) c.args.self.z c.axes.ensures.z_is
    (z_axis c.args.self c.axes.ensures.is_turn)

pub returns-clause-value : goal.returns-clause-value
returns-clause-value c =
    c.mixture.ensures.value
    ∙ ap (λ x. mixture_of (way_of c.args.v) x (way_of c.cross.result) (way_of c.axes.result.1)) c.axes.ensures.x_is
    ∙ ap (λ y. mixture_of (way_of c.args.v) c.args.self.x y (way_of c.axes.result.1))
    (c.cross.ensures
    ∙ cross-equal c.axes.ensures.z_is c.axes.ensures.x_is)
    ∙ ap (λ z. mixture_of (way_of c.args.v) c.args.self.x (y_of c.args.self) z) c.axes.ensures.z_is
