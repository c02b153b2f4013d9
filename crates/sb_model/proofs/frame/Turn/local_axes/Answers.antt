use Rattle.std.proofs.Common.{◌≡◌, ◌∙◌, ap, sym, true, IsTrue}
use Rattle.sb_fraction.specs.Spots.{Vector}
use Rattle.theory_turns.specs.Turns.{y_of, is_signed_axis}
use Rattle.sb_model.specs.Frames.{way_of}
use Rattle.sb_model.proofs.TurnsInCode.{x_axis, y_axis, z_axis, cross-equal, signed-equal}
use Rattle.sb_model.proofs.frame.Turn.local_axes.Goals as goal

pub signed_axis-requires : goal.signed_axis-requires
signed_axis-requires c =
    signed-equal (way_of c.axes.result.0) c.args.self.x c.axes.ensures.x_is
    (x_axis c.args.self c.axes.ensures.is_turn)

pub signed_axis-requires-2 : goal.signed_axis-requires-2
signed_axis-requires-2 c =
    signed-equal (way_of c.cross-y.result) (y_of c.args.self)
    (c.cross-y.ensures
    ∙ cross-equal c.axes.ensures.z_is c.axes.ensures.x_is)
    (y_axis c.args.self c.axes.ensures.is_turn)

pub returns-clause-y_signed : goal.returns-clause-y_signed
returns-clause-y_signed c =
    signed-equal _ (y_of c.args.self)
    (c.signed_axis-2.ensures ∙ c.cross-y.ensures
    ∙ cross-equal c.axes.ensures.z_is c.axes.ensures.x_is)
    (y_axis c.args.self c.axes.ensures.is_turn)
