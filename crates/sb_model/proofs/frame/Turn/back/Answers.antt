use Rattle.std.proofs.Common.{◌∙◌, ap}
use Rattle.theory_turns.specs.Turns.{turned_by, back_of}
use Rattle.theory_turns.proofs.SignedAxes.{upright_of_quarter}
use Rattle.theory_turns.proofs.TurnsCompose.{back_is_upright, back_takes}
use Rattle.sb_model.specs.Frames.{way_of}
use Rattle.sb_model.proofs.TurnsInCode.{quarter_is, quarter-equal, first_is, last_is}
use Rattle.sb_model.proofs.frame.Turn.back.Goals as goal

pub axes_turn-requires : goal.axes_turn-requires
axes_turn-requires c =
    quarter-equal (back_of c.args.self) (way_of c.read_across.result.0) (way_of c.read_across.result.1)
    (first_is c.args.self _ _ _ c.axes.ensures.x_is c.axes.ensures.z_is c.cross-y.ensures _ c.read_across.ensures.first)
    (last_is c.args.self _ _ _ c.axes.ensures.x_is c.axes.ensures.z_is c.cross-y.ensures _ c.read_across.ensures.last)
    (back_is_upright c.args.self (upright_of_quarter c.args.self c.axes.ensures.is_turn))

pub returns-clause-takes_back : goal.returns-clause-takes_back
returns-clause-takes_back c v =
    ap (λ q. turned_by q (turned_by c.args.self v))
    (quarter_is c.axes_turn.result (back_of c.args.self).x (back_of c.args.self).z
    (c.axes_turn.ensures.x_is
    ∙ first_is c.args.self _ _ _ c.axes.ensures.x_is c.axes.ensures.z_is c.cross-y.ensures _ c.read_across.ensures.first)
    (c.axes_turn.ensures.z_is
    ∙ last_is c.args.self _ _ _ c.axes.ensures.x_is c.axes.ensures.z_is c.cross-y.ensures _ c.read_across.ensures.last))
    ∙ back_takes c.args.self v (upright_of_quarter c.args.self c.axes.ensures.is_turn)
