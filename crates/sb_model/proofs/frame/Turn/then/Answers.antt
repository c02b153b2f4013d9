use Rattle.std.proofs.Common.{◌∙◌, ap}
use Rattle.theory_turns.specs.Turns.{turned_by, then_of}
use Rattle.theory_turns.proofs.SignedAxes.{upright_of_quarter}
use Rattle.theory_turns.proofs.TurnsCompose.{then_is_upright, then_takes}
use Rattle.sb_model.specs.Frames.{way_of}
use Rattle.sb_model.proofs.TurnsInCode.{quarter_is, quarter-equal}
use Rattle.sb_model.proofs.frame.Turn.then.Goals as goal

pub axes_turn-requires : goal.axes_turn-requires
axes_turn-requires c =
    quarter-equal (then_of c.args.self c.args.next) (way_of c.turned.result) (way_of c.turned-2.result)
    (c.turned.ensures.value ∙ ap (turned_by c.args.next) c.axes.ensures.x_is)
    (c.turned-2.ensures.value ∙ ap (turned_by c.args.next) c.axes.ensures.z_is)
    (then_is_upright c.args.self c.args.next (upright_of_quarter c.args.self c.axes.ensures.is_turn)
    (upright_of_quarter c.args.next c.turned.ensures.is_turn))

pub returns-clause-takes : goal.returns-clause-takes
returns-clause-takes c v =
    ap (λ q. turned_by q v)
    (quarter_is c.axes_turn.result (turned_by c.args.next c.args.self.x)
    (turned_by c.args.next c.args.self.z)
    (c.axes_turn.ensures.x_is ∙ c.turned.ensures.value ∙ ap (turned_by c.args.next) c.axes.ensures.x_is)
    (c.axes_turn.ensures.z_is ∙ c.turned-2.ensures.value ∙ ap (turned_by c.args.next) c.axes.ensures.z_is))
    ∙ then_takes c.args.self c.args.next v (upright_of_quarter c.args.next c.turned.ensures.is_turn)
