use Rattle.std.proofs.Common.{rules, IsTrue, FitsSigned}
use Rattle.std.specs.Int.{w128}
use Rattle.std.proofs.lemmas.Int.{to_z-of_z}
use Rattle.std.proofs.lemmas.Result.{IfOk-weaker}
use Rattle.theory_turns.specs.Turns.{is_quarter}
use Rattle.sb_prism.proofs.ShapesAreJudged.{judged_is}
use Rattle.sb_prism.proofs.kept.Extrusion.judged.Goals as goal

pub returns : goal.returns
returns c =
    let quarter : IsTrue (is_quarter c.args.turn.x c.args.turn.z) = search rules in
    let w : FitsSigned w128 c.args.self.now.way = search rules in
    let judged = simp to_z-of_z at c.judge.ensures in
    IfOk-weaker c.judge.result _ _ (λ kept is unit s sound.
    judged_is unit s c.args.turn c.args.self.now kept quarter sound is) judged
