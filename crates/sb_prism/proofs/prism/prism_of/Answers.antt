use Rattle.std.proofs.Common.{Err, sym, subst}
use Rattle.sb_prism.specs.Prisms.{IsPrismOf}
use Rattle.sb_prism.proofs.ShapesAreJudged.{fault_answers, prism_answers, error_answers}
use Rattle.sb_prism.proofs.prism.prism_of.Goals as goal

pub returns-in-Err : goal.returns-in-Err
returns-in-Err c =
    let (s, is, kept) = c.in_ok-kept.ensures in
    fault_answers c.args.file.now c.args.shape c.args.unit c.args.frame.now s c.in-Err.error is
    (c.in-Err.ensures.fault c.args.unit s kept c.args.frame.now)

pub returns-in-Ok-prism : goal.returns-in-Ok-prism
returns-in-Ok-prism c =
    let (s, is, kept) = c.in_ok-kept.ensures in
    let sound = c.in-Ok.ensures.sound c.args.unit s kept in
    prism_answers c.args.file.now c.args.shape c.args.unit c.args.frame.now s is c.in-Ok.sound.now sound
    c.in_ok-judged.judged (c.in_ok-judged.ensures c.args.unit s sound) c.in-Ok-prism.prism c.in-Ok-prism.ensures

pub returns : goal.returns
returns c =
    let (s, is, kept) = c.in_ok-kept.ensures in
    let sound = c.in-Ok.ensures.sound c.args.unit s kept in
    subst (λ e. IsPrismOf c.args.file.now c.args.shape c.args.frame.now c.args.unit (Err e)) (sym c.from.ensures)
    (error_answers c.args.file.now c.args.shape c.args.unit c.args.frame.now s is c.in-Ok.sound.now sound
    c.in_ok-judged.judged (c.in_ok-judged.ensures c.args.unit s sound) c.in-Err-prism.error c.in-Err-prism.ensures)
