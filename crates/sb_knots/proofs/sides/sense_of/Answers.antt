use Rattle.std.proofs.Common.{rules, pos}
use Rattle.std.proofs.lemmas.List.Sorted.{answers_always}
use Rattle.sb_knots.specs.Steps.{key_of}
use Rattle.sb_knots.proofs.FirstCorners.{answer_found, always_found}
use Rattle.sb_knots.proofs.sides.sense_of.Goals as goal

pub returns-in-Ok : goal.returns-in-Ok
returns-in-Ok c loops listing swept there least =
    answer_found loops c.args.corners.now listing c.args.lefts.now swept c.pass_at.result
    c.args.points.now (record { x = pos 0; y = pos 0 }) there least c.pass_at.ensures c.in-Ok.at
    c.in-Ok.ensures.bound c.requires.count
    (c.in-Ok.ensures.position (λ t. key_of t) (answers_always _ _ _ (λ f a r g h. search rules)))

pub returns-in-Err : goal.returns-in-Err
returns-in-Err c loops listing swept there least =
    absurd
    (always_found loops c.args.corners.now listing c.args.lefts.now swept c.pass_at.result
    c.args.points.now (record { x = pos 0; y = pos 0 }) there c.pass_at.ensures c.in-Err.field-0
    c.requires.sorted
    (c.in-Err.ensures.position (λ t. key_of t) (answers_always _ _ _ (λ f a r g h. search rules))))
