use Rattle.std.proofs.Common.{drop, ap, ◌∙◌, drop-drop}
use Rattle.sb_schema.proofs.attributes.pass.Goals as goal

pub parameters-preserved : goal.parameters-preserved
parameters-preserved c =
    c.skip.ensures ∙ ap (drop 1) c.parameters.invariant ∙ drop-drop 1 c.parameters._passed c.args.left.now
