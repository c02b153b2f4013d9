use Rattle.sb_schema.specs.Rows as rows
use Rattle.sb_schema.specs.Views.Taking.{with_memory}
use Rattle.sb_prism.proofs.reading.shape_seen.Goals as goal

pub returns : goal.returns
returns c =
    c.sighted.ensures.seen with_memory rows.product_definition_shape (λ v. (v.a3, tt))
    c.args.file.now c.args.number c.product_definition_shape-view.ensures
