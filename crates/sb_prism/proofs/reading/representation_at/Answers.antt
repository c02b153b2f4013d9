use Rattle.sb_schema.specs.Rows as rows
use Rattle.sb_schema.specs.Views.Taking.{with_memory}
use Rattle.sb_prism.proofs.reading.representation_at.Goals as goal

pub returns : goal.returns
returns c =
    c.sighted.ensures.seen with_memory rows.shape_representation (λ v. (v.a2, (v.a4, tt)))
    c.args.file.now c.args.number c.shape_representation-view.ensures
