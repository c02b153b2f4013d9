use Rattle.sb_schema.specs.Rows as rows
use Rattle.sb_schema.specs.Views.Taking.{with_memory}
use Rattle.sb_prism.proofs.reading.indexed_seen.Goals as goal

pub returns : goal.returns
returns c =
    c.sighted.ensures.seen with_memory rows.indexed_poly_curve (λ v. (v.a1, (v.a2, tt)))
    c.args.file.now c.args.number c.indexed_poly_curve-view.ensures
