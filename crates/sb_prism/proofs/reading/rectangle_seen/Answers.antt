use Rattle.sb_schema.specs.Rows as rows
use Rattle.sb_schema.specs.Views.Taking.{with_memory}
use Rattle.sb_prism.proofs.reading.rectangle_seen.Goals as goal

pub returns : goal.returns
returns c =
    c.sighted.ensures.seen with_memory rows.rectangle_profile_def (λ v. (v.a3, (v.a4, (v.a5, tt))))
    c.args.file.now c.args.number c.rectangle_profile_def-view.ensures
