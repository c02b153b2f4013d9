use Rattle.sb_schema.specs.Rows as rows
use Rattle.sb_schema.specs.Views.Taking.{without_memory}
use Rattle.sb_prism.proofs.reading.closed_seen.Goals as goal

pub returns : goal.returns
returns c =
    c.sighted.ensures.seen without_memory rows.arbitrary_closed_profile_def (λ v. (v.a3, tt))
    c.args.file.now c.args.number c.arbitrary_closed_profile_def-view.ensures
