use Rattle.sb_schema.specs.Rows as rows
use Rattle.sb_schema.specs.Views.Taking.{with_memory}
use Rattle.sb_prism.proofs.reading.voided_seen.Goals as goal

pub returns : goal.returns
returns c =
    c.sighted.ensures.seen with_memory rows.arbitrary_profile_def_with_voids (λ v. (v.a3, (v.a4, tt)))
    c.args.file.now c.args.number c.arbitrary_profile_def_with_voids-view.ensures
