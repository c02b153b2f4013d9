use Rattle.sb_schema.specs.Rows as rows
use Rattle.sb_schema.specs.Views.Taking.{without_memory}
use Rattle.sb_building.proofs.frames.placement_seen.Goals as goal

pub returns : goal.returns
returns c =
    c.sighted.ensures.seen without_memory rows.local_placement (λ v. (v.a1, (v.a2, tt))) c.args.file.now
    c.args.number c.local_placement-view.ensures
