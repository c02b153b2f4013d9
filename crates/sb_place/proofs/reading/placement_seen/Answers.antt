use Rattle.sb_schema.specs.Rows as rows
use Rattle.sb_schema.specs.Views.Taking.{without_memory}
use Rattle.sb_place.proofs.ViewsAreSeen.{views_are_seen}
use Rattle.sb_place.proofs.reading.placement_seen.Goals as goal

pub returns : goal.returns
returns c =
    views_are_seen without_memory rows.local_placement (λ v. (v.a1, (v.a2, tt))) c.args.file.now c.args.number
    c.local_placement-view.result c.sighted.result c.local_placement-view.ensures c.sighted.ensures.value
