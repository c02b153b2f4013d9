use Rattle.sb_schema.specs.Rows as rows
use Rattle.sb_schema.specs.Views.Taking.{without_memory}
use Rattle.sb_place.proofs.ViewsAreSeen.{views_are_seen}
use Rattle.sb_place.proofs.reading.plan_axes.Goals as goal

pub returns : goal.returns
returns c =
    views_are_seen without_memory rows.axis2_placement_2d (λ v. (v.a1, (v.a2, tt))) c.args.file.now c.args.number
    c.axis2_placement_2d-view.result c.sighted.result c.axis2_placement_2d-view.ensures c.sighted.ensures.value
