use Rattle.sb_schema.specs.Rows as rows
use Rattle.sb_schema.specs.Views.Taking.{without_memory}
use Rattle.sb_place.proofs.ViewsAreSeen.{views_are_seen}
use Rattle.sb_place.proofs.reading.space_axes.Goals as goal

pub returns : goal.returns
returns c =
    views_are_seen without_memory rows.axis2_placement_3d (λ v. (v.a1, (v.a2, (v.a3, tt)))) c.args.file.now c.args.number
    c.axis2_placement_3d-view.result c.sighted.result c.axis2_placement_3d-view.ensures c.sighted.ensures.value
