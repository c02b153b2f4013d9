use Rattle.sb_schema.specs.Rows as rows
use Rattle.sb_schema.specs.Views.Taking.{with_memory}
use Rattle.sb_place.proofs.ViewsAreSeen.{views_are_seen}
use Rattle.sb_place.proofs.reading.point_seen.Goals as goal

pub returns : goal.returns
returns c =
    views_are_seen with_memory rows.cartesian_point (λ v. (v.a1, tt)) c.args.file.now c.args.number
    c.cartesian_point-view.result c.sighted.result c.cartesian_point-view.ensures c.sighted.ensures.value
