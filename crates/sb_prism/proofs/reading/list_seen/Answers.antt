use Rattle.sb_schema.specs.Rows as rows
use Rattle.sb_schema.specs.Views.Taking.{without_memory}
use Rattle.sb_prism.proofs.reading.list_seen.Goals as goal

pub returns : goal.returns
returns c =
    c.sighted.ensures.seen without_memory rows.cartesian_point_list_2d (λ v. (v.a1, tt))
    c.args.file.now c.args.number c.lent_cartesian_point_list_2d-view.ensures
