use Rattle.sb_schema.specs.Rows as rows
use Rattle.sb_schema.specs.Views.Taking.{with_memory}
use Rattle.sb_prism.proofs.reading.solid_seen.Goals as goal

pub returns : goal.returns
returns c =
    c.sighted.ensures.seen with_memory rows.extruded_area_solid (λ v. (v.a1, (v.a2, (v.a3, (v.a4, tt)))))
    c.args.file.now c.args.number c.extruded_area_solid-view.ensures
