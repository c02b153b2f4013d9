use Rattle.sb_idf_out.proofs.PartsOfObjects.{construction_parts, in_three}
use Rattle.sb_idf_out.proofs.uses.append_construction.Goals as goal

pub returns : goal.returns
returns c =
    in_three _ _ _ _ _ _ _ _ _ c.in_ok-append_construction_name.ensures c.in_ok-append_materials.ensures
    c.append.ensures.ok (construction_parts c.args.number c.args.materials.now)
