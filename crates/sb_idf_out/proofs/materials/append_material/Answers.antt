use Rattle.std.proofs.Common.{rules, FitsSigned}
use Rattle.std.specs.Int.{w128}
use Rattle.std.proofs.lemmas.Int.{to_z-of_z}
use Rattle.sb_idf_out.specs.Objects.{material_object}
use Rattle.sb_idf_out.proofs.materials.append_material.Goals as goal

pub returns : goal.returns
unfolding material_object
returns c =
    let fits : FitsSigned w128 c.args.thickness = search rules in
    simp (to_z-of_z, c.as_slice.ensures.value, c.in_ok-metres.ensures) at c.append_all.ensures.ok
