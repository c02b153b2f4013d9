-- The pieces are those of the definition: signed values that are passed on keep their value.
use Rattle.std.proofs.Common.{rules, FitsSigned, w64}
use Rattle.std.proofs.lemmas.Int.{to_z-of_z}
use Rattle.sb_ifc_out.specs.Lines.{direction_body}
use Rattle.sb_ifc_out.proofs.lines.append_direction.Goals as goal

pub returns : goal.returns
unfolding direction_body
returns c =
    let x : FitsSigned w64 c.args.x = search rules in
    let y : FitsSigned w64 c.args.y = search rules in
    let z : FitsSigned w64 c.args.z = search rules in
    simp to_z-of_z at c.append_line.ensures
