-- The relation stands behind what stands in for the element.
use Rattle.std.proofs.Common.{◌+◌}
use Rattle.sb_ifc_out.specs.Numbers.{element_of, virtual_lines}
use Rattle.sb_ifc_out.specs.BoundaryLines.{virtual_text, told_of}
use Rattle.sb_ifc_out.specs.Lines.{line, relation_body}
use Rattle.sb_ifc_out.proofs.Appended.{joined}
use Rattle.sb_ifc_out.proofs.boundary.append_related.Goals as goal

pub returns : goal.returns
returns c = λ global_id holds.
    let entry = c.args.entry.now in
    let element = element_of entry.boundary.now in
    let n = c.args.connection in
    joined c.append_tie.result c.args.text.now c.append_stand_in.new.text c.append_tie.new.text
    (virtual_text global_id entry.id (n + 1) element)
    (line (n + virtual_lines element + 1)
    (relation_body
    (told_of c.args.model.now global_id entry.id entry.parent entry.pair entry.boundary.now n)))
    (rw c.element_of-element.ensures at (c.in_ok-append_stand_in.ensures global_id holds))
    (c.append_tie.ensures global_id holds)
