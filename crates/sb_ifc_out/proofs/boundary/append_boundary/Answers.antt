-- What is related stands behind what is drawn, and these are all lines.
use Rattle.std.proofs.Common.{◌+◌, ◌++◌, Some, length, sym}
use Rattle.sb_ifc_out.specs.Numbers.{corners_listed}
use Rattle.sb_ifc_out.specs.BoundaryLines.{related_text}
use Rattle.sb_ifc_out.specs.IfcText.{lines_in}
use Rattle.sb_ifc_out.specs.Steps.{drawn_text}
use Rattle.sb_ifc_out.proofs.Appended.{joined, rewritten}
use Rattle.sb_ifc_out.proofs.LinesOfFaces.{lines_drawn}
use Rattle.sb_ifc_out.proofs.boundary.append_boundary.Goals as goal

pub returns : goal.returns
returns c =
    let m = c.args.model.now in
    let s = c.args.space.now in
    let e = c.args.entry.now in
    let b = e.boundary.now in
    let corners = e.corners.now in
    let facing = c.facing_of-facing.result in
    let n = (e.before + 1) + length (corners_listed (Some corners)) in
    let count = c.count_of.ensures.value in
    let drawn = drawn_text m.unit s.frame (e.before + 1) corners facing n in
    let related = related_text m s.global_id e.id e.parent e.pair b (n + 7) in
    rewritten c.append_related.result c.args.text.now c.append_related.new.text (drawn ++ related)
    (lines_in m (Some s) e.parent e.pair e.before e.id b)
    (sym
    (lines_drawn m s corners facing e.parent e.pair e.before e.id b c.requires.space_is
    c.requires.corners c.facing_of-facing.ensures.normal c.facing_of-facing.ensures.across))
    (joined c.append_related.result c.args.text.now c.append_drawn.new.text
    c.append_related.new.text drawn related (rw count at c.in_ok-append_drawn.ensures)
    (rw count at (c.append_related.ensures s.global_id c.requires.names)))
