-- An edge that is not beside the square millimetre of a crossing has not the crossing inside.
use Rattle.sb_fraction.specs.Edges.{edge_of}
use Rattle.sb_frame.proofs.Meetings.InsideIsBeside.{not_inside}
use Rattle.sb_frame.proofs.through.is_inside.Goals as goal

pub returns-else-is_by : goal.returns-else-is_by
returns-else-is_by c =
    not_inside c.args.c.point (edge_of c.args.s.now) c.args.cell.x c.args.cell.y c.requires.cell
    c.is_by.result c.is_by.ensures c.if-is_by.false
