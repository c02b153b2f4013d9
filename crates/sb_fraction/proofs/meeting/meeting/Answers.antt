use Rattle.std.proofs.Common.{rules, w32, FitsSigned}
use Rattle.std.proofs.lemmas.Int.{to_z-of_z}
use Rattle.sb_fraction.specs.Edges.{edge_of}
use Rattle.sb_fraction.proofs.Meetings.MeetingInRange.{y_in_range}
use Rattle.sb_fraction.proofs.meeting.meeting.Goals as goal

pub coordinate-y-requires-clause-coordinate_in : goal.coordinate-y-requires-clause-coordinate_in
coordinate-y-requires-clause-coordinate_in c =
    let f : FitsSigned w32 c.args.a.now.a.y = search rules in
    rw (to_z-of_z w32 c.args.a.now.a.y f) (y_in_range (edge_of c.args.a.now) c.requires.first_in)
