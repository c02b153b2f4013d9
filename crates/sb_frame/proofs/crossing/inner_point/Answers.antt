-- Where no end lies there the edges cross.
use Rattle.std.proofs.Common.{◌∙◌, sym, ap, not}
use Rattle.std.proofs.lemmas.Bool.{or_parts}
use Rattle.sb_fraction.specs.Edges.{edge_of}
use Rattle.sb_fraction.specs.Spots.{spot_of}
use Rattle.sb_frame.specs.Crossings.{is_end}
use Rattle.sb_frame.proofs.Meetings.EdgesCross.{crossing_is, end_crosses_nowhere}
use Rattle.sb_frame.proofs.crossing.inner_point.Goals as goal

pub returns-then-is_end_of_one-clause-none : goal.returns-then-is_end_of_one-clause-none
returns-then-is_end_of_one-clause-none c =
    end_crosses_nowhere (edge_of c.args.e.now) (edge_of c.args.f.now) c.args.point c.requires.meeting
    (sym c.is_end_of_one.ensures ∙ c.if-is_end_of_one.true)

pub returns-else-is_end_of_one-clause-some : goal.returns-else-is_end_of_one-clause-some
returns-else-is_end_of_one-clause-some c =
    let ends = or_parts (is_end (spot_of c.args.point) (edge_of c.args.e.now))
    (is_end (spot_of c.args.point) (edge_of c.args.f.now))
    (sym c.is_end_of_one.ensures ∙ c.if-is_end_of_one.false) in
    crossing_is (edge_of c.args.e.now) (edge_of c.args.f.now) c.args.point c.requires.meeting
    (ap not c.requires.apart) ends.0 ends.1
