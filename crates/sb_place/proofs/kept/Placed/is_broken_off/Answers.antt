use Rattle.std.proofs.Common.{◌∙◌}
use Rattle.sb_place.proofs.NearestIsRead.{off_by}
use Rattle.sb_place.proofs.kept.Placed.is_broken_off.Goals as goal

pub returns : goal.returns
returns c unit links reached kept = c.is_off.ensures ∙ off_by unit links reached c.args.self.now kept
