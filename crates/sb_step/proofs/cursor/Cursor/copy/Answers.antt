use Rattle.std.proofs.Common.{◌∙◌}
use Rattle.sb_step.proofs.cursor.Cursor.copy.Goals as goal

pub standing_at-requires : goal.standing_at-requires
standing_at-requires c = (c.self.inside.place.left.0, c.self.invariant)

pub returns : goal.returns
returns c =
    c.standing_at.ensures c.self.inside.place.left.0 c.self.invariant ∙ c.self.view_is
