use Rattle.sb_step.proofs.Names.{length, sym, ap, ◌∙◌}
use Rattle.sb_step.proofs.Collecting.BracketsAreBits.{length-brackets_of}
use Rattle.sb_step.proofs.indexing.lists.Brackets.len.Goals as goal

pub returns : goal.returns
returns c = sym (length-brackets_of c.self.inside.len c.self.inside.bits) ∙ ap length c.self.view_is
