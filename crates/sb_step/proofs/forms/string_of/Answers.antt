use Rattle.std.proofs.Common.{sym, ap, ◌∙◌}
use Rattle.sb_step.specs.Cursors.Forms.{string_in}
use Rattle.sb_step.proofs.Cursors.FormsByToken.{what_says_is_first}
use Rattle.sb_step.proofs.forms.string_of.Goals as goal

pub returns : goal.returns
returns c = λ ps stands.
    c.text_of.ensures
    ∙ ap string_in
    (sym (what_says_is_first c.args.bytes.now c.args.first ps stands c.in_ok-read.read
    c.in_ok-read.ensures))
