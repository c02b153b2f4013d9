use Rattle.std.proofs.Common.{min, ap₂, ◌∙◌}
use Rattle.sb_fixed.specs.Decimals.{digits_in}
use Rattle.sb_fixed.specs.Steps.{held, leading}
use Rattle.sb_fixed.proofs.TenthsOfText.{tenths_are_wanted}
use Rattle.sb_fixed.proofs.reading.tenths.Goals as goal

pub returns : goal.returns
returns c =
    c.leading.ensures
    ∙ ap₂ (λ count text. min (leading count (digits_in text)) held) c.wanted.ensures.value
    c.cut.ensures.before
    ∙ tenths_are_wanted c.args.text.now c.args.places c.wanted.ensures.short c.wanted.ensures.few
    c.requires
