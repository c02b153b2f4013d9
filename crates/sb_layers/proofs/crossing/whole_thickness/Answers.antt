use Rattle.std.specs.Int.{w128}
use Rattle.std.proofs.Common.{rules, FitsSigned, ◌≡◌, ◌∙◌, ap, pos}
use Rattle.std.proofs.lemmas.Int.{to_z-of_z}
use Rattle.theory_numbers.specs.Fractions.{reduced}
use Rattle.theory_numbers.proofs.Fractions.LowestTerms.{reduced-one}
use Rattle.sb_layers.proofs.crossing.whole_thickness.Goals as goal

pub returns : goal.returns
returns c =
    let size = simp (to_z-of_z, c.ranges.from, c.ranges.to) at c.rounded_micrometres.ensures.value in
    let fits : FitsSigned w128 c.rounded_micrometres.result = search rules in
    let value = simp to_z-of_z at c.new.ensures.value in
    value ∙ ap (λ z. reduced z (pos 1)) size ∙ reduced-one _
