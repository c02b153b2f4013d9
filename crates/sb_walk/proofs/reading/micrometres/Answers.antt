-- A whole number of them.
use Rattle.std.specs.Int.{w128}
use Rattle.std.proofs.Common.{rules, FitsSigned, ◌∙◌, pos, ap}
use Rattle.std.proofs.lemmas.Int.{to_z-of_z}
use Rattle.theory_numbers.specs.Fractions.{reduced}
use Rattle.theory_numbers.proofs.Fractions.LowestTerms.{reduced-one}
use Rattle.sb_walk.proofs.reading.micrometres.Goals as goal

pub returns : goal.returns
returns c =
    let fits : FitsSigned w128 c.thousandfold.result = search rules in
    let value = simp to_z-of_z at c.new.ensures.value in
    value ∙ ap (λ z. reduced z (pos 1)) c.thousandfold.ensures.value ∙ reduced-one _
