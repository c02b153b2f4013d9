use Rattle.std.proofs.Common.{◌≡◌, ◌∙◌, ap, pos, rules, w32, FitsSigned, to_z, of_z}
use Rattle.std.specs.Int.{w128}
use Rattle.std.proofs.lemmas.Int.{to_z-of_z}
use Rattle.theory_numbers.specs.Fractions.{reduced}
use Rattle.tests_model.proofs.AllPushed.{whole_is_small}
use Rattle.tests_model.proofs.house.height.Goals as goal

pub returns : goal.returns
returns c =
    let narrow : FitsSigned w32 c.args.z = search rules in
    let wide : FitsSigned w128 c.args.z = search rules in
    whole_is_small c.args.z c.new.result
    (c.new.ensures.value
    ∙ ap (λ n. reduced n (pos 1)) (ap (λ n. to_z w128 (of_z w128 n)) (to_z-of_z w32 c.args.z narrow)
    ∙ to_z-of_z w128 c.args.z wide))
    (search rules)
