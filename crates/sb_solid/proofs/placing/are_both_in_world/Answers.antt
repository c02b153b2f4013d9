use Rattle.std.proofs.Common.{rules, ◌∙◌, ap, ap₂, ◌&&◌, ◌+ℤ◌, FitsSigned}
use Rattle.std.specs.Int.{w128}
use Rattle.std.proofs.lemmas.Int.{to_z-of_z}
use Rattle.sb_solid.proofs.placing.are_both_in_world.Goals as goal
use Rattle.sb_solid.specs.Grid.{is_in_world}
use Rattle.std.specs.List.{list_all}

pub returns : goal.returns
returns c numbers is =
    let s : FitsSigned w128 c.args.shift = search rules in
    let w : FitsSigned w128 c.args.way = search rules in
    let f : FitsSigned w128 c.further.result = search rules in
    let first = simp to_z-of_z at (c.are_in_world-near.ensures numbers is) in
    let second = simp to_z-of_z at (c.are_in_world.ensures numbers is) in
    let sum = simp to_z-of_z at c.further.ensures.value in
    c.both.ensures
    ∙ ap₂ (λ s t. s && t) first (second ∙ ap (λ d. list_all (λ n. is_in_world (n +ℤ d)) numbers) sum)
