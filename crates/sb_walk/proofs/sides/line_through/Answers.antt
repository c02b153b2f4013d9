-- The offset is that of the edge's direction.
use Rattle.std.proofs.Common.{rules, ◌∙◌, ap, ◌-ℤ◌, ◌*ℤ◌, w64, FitsSigned}
use Rattle.std.proofs.lemmas.Int.{to_z-of_z}
use Rattle.sb_fraction.specs.Directions.{offset_of}
use Rattle.sb_fraction.specs.Spots.{Vector}
use Rattle.sb_walk.proofs.sides.line_through.Goals as goal

pub returns-clause-offset : goal.returns-clause-offset
unfolding offset_of
returns-clause-offset c =
    let fits : FitsSigned w64 c.offset.result = search rules in
    simp to_z-of_z
    (c.offset.ensures.value
    ∙ ap (λ (v : Vector). (c.args.s.now.a.y *ℤ v.x) -ℤ (c.args.s.now.a.x *ℤ v.y))
    c.heading_of.ensures.direction)
