use Rattle.std.proofs.Common.{◌≡◌, ◌∙◌, ap, sym, rules, int_lt, w32, FitsSigned, to_z}
use Rattle.std.proofs.lemmas.Int.{to_z-of_z}
use Rattle.sb_fraction.specs.Edges.{edge}
use Rattle.sb_fraction.specs.Directions.{axis_y, direction_of, runs_along}
use Rattle.sb_points.proofs.EdgesHeaded.{headed_up, up_is_direction}
use Rattle.sb_points.proofs.heading.heading_of.Goals as goal

pub invariant_of-result : goal.invariant_of-result
invariant_of-result c = record { is_direction = up_is_direction }

up : (c : goal.After-result-1) → (runs_along (edge c.args.a c.args.b) ≡ int_lt c.args.a.y c.args.b.y)
    × (direction_of (edge c.args.a c.args.b) ≡ axis_y)
up c =
    let ax : FitsSigned w32 c.args.a.x = search rules in
    let bx : FitsSigned w32 c.args.b.x = search rules in
    headed_up c.args.a c.args.b c.requires.apart
    (sym (to_z-of_z w32 c.args.a.x ax) ∙ ap (to_z w32) c.if-a-b.true ∙ to_z-of_z w32 c.args.b.x bx)

pub returns-then-a-b-clause-direction : goal.returns-then-a-b-clause-direction
returns-then-a-b-clause-direction c = sym (up c).1

pub returns-then-a-b-clause-is_along : goal.returns-then-a-b-clause-is_along
returns-then-a-b-clause-is_along c =
    let ay : FitsSigned w32 c.args.a.y = search rules in
    let by : FitsSigned w32 c.args.b.y = search rules in
    simp to_z-of_z at c.is_less.ensures ∙ sym (up c).0
