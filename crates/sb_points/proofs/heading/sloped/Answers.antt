use Rattle.std.proofs.Common.{◌≡◌, ◌∙◌, ap, sym, rules, w32, FitsSigned, true, false}
use Rattle.std.specs.Int.{w128}
use Rattle.std.proofs.lemmas.Int.{to_z-of_z}
use Rattle.theory_numbers.proofs.Signs.{less_from}
use Rattle.sb_fraction.specs.Edges.{edge}
use Rattle.sb_fraction.specs.Directions.{direction_of, runs_along}
use Rattle.sb_points.proofs.EdgesHeaded.{along, headed_right, headed_left, less_elsewhere}
use Rattle.sb_points.proofs.heading.sloped.Goals as goal

right : (c : goal.After-along) → (runs_along (edge c.args.a c.args.b) ≡ true)
    × (along (record { num = c.along.result.y; den = c.along.result.x }) ≡ direction_of (edge c.args.a c.args.b))
right c =
    let ax : FitsSigned w32 c.args.a.x = search rules in
    let ay : FitsSigned w32 c.args.a.y = search rules in
    let bx : FitsSigned w32 c.args.b.x = search rules in
    let by : FitsSigned w32 c.args.b.y = search rules in
    let x : FitsSigned w128 c.less.result = search rules in
    let y : FitsSigned w128 c.less-then-is_less.result = search rules in
    let is = headed_right c.args.a c.args.b c.less.result c.less-then-is_less.result
    (simp to_z-of_z at c.less.ensures.value) (simp to_z-of_z at c.less-then-is_less.ensures.value)
    (less_from c.args.a.x c.args.b.x (sym (simp to_z-of_z at c.is_less.ensures) ∙ c.if-is_less.true)) in
    (is.0, ap along (simp to_z-of_z at c.along.ensures) ∙ is.1)

left : (c : goal.After-along-else-is_less) → (runs_along (edge c.args.a c.args.b) ≡ false)
    × (along (record { num = c.along-else-is_less.result.y; den = c.along-else-is_less.result.x })
    ≡ direction_of (edge c.args.a c.args.b))
left c =
    let ax : FitsSigned w32 c.args.a.x = search rules in
    let ay : FitsSigned w32 c.args.a.y = search rules in
    let bx : FitsSigned w32 c.args.b.x = search rules in
    let by : FitsSigned w32 c.args.b.y = search rules in
    let x : FitsSigned w128 c.less-else-is_less.result = search rules in
    let y : FitsSigned w128 c.less-else-is_less-2.result = search rules in
    let is = headed_left c.args.a c.args.b c.less-else-is_less.result c.less-else-is_less-2.result
    (simp to_z-of_z at c.less-else-is_less.ensures.value) (simp to_z-of_z at c.less-else-is_less-2.ensures.value)
    (less_elsewhere c.args.a.x c.args.b.x c.requires.sloped
    (sym (simp to_z-of_z at c.is_less.ensures) ∙ c.if-is_less.false)) in
    (is.0, ap along (simp to_z-of_z at c.along-else-is_less.ensures) ∙ is.1)

pub returns-then-is_less-clause-direction : goal.returns-then-is_less-clause-direction
returns-then-is_less-clause-direction c = (right c).1

pub returns-then-is_less-clause-is_along : goal.returns-then-is_less-clause-is_along
returns-then-is_less-clause-is_along c = sym (right c).0

pub returns-else-is_less-clause-direction : goal.returns-else-is_less-clause-direction
returns-else-is_less-clause-direction c = (left c).1

pub returns-else-is_less-clause-is_along : goal.returns-else-is_less-clause-is_along
returns-else-is_less-clause-is_along c = sym (left c).0
