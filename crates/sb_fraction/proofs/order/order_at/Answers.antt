use Rattle.std.proofs.Common.{◌∙◌, ap, sym}
use Rattle.theory_numbers.specs.Rationals.{value_at}
use Rattle.sb_fraction.specs.Edges.{edge_of}
use Rattle.sb_fraction.specs.Numbers.{number}
use Rattle.sb_fraction.specs.Lines.{arrow_along}
use Rattle.sb_fraction.specs.Steps.{gap_over, gap_order}
use Rattle.sb_fraction.proofs.LinesByGaps.{order_past-gap}
use Rattle.sb_fraction.proofs.OrderAtHolds.{length_of_direction, order_holds, equal_is_collinear}
use Rattle.sb_fraction.proofs.order.order_at.Goals as goal

pub returns-clause-past : goal.returns-clause-past
returns-clause-past g c =
    let d = arrow_along c.args.d in
    let e = edge_of c.args.a.now in
    let f = edge_of c.args.b.now in
    let u = number c.args.at.now in
    c.order_by_gap.ensures.value
    ∙ ap (λ k. gap_order (value_at (gap_over k e f) u) (gap_over k e f).y) c.along.ensures.value
    ∙ order_past-gap d e f u
    (length_of_direction c.args.d.x c.args.d.y c.args.d.is_direction)

pub returns-clause-order : goal.returns-clause-order
returns-clause-order g c =
    let d = arrow_along c.args.d in
    let e = edge_of c.args.a.now in
    let f = edge_of c.args.b.now in
    let w = number c.args.at.now in
    let past = returns-clause-past g c in
    λ u before.
    past
    ∙ order_holds d e f w u
    (length_of_direction c.args.d.x c.args.d.y c.args.d.is_direction)
    c.order_by_gap.ensures.positive c.requires.first_reaches c.requires.second_reaches before

pub returns-clause-equal : goal.returns-clause-equal
returns-clause-equal g c =
    let d = arrow_along c.args.d in
    let e = edge_of c.args.a.now in
    let f = edge_of c.args.b.now in
    let u = number c.args.at.now in
    let value = c.order_by_gap.ensures.value
    ∙ ap (λ k. gap_order (value_at (gap_over k e f) u) (gap_over k e f).y) c.along.ensures.value in
    let same = equal_is_collinear d e f u c.order_by_gap.ensures.positive
    c.requires.second_reaches in
    (λ is. same.0 (sym value ∙ is), λ is. value ∙ same.1 is)
