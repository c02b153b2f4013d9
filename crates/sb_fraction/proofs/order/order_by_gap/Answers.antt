use Rattle.std.proofs.Common.{rules, ◌∙◌, w64, FitsSigned}
use Rattle.std.specs.Int.{w128}
use Rattle.std.proofs.lemmas.Int.{to_z-of_z}
use Rattle.sb_fraction.specs.Edges.{edge_of}
use Rattle.sb_fraction.specs.Lines.{place, span_along}
use Rattle.sb_fraction.proofs.OrderAtHolds.{order_of_parts}
use Rattle.sb_fraction.proofs.order.order_by_gap.Goals as goal

pub returns : goal.returns
returns c =
    let f : FitsSigned w64 c.cross-slope.result = search rules in
    let g : FitsSigned w128 c.offset_between-offset.result = search rules in
    let h : FitsSigned w128 c.gap_at.result = search rules in
    let order = simp to_z-of_z at c.order_by.ensures.value in
    let gap = simp to_z-of_z at c.gap_at.ensures.value in
    let e = edge_of c.args.a.now in
    let k = edge_of c.args.b.now in
    record {
      positive = c.gap_at.ensures.positive;
      value =
          order
          ∙ order_of_parts c.args.way c.turned_along-first.result (place c.args.a.now.a)
          c.turned_along-second.result (place c.args.b.now.a) (span_along c.args.way e)
          (span_along c.args.way k) c.args.at.now c.offset_between-offset.result
          c.cross-slope.result c.gap_at.result c.turned_along-first.ensures.value
          c.turned_along-second.ensures.value c.offset_between-offset.ensures.value
          c.cross-slope.ensures.value gap;
    }
