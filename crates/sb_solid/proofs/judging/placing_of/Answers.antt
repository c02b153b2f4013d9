use Rattle.std.proofs.Common.{◌≡◌, true, map, sym, subst, ◌∙◌}
use Rattle.sb_solid.specs.declared.points.axes.Coordinate.TheVariants as coordinate
use Rattle.sb_solid.specs.Spans.{IsSpanOf}
use Rattle.sb_solid.specs.Steps.{vector_at}
use Rattle.sb_solid.specs.Judged.{lying_solid, are_close, base_prism}
use Rattle.sb_solid.proofs.Seen.BasesSeen.{numbers-lying, empty_from}
use Rattle.sb_solid.proofs.judging.placing_of.Goals as goal

pub returns-in_default : goal.returns-in_default
returns-in_default c = sym (numbers-lying coordinate.X c.args.loops.now) ∙ c.in_default.ensures

pub returns-in_default-span_of : goal.returns-in_default-span_of
returns-in_default-span_of c =
    empty_from coordinate.Y coordinate.X (map (map vector_at) c.args.loops.now)
    (sym (numbers-lying coordinate.Y c.args.loops.now) ∙ c.in_default-span_of.ensures)

pub returns-in_default-span_of-2 : goal.returns-in_default-span_of-2
returns-in_default-span_of-2 c =
    empty_from coordinate.Z coordinate.X (map (map vector_at) c.args.loops.now)
    (sym (numbers-lying coordinate.Z c.args.loops.now) ∙ c.in_default-span_of-2.ensures)

pub returns : goal.returns
returns c = record {
  spans = record {
    x = subst (λ ns. IsSpanOf ns c.in-Some.x) (numbers-lying coordinate.X c.args.loops.now) c.in-Some.ensures;
    y = subst (λ ns. IsSpanOf ns c.in-Some-span_of.y) (numbers-lying coordinate.Y c.args.loops.now) c.in-Some-span_of.ensures;
    z = subst (λ ns. IsSpanOf ns c.in-Some-span_of-2.z) (numbers-lying coordinate.Z c.args.loops.now) c.in-Some-span_of-2.ensures;
  };
  prism =
      let e = lying_solid c.args.loops.now c.args.way (vector_at c.args.along) in
      subst (λ w. are_close e w ≡ true → c.in_ok-prism.prism ≡ base_prism e w) c.anchors_of-anchors.ensures
      (c.in_ok-prism.ensures (vector_at c.args.along) c.view_along.ensures);
  points = c.points_where-points.ensures;
}
