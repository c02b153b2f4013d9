use Rattle.std.proofs.Common.{◌∙◌, arith, rules, Fits, w64}
use Rattle.std.specs.Ordering.{nat_cmp}
use Rattle.std.specs.BTreeMap.{get}
use Rattle.sb_prism.proofs.Outlines.PointsArePicked.{each_named}
use Rattle.sb_prism.proofs.sections.curves.named.Goals as goal

pub returns : goal.returns
returns c =
    let fits : Fits w64 c.in_ok-picked.picked.count = search rules in
    c.in_ok-push_segments.ensures c.args.unit c.args.pairs.now
    (each_named c.args.unit c.args.pairs.now (λ s. s.list) c.args.segments.now (get nat_cmp c.in_ok-picked.picked.points)
    (omega (arith, fits, c.in_ok-picked.ensures.count))
    c.in_ok-picked.ensures.points)
    ∙ (search rules)
