use Rattle.std.proofs.Common.{◌∙◌, ap, map, subst, sym}
use Rattle.std.specs.Ordering.{nat_cmp}
use Rattle.std.specs.List.{All}
use Rattle.std.specs.BTreeMap.{get}
use Rattle.sb_prism.specs.Outlines.{point_numbered}
use Rattle.sb_prism.specs.Kept.{with_points}
use Rattle.sb_prism.specs.Picked.{Names}
use Rattle.sb_prism.proofs.Outlines.OutlinesAreRead.{segment_more}
use Rattle.sb_prism.proofs.sections.curves.push_segments.Goals as goal

pub segments-preserved : goal.segments-preserved
segments-preserved c unit points names =
    segment_more unit c.args.outline.now c.segments.outline c.push_named.new.outline (point_numbered points) (λ s. s.list)
    c.args.segments.now c.segments.segment-index c.segment-item.result c.segments-test.true c.segment-item.is
    (c.segments.invariant unit points names)
    (c.in_ok-push_named.ensures unit points
    (subst (All (Names unit points (get nat_cmp c.args.picked.now))) (sym c.as_slice.ensures)
    (subst (λ s. All (Names unit points (get nat_cmp c.args.picked.now)) s.list) (sym c.segment-item.is)
    (names c.segments.segment-index c.segment-item.result c.segments-test.true)))
    ∙ ap (λ ts. with_points unit c.segments.outline (map (point_numbered points) ts)) c.as_slice.ensures)
