use Rattle.std.specs.Ordering.{nat_cmp}
use Rattle.std.specs.BTreeMap.{get}
use Rattle.sb_prism.specs.Outlines.{point_numbered}
use Rattle.sb_prism.proofs.Outlines.OutlinesAreRead.{named_more}
use Rattle.sb_prism.proofs.Outlines.PointsArePicked.{named_at}
use Rattle.sb_prism.proofs.sections.curves.push_named.Goals as goal

pub texts-preserved : goal.texts-preserved
texts-preserved c unit points names =
    named_more unit c.args.outline.now c.texts.outline c.push_measured.new.outline (point_numbered points) c.args.texts.now
    c.texts.text-index c.text-item.result c.named_point.result c.texts-test.true c.text-item.is
    (c.texts.invariant unit points names)
    (named_at unit points (get nat_cmp c.args.picked.now) c.args.texts.now c.texts.text-index c.text-item.result
    c.bytes.result.now c.named_point.result c.texts-test.true c.text-item.is c.bytes.ensures names c.named_point.ensures)
    c.in_ok-push_measured.ensures
