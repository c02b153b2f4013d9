use Rattle.std.proofs.Common.{◌∷◌, [], rules}
use Rattle.std.specs.Ordering.{nat_cmp}
use Rattle.std.specs.BTreeMap.{get}
use Rattle.sb_prism.proofs.Outlines.PointsArePicked.{read_more}
use Rattle.sb_prism.proofs.picked.read.Goals as goal

pub pairs-preserved : goal.pairs-preserved
pairs-preserved c =
    let (count, rest, read) = c.pairs.invariant in
    read_more c.args.unit (get nat_cmp c.args.points.now) (get nat_cmp c.pairs.points) (get nat_cmp c.read_one.new.points)
    c.args.pairs.now c.pairs.pairs c.next.new.self c.pairs.at c.in_ok-at.at (c.in-Some.x.now ∷ c.in-Some.y.now ∷ [])
    (search rules) c.next.ensures.left (search rules) count rest
    c.in_ok-read_one.ensures read
