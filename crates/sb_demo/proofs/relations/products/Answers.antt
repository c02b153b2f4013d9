-- One product more.
use Rattle.std.proofs.Common.{◌+◌, refl, []}
use Rattle.sb_demo.specs.Numbering.{product_number}
use Rattle.sb_demo.proofs.Ranges.{next_item}
use Rattle.sb_demo.proofs.relations.products.Goals as goal

pub loop-i-preserved : goal.loop-i-preserved
loop-i-preserved c =
    next_item product_number c.args.place c.loop-i.i (c.args.place + c.loop-i.i) [] _ _ _ refl
    c.loop-i.invariant c.product_number.ensures c.in_ok-push.ensures.ok
