use Rattle.std.proofs.Common.{◌++◌, ◌∷◌, []}
use Rattle.sb_prism.specs.Shapes.{IsRepresentation}
use Rattle.sb_prism.proofs.EachIsRead.{each_next, each_whole}
use Rattle.sb_prism.proofs.items.bodies.body_among.Goals as goal

pub numbers-preserved : goal.numbers-preserved
numbers-preserved c =
    let (rs, are, body_is) = c.numbers.invariant in (
      rs ++ c.in_ok-next.next ∷ [],
      each_next (IsRepresentation c.args.file.now) c.args.numbers.now rs c.numbers.number-index c.in_ok-next.next
          c.numbers-test.true are c.in_ok-next.ensures,
      c.with_next-body.ensures rs body_is,
    )

pub returns : goal.returns
returns c =
    let (rs, are, body_is) = c.numbers.invariant in (
      rs,
      each_whole (IsRepresentation c.args.file.now) c.args.numbers.now rs c.numbers.number-index c.numbers-test.false are,
      body_is,
    )
