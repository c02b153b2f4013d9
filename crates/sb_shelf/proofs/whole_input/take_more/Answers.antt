-- A piece goes from what is left to what was taken, and at the end nothing is left.
use Rattle.std.proofs.Common.{◌<◌, length, arith}
use Rattle.sb_shelf.proofs.PiecesJoin.{pieces_join, nothing_left}
use Rattle.sb_shelf.proofs.whole_input.take_more.Goals as goal

pub returns-in-Ok-added-clause-joined : goal.returns-in-Ok-added-clause-joined
returns-in-Ok-added-clause-joined g c =
    let was = g.S.Shelf.state c.args.shelf.now in
    let now = g.S.Shelf.state c.read.new.self in
    let tells = c.read.ensures.keeps.tells_left in
    let taken = c.args.bytes.now.items in
    let piece = c.read.new.into in
    let told = c.in-Ok.ensures.ok in
    rw (c.extend_from_slice-added.ensures.items, c.in-Ok-added.is)
    (pieces_join was now taken c.args.piece.now piece c.in-Ok.count tells told)

pub returns-in-Ok-added-clause-end : goal.returns-in-Ok-added-clause-end
returns-in-Ok-added-clause-end g c =
    let was = g.S.Shelf.state c.args.shelf.now in
    let now = g.S.Shelf.state c.read.new.self in
    let tells = c.read.ensures.keeps.tells_left in
    let piece = c.read.new.into in
    let told = c.in-Ok.ensures.ok in
    let not_empty : 0 < length piece = omega (arith, c.requires.piece, c.read.auto.into) in
    nothing_left was now c.args.piece.now piece c.in-Ok.count tells told not_empty
