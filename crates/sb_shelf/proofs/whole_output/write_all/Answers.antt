-- A write goes on where the writes before it have ended.
use Rattle.std.proofs.Common.{arith, length-drop}
use Rattle.std.proofs.lemmas.List.{take_rest}
use Rattle.sb_shelf.proofs.PiecesAppend.{pieces_append}
use Rattle.sb_shelf.proofs.whole_output.write_all.Goals as goal

pub turns-preserved : goal.turns-preserved
turns-preserved g c =
    let start = g.S.Shelf.state c.args.shelf.now in
    let between = g.S.Shelf.state c.turns.shelf in
    let now = g.S.Shelf.state c.write.new.self in
    let text = c.args.text.now in
    let done = c.turns.done in
    let rest = take_rest text done in
    let first = c.turns.invariant.writing in
    let keeps = c.write.ensures.keeps in
    let appended = c.in-Ok.ensures.ok in
    let count = c.in-Ok.count in
    record {
      writing =
          pieces_append c.args.out start between now text done count _ rest first keeps appended;
      within = omega (arith, c.in-Ok.ensures.within, length-drop done text);
    }
