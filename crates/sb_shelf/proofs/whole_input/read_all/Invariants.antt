-- Of the text under the path some is taken, no more than the longest input, and the rest is left.
use Rattle.std.proofs.Common.{◌<◌, ◌≤◌, ◌-◌, vec_len}
use Rattle.sb_shelf.proofs.PiecesJoin.{IsReading}
use Rattle.sb_shelf.specs.WholeTexts.{longest_input}
use Rattle.sb_shelf.proofs.whole_input.read_all.Given as goal

abbrev pub invariant-turns : goal.invariant-turns
invariant-turns g l = record {
  reading : IsReading l.path (g.S.Shelf.state l.fn.shelf) (g.S.Shelf.state l.shelf) l.bytes.items;
  within : vec_len l.bytes ≤ longest_input;
  piece : 0 < vec_len l.piece;
}

abbrev pub decreases-turns : goal.decreases-turns
decreases-turns g l = longest_input - vec_len l.bytes
