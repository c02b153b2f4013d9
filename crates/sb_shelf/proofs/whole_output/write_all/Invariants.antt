-- The first bytes of the text stand on the output, as many as were done.
use Rattle.std.proofs.Common.{length, ◌-◌, ◌≤◌}
use Rattle.sb_shelf.proofs.PiecesAppend.{IsWriting}
use Rattle.sb_shelf.proofs.whole_output.write_all.Given as goal

abbrev pub invariant-turns : goal.invariant-turns
invariant-turns g l = record {
  writing : IsWriting l.out l.text l.done (g.S.Shelf.state l.fn.shelf) (g.S.Shelf.state l.shelf);
  within : l.done ≤ length l.text;
}

abbrev pub decreases-turns : goal.decreases-turns
decreases-turns g l = length l.text - l.done
