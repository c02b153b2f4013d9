-- What stands there is the text as it was and the pieces so far.
use Rattle.std.proofs.Common.{◌≡◌, ◌++◌, take}
use Rattle.std.specs.List.{flat_map}
use Rattle.sb_texts.specs.Pieces.{piece_text}
use Rattle.sb_texts.proofs.pieces.append_all.Given as goal

abbrev pub invariant-loop-piece : goal.invariant-loop-piece
invariant-loop-piece l =
    l.text ≡ l.initial.text ++ flat_map piece_text (take l.piece-index l.pieces)
