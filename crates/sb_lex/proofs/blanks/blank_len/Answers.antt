use Rattle.std.proofs.Common.{◌∙◌, ap, arith, length-drop}
use Rattle.std.proofs.lemmas.List.{take_rest}
use Rattle.sb_lex.specs.Scanning.{piece_len}
use Rattle.sb_lex.proofs.GapsAgree.{blank_more}
use Rattle.sb_lex.proofs.blanks.blank_len.Goals as goal

pub pieces-preserved : goal.pieces-preserved
pieces-preserved c =
    let rest = c.args.rest.now in
    record {
      within = omega (arith, c.piece_len-len.ensures.within, length-drop c.pieces.at rest);
      blank =
          blank_more rest c.pieces.at c.piece_len-len.result
          (c.piece_len-len.ensures.len ∙ ap piece_len (take_rest rest c.pieces.at))
          (omega arith) c.pieces.invariant.blank;
    }
