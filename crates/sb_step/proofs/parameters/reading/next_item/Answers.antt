use Rattle.sb_step.proofs.Names.{sym}
use Rattle.sb_step.proofs.ParameterLists.ParametersAreRead.{more_has_next, comma_has_next, reads_further, reads_last}
use Rattle.sb_step.proofs.parameters.reading.next_item.Goals as goal

pub next-mark-requires : goal.next-mark-requires
next-mark-requires c = more_has_next c.args.lexer.now c.requires

pub next-requires : goal.next-requires
next-requires c = comma_has_next c.next-mark.ensures (sym c.if-is_comma.ensures) c.requires

pub returns-then-is_comma : goal.returns-then-is_comma
returns-then-is_comma c =
    reads_further c.next-mark.ensures c.next.ensures (sym c.if-is_comma.ensures)

pub returns-else-is_comma : goal.returns-else-is_comma
returns-else-is_comma c = reads_last c.next-mark.ensures (sym c.if-is_comma.ensures)
