use Rattle.sb_step.proofs.Names.{◌+◌, ◌-◌, ◌*◌, length}
use Rattle.sb_step.proofs.ParameterLists.ListsAreRead.{ReadSoFar}
use Rattle.sb_step.proofs.parameters.reading.+reading.Given as goal

-- the bytes that are left, and of a parameter's own functions the one that is called last is less

abbrev pub decreases-parameter : goal.decreases-parameter
decreases-parameter l = 2 * (length l.bytes.now - l.lexer.now.place) + 1

abbrev pub decreases-typed : goal.decreases-typed
decreases-typed l = 2 * (length l.bytes.now - l.lexer.now.place)

abbrev pub decreases-list : goal.decreases-list
decreases-list l = 2 * (length l.bytes.now - l.lexer.now.place)

abbrev pub invariant-list-items : goal.invariant-list-items
invariant-list-items l = ReadSoFar l.bytes l.fn.lexer l.lexer l.items l.token

abbrev pub decreases-list-items : goal.decreases-list-items
decreases-list-items l = length l.bytes - l.lexer.place
