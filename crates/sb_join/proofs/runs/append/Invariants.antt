-- What was appended and what is left of the stack are what there was.
use Rattle.std.proofs.Common.{◌≡◌, ◌++◌, vec_len}
use Rattle.theory_faces.specs.Strips.{strips_of}
use Rattle.sb_join.specs.Stacks.{from_top}
use Rattle.sb_join.proofs.runs.append.Given as goal

abbrev pub invariant-own : goal.invariant-own
invariant-own l =
    strips_of l.runs.items ++ from_top l.own.items
    ≡ strips_of l.initial.runs.items ++ from_top l.initial.own.items

abbrev pub decreases-own : goal.decreases-own
decreases-own l = vec_len l.own
