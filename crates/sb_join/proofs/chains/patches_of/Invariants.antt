-- What is left to be put on the stack makes the chains.
use Rattle.std.proofs.Common.{◌≡◌, vec_len}
use Rattle.theory_faces.specs.Strips.{strips_of}
use Rattle.theory_faces.specs.Chains.{chains}
use Rattle.sb_join.specs.Stacks.{from_top, put_all}
use Rattle.sb_join.proofs.chains.patches_of.Given as goal

abbrev pub invariant-runs : goal.invariant-runs
invariant-runs l =
    put_all (strips_of l.runs.items) (from_top l.patches.items)
    ≡ chains (strips_of l.initial.runs.items)

abbrev pub decreases-runs : goal.decreases-runs
decreases-runs l = vec_len l.runs
