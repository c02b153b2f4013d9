-- What is left to be laid under the stack makes the runs.
use Rattle.std.proofs.Common.{◌≡◌, ◌≤◌, take, length}
use Rattle.theory_faces.specs.Strips.{strips_of, runs_over}
use Rattle.sb_join.specs.Stacks.{from_top, lay_all}
use Rattle.sb_join.proofs.runs.runs_of.Given as goal

abbrev pub invariant-cells : goal.invariant-cells
invariant-cells l =
    (l.left ≤ length l.cells)
    × (lay_all (strips_of (take l.left l.cells)) (from_top l.runs.items)
    ≡ runs_over (strips_of l.cells))

abbrev pub decreases-cells : goal.decreases-cells
decreases-cells l = l.left
