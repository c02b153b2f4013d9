-- Cell after cell, from the last to the first.
use Rattle.std.proofs.Common.{arith, ◌-◌}
use Rattle.theory_faces.specs.Strips.{strips_of, runs_over}
use Rattle.std.proofs.Math.Seq.{take-length}
use Rattle.sb_join.proofs.Stacked.{lay_all-nothing, lay_step}
use Rattle.sb_join.proofs.runs.runs_of.Goals as goal

pub cells-init : goal.cells-init
cells-init c =
    (omega arith, rw (take-length c.args.cells.now, c.new-runs.ensures.items) (lay_all-nothing (strips_of c.args.cells.now)))

pub cells-preserved : goal.cells-preserved
cells-preserved c = (
  omega (arith, c.cells.invariant.0),
  lay_step c.args.cells.now c.cells.runs.items c.lay.new.runs.items c.cells.left
      (c.cells.left - 1) c.index-cells-left.result (runs_over (strips_of c.args.cells.now))
      (omega (arith, c.cells-test.true)) c.cells.invariant.0 c.index-cells-left.is
      c.in_ok-lay.ensures c.cells.invariant.1,
)
