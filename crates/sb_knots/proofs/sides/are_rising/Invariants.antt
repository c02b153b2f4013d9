use Rattle.std.proofs.Common.{ℕ, ◌+◌, ◌<◌, slice_index_or}
use Rattle.theory_sweep.specs.Corners.{Corner}
use Rattle.sb_knots.specs.Steps.{key_of}
use Rattle.sb_knots.proofs.sides.are_rising.Given as goal

abbrev pub invariant-corners : goal.invariant-corners
invariant-corners l =
    (j : ℕ) (d : Corner) → j + 1 < l.i
    → key_of (slice_index_or l.corners j d) < key_of (slice_index_or l.corners (j + 1) d)
