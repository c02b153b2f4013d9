use Rattle.std.proofs.Common.{◌≡◌, [], false, length}
use Rattle.sb_prism.specs.Kept.{with_points, without_points, faults_of}
use Rattle.sb_prism.proofs.sections.curves.whole.Given as goal

-- the points that are left, behind those so far, are all
abbrev pub invariant-pairs : goal.invariant-pairs
invariant-pairs l =
    with_points l.unit l.outline l.pairs
    ≡ with_points l.unit (without_points (faults_of [] [] false false false)) l.fn.pairs

abbrev pub decreases-pairs : goal.decreases-pairs
decreases-pairs l = length l.pairs
