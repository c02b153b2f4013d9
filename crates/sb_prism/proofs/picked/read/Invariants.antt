use Rattle.std.proofs.Common.{◌≡◌, ◌+◌, [], map, length, take, drop}
use Rattle.std.specs.Ordering.{nat_cmp}
use Rattle.std.specs.BTreeMap.{get}
use Rattle.sb_prism.specs.Kept.{spot_in}
use Rattle.sb_prism.specs.Picked.{AreRead}
use Rattle.sb_prism.proofs.picked.read.Given as goal

-- so many were read, and the rest is left
abbrev pub invariant-pairs : goal.invariant-pairs
invariant-pairs l =
    (l.at + length l.pairs ≡ length l.fn.pairs) × (l.pairs ≡ drop l.at l.fn.pairs)
    × (AreRead (get nat_cmp l.fn.points) [] (get nat_cmp l.fn.points)
    → AreRead (get nat_cmp l.fn.points) (take l.at (map (spot_in l.unit) l.fn.pairs)) (get nat_cmp l.points))

abbrev pub decreases-pairs : goal.decreases-pairs
decreases-pairs l = length l.pairs
