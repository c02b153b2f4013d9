use Rattle.std.proofs.Common.{◌≡◌, ◌≤◌, ◌++◌, take, reverse, length}
use Rattle.sb_layers.proofs.parts.reversed.Given as goal

abbrev pub decreases-items : goal.decreases-items
decreases-items l = l.left

-- the items so far go before those that are left, in the other order
abbrev pub invariant-items : goal.invariant-items
invariant-items l =
    (l.left ≤ length l.items) × (l.list ++ reverse (take l.left l.items) ≡ reverse l.items)
