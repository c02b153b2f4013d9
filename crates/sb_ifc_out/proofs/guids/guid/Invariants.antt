use Rattle.std.proofs.Common.{◌≡◌, ◌≤◌, ◌++◌, drop, length}
use Rattle.sb_ifc_out.specs.Guids.{digits_below, guid_of, guid_length}
use Rattle.sb_ifc_out.proofs.guids.guid.Given as goal

-- the digits of what is left go before those that stand
abbrev pub invariant-places : goal.invariant-places
invariant-places l =
    (l.place ≤ guid_length)
    × ((length l.text ≡ guid_length)
    × (digits_below l.place l.left ++ drop l.place l.text ≡ guid_of l.fn.value))

abbrev pub decreases-places : goal.decreases-places
decreases-places l = l.place
