-- The edges so far that reach past the abscissa, and those that are left, are all.
use Rattle.sb_fraction.specs.Lines.{arrow_along}
use Rattle.sb_fraction.specs.Numbers.{number}
use Rattle.sb_slab.proofs.ReachingSoFar.{ReachingTo}
use Rattle.sb_slab.proofs.reaching.reaching.Given as goal

abbrev pub invariant-edges : goal.invariant-edges
invariant-edges l = ReachingTo (arrow_along l.d) (number l.at) l.edges.edges l.place l.list.items
