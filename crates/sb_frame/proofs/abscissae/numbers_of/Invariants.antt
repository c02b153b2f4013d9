-- The numbers of the abscissae so far.
use Rattle.std.proofs.Common.{◌≡◌, take}
use Rattle.sb_frame.specs.Abscissae.{ratios_of}
use Rattle.sb_frame.proofs.abscissae.numbers_of.Given as goal

abbrev pub invariant-list : goal.invariant-list
invariant-list l = l.numbers ≡ ratios_of (take l.abscissa-index l.list)
