-- The abscissae so far and those of the crossings that are left are all.
use Rattle.std.proofs.Common.{◌≡◌, ◌++◌, drop, IsTrue}
use Rattle.std.specs.List.{list_all}
use Rattle.sb_fraction.specs.Bounds.{is_crossing_size}
use Rattle.sb_fraction.specs.Lines.{arrow_along}
use Rattle.sb_frame.specs.Network.{spots_of}
use Rattle.sb_frame.specs.Abscissae.{ratios_of, of_crossings}
use Rattle.sb_frame.proofs.abscissae.append_crossings.Given as goal

abbrev pub invariant-points : goal.invariant-points
invariant-points l = record {
  all : ratios_of l.list.items
      ++ of_crossings (arrow_along l.d) (spots_of (drop l.point-index l.points))
      ≡ ratios_of l.initial.list.items ++ of_crossings (arrow_along l.d) (spots_of l.points);
  sizes : IsTrue (list_all is_crossing_size (spots_of (drop l.point-index l.points)));
}
