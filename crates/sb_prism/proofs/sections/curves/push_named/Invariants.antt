use Rattle.std.proofs.Common.{◌≡◌, List, map, take}
use Rattle.std.specs.Ordering.{nat_cmp}
use Rattle.std.specs.List.{All}
use Rattle.std.specs.BTreeMap.{get}
use Rattle.sb_fraction.specs.declared.unit.Unit as units
use Rattle.sb_place.specs.Directions.{Coordinates}
use Rattle.sb_prism.specs.Outlines.{point_numbered}
use Rattle.sb_prism.specs.Kept.{with_points}
use Rattle.sb_prism.specs.Picked.{Names}
use Rattle.sb_prism.proofs.sections.curves.push_named.Given as goal

abbrev pub invariant-texts : goal.invariant-texts
invariant-texts l =
    (unit : units.Unit) (points : List Coordinates) → All (Names unit points (get nat_cmp l.picked)) l.texts
    → l.outline ≡ with_points unit l.fn.outline (map (point_numbered points) (take l.text-index l.texts))
