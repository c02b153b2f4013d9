use Rattle.std.proofs.Common.{◌≡◌, List, map, take}
use Rattle.std.specs.Ordering.{nat_cmp}
use Rattle.std.specs.List.{All, flat_map}
use Rattle.std.specs.BTreeMap.{get}
use Rattle.sb_fraction.specs.declared.unit.Unit as units
use Rattle.sb_place.specs.Directions.{Coordinates}
use Rattle.sb_prism.specs.Outlines.{point_numbered}
use Rattle.sb_prism.specs.Kept.{with_points}
use Rattle.sb_prism.specs.Picked.{Names}
use Rattle.sb_prism.proofs.sections.curves.push_segments.Given as goal

abbrev pub invariant-segments : goal.invariant-segments
invariant-segments l =
    (unit : units.Unit) (points : List Coordinates)
    → All (λ s. All (Names unit points (get nat_cmp l.picked)) s.list) l.segments
    → l.outline ≡ with_points unit l.fn.outline
    (map (point_numbered points) (flat_map (λ s. s.list) (take l.segment-index l.segments)))
