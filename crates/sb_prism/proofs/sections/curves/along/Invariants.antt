use Rattle.std.proofs.Common.{◌≡◌, ℕ, List, ◌++◌, length}
use Rattle.sb_place.specs.declared.sight.Seen.{Seen}
use Rattle.sb_place.specs.declared.sight.Seen.TheVariants as seen
use Rattle.sb_place.specs.Directions.{Coordinates}
use Rattle.sb_place.specs.Positions.{IsPoint}
use Rattle.sb_prism.specs.Shapes.{AreEach}
use Rattle.sb_prism.specs.Shapes.Curve.{polyline}
use Rattle.sb_prism.specs.Kept.{outline_of}
use Rattle.sb_prism.proofs.sections.curves.along.Given as goal

abbrev pub invariant-numbers : goal.invariant-numbers
invariant-numbers l =
    (taken : List ℕ) × (points : List (Seen Coordinates)) × (l.fn.numbers ≡ taken ++ l.numbers)
    × AreEach (IsPoint l.file) taken points × (l.outline ≡ outline_of l.unit (seen.Shown (polyline points)))

abbrev pub decreases-numbers : goal.decreases-numbers
decreases-numbers l = length l.numbers
