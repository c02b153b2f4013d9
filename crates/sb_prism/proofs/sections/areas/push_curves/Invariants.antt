use Rattle.std.proofs.Common.{◌≡◌, List, ◌++◌, take}
use Rattle.sb_place.specs.declared.sight.Seen.{Seen}
use Rattle.sb_prism.specs.Shapes.{Curve, AreEach, IsCurve}
use Rattle.sb_prism.specs.Kept.{contour_of}
use Rattle.sb_prism.proofs.sections.areas.push_curves.Given as goal

abbrev pub invariant-numbers : goal.invariant-numbers
invariant-numbers l =
    (more : List (Seen Curve)) × AreEach (IsCurve l.file) (take l.number-index l.numbers) more
    × ((curves : List (Seen Curve)) → l.fn.contour ≡ contour_of l.unit curves
    → l.contour ≡ contour_of l.unit (curves ++ more))
