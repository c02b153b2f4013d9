-- Gaps of a slab's order, by the edges on their two sides.

use Rattle.std.specs.Prelude.{◌≡◌, ℕ, zero, suc, Bool, List, Some, slice_get}
use Rattle.theory_numbers.specs.Fractions.{Ratio}
use Rattle.sb_fraction.specs.declared.direction.Line.{Line}
use Rattle.sb_model.specs.declared.faces.face.FaceKind.TheVariants as kind
use Rattle.sb_model.specs.declared.faces.face.Side.TheVariants.{OnLine}
use Rattle.sb_model.specs.PlanEdges.{PlanEdge}
use Rattle.sb_model.specs.Surfaces.Sides.{is_patch}

-- gap j of a row of edges lies between e and f: e is the last before it, and f the first behind it
abbrev pub IsBetween : List PlanEdge → ℕ → PlanEdge → PlanEdge → Type 0
IsBetween row zero e f = ⊥
IsBetween row (suc i) e f = (slice_get row i ≡ Some e) × (slice_get row (suc i) ≡ Some f)

-- between two abscissae and two lines stands a patch of Bottom
abbrev pub has_bottom : Ratio → Ratio → Line → Line → Bool
has_bottom low high lower upper = is_patch kind.Bottom low high (OnLine lower) (OnLine upper)

-- and one of Top
abbrev pub has_top : Ratio → Ratio → Line → Line → Bool
has_top low high lower upper = is_patch kind.Top low high (OnLine lower) (OnLine upper)
