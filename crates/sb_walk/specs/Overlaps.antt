-- Spaces that overlap over a slab.

use Rattle.std.specs.Prelude.{◌≡◌, ◌⊎◌, ℕ, ◌<◌, ◌≤◌}
use Rattle.theory_lists.specs.Members.{Stands}
use Rattle.theory_numbers.specs.Arrows.{Arrow}
use Rattle.sb_fraction.specs.Lines.{arrow_along}
use Rattle.sb_fraction.specs.Numbers.{number}
use Rattle.sb_fraction.specs.Spots.{Spot}
use Rattle.sb_model.specs.declared.products.Space.{Space}
use Rattle.sb_model.specs.Building.{Building}
use Rattle.sb_model.specs.PlanEdges.{plan_edges}
use Rattle.theory_lines.specs.Slabs.{AreNeighbours, IsSlabOrder}
use Rattle.theory_gaps.specs.Gaps.{IsCommonOver}
use Rattle.sb_frame.specs.declared.slab.Slab.{Slab}
use Rattle.sb_frame.specs.Directions.{along_x}

-- the slab is one of the model: it lies between neighbouring abscissae of its direction, and its order is
-- that of the plan edges
pub record IsSlabOf (m : Building) (s : Slab) : Type 0 where
  pub neighbours : AreNeighbours m (arrow_along s.direction) (number s.low) (number s.high)
  pub order : IsSlabOrder (plan_edges m) (arrow_along s.direction) (number s.low) (number s.high) s.order

-- two spaces have a common inner point over the slab of (1, 0) from low to high
abbrev pub HaveCommonPoint : Arrow → Arrow → Space → Space → Type 0
HaveCommonPoint low high s t = (p : Spot) × IsCommonOver along_x low high s.prism t.prism p

-- the spaces a and b of the model have one
pub record OverlapOver (m : Building) (low high : Arrow) (a b : ℕ) : Type 0 where
  pub first : Space
  pub second : Space
  pub first_in : Stands first m.spaces
  pub second_in : Stands second m.spaces
  pub first_is : first.number ≡ a
  pub second_is : second.number ≡ b
  pub common : HaveCommonPoint low high first second

-- the pair (a, b) comes before (x, y), or is it
abbrev pub IsUpTo : ℕ → ℕ → ℕ → ℕ → Type 0
IsUpTo a b x y = (a < x) ⊎ ((a ≡ x) × (b ≤ y))

-- a and b are the least pair of spaces with a common inner point over the slab
pub record IsLeastOverlap (m : Building) (low high : Arrow) (a b : ℕ) : Type 0 where
  pub rising : a < b
  pub overlap : OverlapOver m low high a b
  pub least : (x y : ℕ) → x < y → OverlapOver m low high x y → IsUpTo a b x y

-- no two spaces have one
abbrev pub HaveNoOverlapOver : Building → Arrow → Arrow → Type 0
HaveNoOverlapOver m low high = (x y : ℕ) → x < y → OverlapOver m low high x y → ⊥
