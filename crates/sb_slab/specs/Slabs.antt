-- The slabs of a direction, one after another.

use Rattle.std.specs.Prelude.{◌≡◌, ◌&&◌, ℕ, Bool, List, [], ◌∷◌, ◌++◌, map, drop, length, nat_le, slice_get}
use Rattle.std.specs.Prelude.{Some, Result, Err}
use Rattle.std.specs.List.{list_all}
use Rattle.theory_numbers.specs.Arrows.{Arrow}
use Rattle.theory_numbers.specs.Fractions.{Ratio}
use Rattle.sb_fraction.specs.declared.direction.Direction.{Direction}
use Rattle.sb_fraction.specs.Bounds.{is_abscissa_size}
use Rattle.sb_fraction.specs.Lines.{arrow_along}
use Rattle.sb_fraction.specs.Numbers.{number}
use Rattle.sb_model.specs.Building.{Building}
use Rattle.sb_model.specs.Surfaces.Sides.{is_abscissa_size as is_end_size}
use Rattle.sb_model.specs.PlanEdges.{PlanEdge, plan_edges}
use Rattle.theory_lines.specs.Slabs.{AreAbscissae, AreNeighbours, IsSlabOrder}
use Rattle.sb_frame.specs.Network.{Network}
use Rattle.sb_frame.specs.declared.slab.Slab.{Slab}

-- what is still to be told: the plan edges, the direction, and the abscissae from the beginning of the
-- next slab on
pub record SlabsLeft : Type 0 where
  pub edges : List PlanEdge
  pub direction : Arrow
  pub left : List Arrow

-- the plan edges of a model, and the last of the abscissae of a direction: all behind those passed
pub record HasLeft (m : Building) (d : Arrow) (passed : List Arrow) (s : SlabsLeft) : Type 0 where
  pub edges : s.edges ≡ plan_edges m
  pub direction : s.direction ≡ d
  pub abscissae : AreAbscissae m d (passed ++ s.left)

-- the slab between the next two abscissae, with its order; those behind are left
pub record IsNext (m : Building) (d : Arrow) (passed : List Arrow) (old new : SlabsLeft) (s : Slab)
    : Type 0 where
  pub direction : arrow_along s.direction ≡ d
  pub low : old.left ≡ number s.low ∷ new.left
  pub high : slice_get new.left 0 ≡ Some (number s.high)
  pub neighbours : AreNeighbours m d (number s.low) (number s.high)
  pub order : IsSlabOrder (plan_edges m) d (number s.low) (number s.high) s.order
  pub rest : HasLeft m d (passed ++ number s.low ∷ []) new

-- a slab of these ends can hold patches: both are in lowest terms and within the bounds of abscissae
abbrev pub are_ends : Ratio → Ratio → Bool
are_ends low high = is_end_size low && is_end_size high

-- there was memory enough for an answer
abbrev pub IsMade : {T E : Type 0} → Result T E → Type 0
IsMade {T} {E} answer = (e : E) → answer ≡ Err e → ⊥

-- ---- steps

abbrev pub slabs_left : Network → Direction → List Ratio → ℕ → SlabsLeft
slabs_left n d abscissae next =
    record { edges = n.edges; direction = arrow_along d; left = map number (drop next abscissae) }

-- the next abscissa is one of these or behind the last, and each has the size of one
abbrev pub is_within : List Ratio → ℕ → Bool
is_within abscissae next = nat_le next (length abscissae) && list_all is_abscissa_size abscissae
