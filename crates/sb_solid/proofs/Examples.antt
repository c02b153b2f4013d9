-- Worked coordinates and a block that the definitions accept, and wrong answers that they refuse.
use Rattle.std.proofs.Common.{◌≡◌, ℤ, pos, Bool, true, false, [], ◌∷◌, Option, Some, None, Ok, Err, refl, sym, ap, ◌∙◌}
use Rattle.std.specs.Prelude.{neg_ℤ}
use Rattle.std.specs.Ordering.{int_eq}
use Rattle.std.proofs.lemmas.Bool.{false≢true}
use Rattle.theory_numbers.specs.Arrows.{cross}
use Rattle.sb_fraction.specs.Spots.{Vector, vector}
use Rattle.theory_plans.specs.Rectangles.{rectangle}
use Rattle.sb_model.specs.Solids.{Upright, upright}
use Rattle.sb_solid.specs.declared.error.SolidError.TheVariants as solid_error
use Rattle.sb_solid.specs.Grid.{is_near, is_in_world, nearest_millimetre}
use Rattle.sb_solid.specs.Solids.{Extruded, prism_at, JudgesAt}

-- ---- the grid

-- 10 µm, and 1 nm more
near : is_near (pos 3010000) ≡ true
near = refl

off : is_near (pos 3010001) ≡ false
off = refl

near_below : is_near (neg_ℤ (pos 10000)) ≡ true
near_below = refl

off_below : is_near (neg_ℤ (pos 10001)) ≡ false
off_below = refl

-- halves, away from 0
half : nearest_millimetre (pos 500000) ≡ pos 1
half = refl

half_below : nearest_millimetre (neg_ℤ (pos 500000)) ≡ neg_ℤ (pos 1)
half_below = refl

-- 500 m and 10 µm, and 1 nm more
farthest_in : is_in_world (pos 500000010000) ≡ true
farthest_in = refl

beyond : is_in_world (pos 500000010001) ≡ false
beyond = refl

-- ---- a block of 4 m by 3 m by 2.5 m

abbrev corner_at : ℤ → ℤ → Vector
corner_at x y = vector x y (pos 0)

abbrev block : Extruded
block = record {
  loops = (corner_at (pos 0) (pos 0) ∷ corner_at (pos 4000000000) (pos 0) ∷ corner_at (pos 4000000000) (pos 3000000000)
      ∷ corner_at (pos 0) (pos 3000000000) ∷ []) ∷ [];
  way = vector (pos 0) (pos 0) (pos 2500000000);
  along = vector (pos 0) (pos 0) (pos 1);
}

abbrev up_by : ℤ → Vector
up_by z = vector (pos 0) (pos 0) z

-- its prism from this height
abbrev from_height : ℤ → ℤ → Upright
from_height low high = upright (rectangle (pos 0) (pos 4000) (pos 0) (pos 3000) ∷ []) low high

-- moved by 10 µm it has its prism, by 1 nm more it is off the grid
its_prism : JudgesAt block (vector (pos 10000) (pos 0) (pos 0)) (Ok (from_height (pos 0) (pos 2500)))
unfolding cross
its_prism = (refl, refl, refl)

just_off : JudgesAt block (vector (pos 10001) (pos 0) (pos 0)) (Err solid_error.OffGrid)
just_off = (refl, refl)

-- the far end alone may be out of range
far_end : JudgesAt block (up_by (pos 497500010001)) (Err solid_error.Range)
far_end = refl

-- where it has a prism there is no fault
no_range : JudgesAt block (up_by (pos 0)) (Err solid_error.Range) → ⊥
no_range is = false≢true is

no_off_grid : JudgesAt block (up_by (pos 0)) (Err solid_error.OffGrid) → ⊥
no_off_grid is = false≢true is.1

raised : prism_at block (up_by (pos 1000000)) ≡ Some (from_height (pos 1) (pos 2501))
unfolding cross
raised = refl

is_none : Option Upright → Bool
is_none None = true
is_none (Some _) = false

no_loops : JudgesAt block (up_by (pos 1000000)) (Err solid_error.Loops) → ⊥
unfolding is_none
no_loops is = false≢true (ap is_none (sym raised ∙ is.2))

-- and no other prism: where it is raised it does not begin at 0
begins_at_0 : Option Upright → Bool
begins_at_0 None = false
begins_at_0 (Some p) = int_eq p.z0 (pos 0)

not_as_it_lay : JudgesAt block (up_by (pos 1000000)) (Ok (from_height (pos 0) (pos 2500))) → ⊥
unfolding begins_at_0
not_as_it_lay is = false≢true (ap begins_at_0 (sym raised ∙ is.2))

-- ---- a profile that stands, extruded against x

abbrev on_its_side : Extruded
on_its_side = record {
  loops = (vector (pos 0) (pos 0) (pos 0) ∷ vector (pos 0) (pos 4000000000) (pos 0)
      ∷ vector (pos 0) (pos 4000000000) (pos 3000000000) ∷ vector (pos 0) (pos 0) (pos 3000000000) ∷ []) ∷ [];
  way = vector (neg_ℤ (pos 2500000000)) (pos 0) (pos 0);
  along = vector (pos 1) (pos 0) (pos 0);
}

its_box : JudgesAt on_its_side (up_by (pos 0))
    (Ok (upright (rectangle (neg_ℤ (pos 2500)) (pos 0) (pos 0) (pos 4000) ∷ []) (pos 0) (pos 3000)))
unfolding cross
its_box = (refl, refl, refl)
