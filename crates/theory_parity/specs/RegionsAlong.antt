-- The region of a patch, in the frame of a direction d, as four open half-planes.

use Rattle.std.specs.Prelude.{◌≡◌, neg_ℤ, ◌+ℤ◌, ◌-ℤ◌, ◌*ℤ◌, Bool, true, false, List, [], ◌∷◌}
use Rattle.std.specs.List.{AllByRecursion}
use Rattle.theory_numbers.specs.Arrows.{Arrow}
use Rattle.theory_numbers.specs.Rationals.{IsSame}
use Rattle.theory_plane.specs.Sides.{LineSide}
use Rattle.theory_plane.specs.Points.{is_on_side}
use Rattle.theory_plane.specs.Regions.{Region, is_inside}
use Rattle.sb_fraction.specs.declared.point.Point.{Point}
use Rattle.sb_fraction.specs.Spots.{Spot, IsSpot}
use Rattle.sb_fraction.specs.Lines.{in_frame}
use Rattle.theory_plans.specs.Inside.{is_in_plan}
use Rattle.theory_parity.specs.Below.{abscissa_in}
use Rattle.theory_parity.specs.Halves.{Half, half}

-- what lies on the other side of the line
abbrev pub opposite_half : Half → Half
opposite_half h = half (neg_ℤ h.a) (neg_ℤ h.b) (neg_ℤ h.c)

-- what lies beyond the number u, by its abscissa
abbrev pub half_beyond : Arrow → Arrow → Half
half_beyond d u = half (u.x *ℤ d.x) (u.x *ℤ d.y) (neg_ℤ u.y)

-- what lies above a side
abbrev pub half_above : Arrow → LineSide → Half
half_above d l =
    half (neg_ℤ ((l.dx *ℤ d.y) +ℤ (l.dy *ℤ d.x))) ((l.dx *ℤ d.x) -ℤ (l.dy *ℤ d.y)) (neg_ℤ l.off)

-- the four of a region: beyond its low end, before its high end, above its lower side and below its
-- upper side
abbrev pub four_halves : Arrow → Region → List Half
four_halves d r =
    half_beyond d r.low ∷ opposite_half (half_beyond d r.high) ∷ half_above d r.lower
    ∷ opposite_half (half_above d r.upper) ∷ []

-- the point lies in the region of the frame of d
abbrev pub is_in_region : Arrow → Region → Spot → Bool
is_in_region d r p = is_inside r (in_frame d p)

-- its abscissa is none of these numbers, and it lies on none of these sides
pub record IsOffSides (d : Arrow) (abscissae : List Arrow) (cuts : List LineSide) (p : Spot)
    : Type 0 where
  pub no_abscissa : AllByRecursion (λ u. IsSame u (abscissa_in d p) → ⊥) abscissae
  pub no_cut : AllByRecursion (λ cut. is_on_side cut (in_frame d p) ≡ false) cuts

-- each point of a region that is off these abscissae and sides lies inside the loops
abbrev pub IsInsideOffSides : List (List Point) → Arrow → List Arrow → List LineSide → Region
    → Type 0
IsInsideOffSides loops d abscissae cuts r =
    (p : Spot) → IsSpot p → is_in_region d r p ≡ true → IsOffSides d abscissae cuts p
    → is_in_plan loops p ≡ true
