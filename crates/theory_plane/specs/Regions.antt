-- What a patch covers of its face: a part of the plane between two abscissae and two sides, its
-- inner points and its closure on a line u = constant.
use Rattle.std.specs.Prelude.{◌≡◌, pos, ◌≤ℤ◌, Bool, ◌&&◌, not, int_le}
use Rattle.std.specs.Ordering.{int_eq}
use Rattle.theory_numbers.specs.Tests.{is_positive}
use Rattle.theory_numbers.specs.Arrows.{Arrow, cross}
use Rattle.theory_numbers.specs.Rationals.{IsRational, IsBelow, IsAtMost, is_below, is_at_most}
use Rattle.theory_plane.specs.Sides.{LineSide, IsLineSide, clearance_at, is_same_side, value_on}
use Rattle.theory_plane.specs.Points.{FacePoint, abscissa_of, is_above_side, is_under_side}

-- the points with low < u < high between two sides
pub record Region : Type 0 where
  pub low : Arrow
  pub high : Arrow
  pub lower : LineSide
  pub upper : LineSide

-- u lies strictly between the ends
abbrev pub is_spanned : Region → Arrow → Bool
is_spanned p u = is_below p.low u && is_below u p.high

-- u lies between the ends, both taken in
abbrev pub is_reached : Region → Arrow → Bool
is_reached p u = is_at_most p.low u && is_at_most u p.high

-- the point lies in the region: all four conditions are strict
abbrev pub is_inside : Region → FacePoint → Bool
is_inside p point =
    is_spanned p (abscissa_of point) && (is_above_side p.lower point && is_under_side p.upper point)

-- the same of two rational numbers: strictly between its ends, and strictly between the values of
-- its sides
pub record IsInner (p : Region) (u v : Arrow) : Type 0 where
  pub after : IsBelow p.low u
  pub before : IsBelow u p.high
  pub above : IsBelow (value_on p.lower u) v
  pub under : IsBelow v (value_on p.upper u)

-- the two sides are two lines of positive first part, the region is wide, its lower side is nowhere
-- above its upper side between its ends, and the two meet at one of the ends at most
pub record IsRegion (p : Region) : Type 0 where
  pub low_in : IsRational p.low
  pub high_in : IsRational p.high
  pub lower_in : IsLineSide p.lower
  pub upper_in : IsLineSide p.upper
  pub wide : IsBelow p.low p.high
  pub uncrossed : (u : Arrow) → IsRational u → IsBelow p.low u → IsBelow u p.high
      → pos 0 ≤ℤ clearance_at p.lower p.upper u
  pub one_meeting : clearance_at p.lower p.upper p.low ≡ pos 0
      → clearance_at p.lower p.upper p.high ≡ pos 0 → ⊥

-- both ends are rational numbers
abbrev pub has_ends : Region → Bool
has_ends p = is_positive p.low.x && is_positive p.high.x

-- both sides are lines of positive first part
abbrev pub has_sides : Region → Bool
has_sides p = is_positive p.lower.dx && is_positive p.upper.dx

-- the lower side is not above the upper side at u
abbrev pub is_uncrossed_at : Region → Arrow → Bool
is_uncrossed_at p u = int_le (pos 0) (clearance_at p.lower p.upper u)

-- nor at either end
abbrev pub is_uncrossed : Region → Bool
is_uncrossed p = is_uncrossed_at p p.low && is_uncrossed_at p p.high

-- the two sides meet at u
abbrev pub meets_at : Region → Arrow → Bool
meets_at p u = int_eq (clearance_at p.lower p.upper u) (pos 0)

-- they meet at one of the ends at most
abbrev pub meets_once : Region → Bool
meets_once p = not (meets_at p p.low && meets_at p p.high)

-- a region, as a test of the ends alone
abbrev pub is_region : Region → Bool
is_region p =
    has_ends p
    && (has_sides p && (is_below p.low p.high && (is_uncrossed p && meets_once p)))

-- v lies in the closure of the region on the line u: between its sides there, both taken in, for u
-- between its ends, both taken in
pub record IsInClosure (p : Region) (u v : Arrow) : Type 0 where
  pub after : IsAtMost p.low u
  pub before : IsAtMost u p.high
  pub above : IsAtMost (value_on p.lower u) v
  pub below : IsAtMost v (value_on p.upper u)

-- a common point of the closures of p and q on the line u
pub record IsCommon (p q : Region) (u v : Arrow) : Type 0 where
  pub rational : IsRational v
  pub first : IsInClosure p u v
  pub second : IsInClosure q u v

-- the lower side of p is not above the upper side of q at u
abbrev pub reaches_under : Region → Region → Arrow → Bool
reaches_under p q u = int_le (pos 0) (clearance_at p.lower q.upper u)

-- the closures of two regions have a common point on the line u: both reach it, and each lower side
-- is at most the other's upper side there
abbrev pub closures_meet : Region → Region → Arrow → Bool
closures_meet p q u =
    (is_reached p u && is_reached q u) && (reaches_under p q u && reaches_under q p u)

-- the two have the same lower and the same upper side
abbrev pub have_same_sides : Region → Region → Bool
have_same_sides p q = is_same_side p.lower q.lower && is_same_side p.upper q.upper

-- the second begins where the first ends, both have the same two sides, and these stand a positive
-- length apart there: the two share a whole side
abbrev pub is_seam : Region → Region → Bool
is_seam p q =
    int_eq (cross p.high q.low) (pos 0)
    && (have_same_sides p q && is_positive (clearance_at p.lower p.upper p.high))
