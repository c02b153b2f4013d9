-- The common point of two edges.

use Rattle.std.specs.Prelude.{◌⊎◌, ◌≡◌, pos, ◌*ℤ◌, IsTrue, unsigned_abs}
use Rattle.sb_fraction.specs.declared.point.HPoint.{HPoint}
use Rattle.theory_numbers.specs.Arrows.{cross}
use Rattle.sb_fraction.specs.Spots.{Spot, IsSpot, spot_of}
use Rattle.sb_fraction.specs.Edges.{Edge, span_of, is_on}
use Rattle.sb_fraction.specs.Crossings.{meeting_of, are_parallel}
use Rattle.sb_fraction.specs.Bounds.{is_crossing_size}

-- the point lies on both edges, ends taken in
pub record IsCommon (e f : Edge) (p : Spot) : Type 0 where
  pub on_first : IsTrue (is_on p e)
  pub on_second : IsTrue (is_on p f)

-- no rational point lies on both
abbrev pub HaveNoCommonPoint : Edge → Edge → Type 0
HaveNoCommonPoint e f = (p : Spot) → IsSpot p → IsCommon e f p → ⊥

-- two edges have no one common point: they are parallel, or have none
abbrev pub AreApart : Edge → Edge → Type 0
AreApart e f = IsTrue (are_parallel e f) ⊎ HaveNoCommonPoint e f

-- two homogeneous points are one point of the plan
abbrev pub IsSamePoint : Spot → Spot → Type 0
IsSamePoint p q = (p.x *ℤ q.w ≡ q.x *ℤ p.w) × (p.y *ℤ q.w ≡ q.y *ℤ p.w)

-- p is the one common point of the two edges
pub record IsMeeting (e f : Edge) (p : HPoint) : Type 0 where
  pub common : IsCommon e f (spot_of p)
  pub only : (q : Spot) → IsSpot q → IsCommon e f q → IsSamePoint q (spot_of p)
  pub value : spot_of p ≡ meeting_of e f
  pub denominator : p.w ≡ pos (unsigned_abs (cross (span_of e) (span_of f)))
  pub size : IsTrue (is_crossing_size (spot_of p))
