-- Open half-planes, and the points between two points.

use Rattle.std.specs.Prelude.{◌≡◌, ℤ, pos, neg_ℤ, ◌+ℤ◌, ◌*ℤ◌, ◌<ℤ◌, ◌≤ℤ◌, Bool, true, false, not}
use Rattle.std.specs.Prelude.{List}
use Rattle.std.specs.Ordering.{int_eq}
use Rattle.std.specs.List.{list_all, list_any}
use Rattle.theory_numbers.specs.Tests.{is_positive}
use Rattle.theory_numbers.specs.Arrows.{Arrow, arrow, cross}
use Rattle.theory_numbers.specs.Rationals.{IsForm}
use Rattle.sb_fraction.specs.declared.point.Point.{Point}
use Rattle.sb_fraction.specs.Spots.{Spot, spot, IsSpot}
use Rattle.sb_fraction.specs.Edges.{Edge, span_of, is_on}
use Rattle.sb_fraction.specs.Lines.{place}
use Rattle.theory_plans.specs.Inside.{is_in_plan}

-- the line a·x + b·y + c = 0, and the open half-plane where this is above 0
pub record Half : Type 0 where
  pub a : ℤ
  pub b : ℤ
  pub c : ℤ

abbrev pub half : ℤ → ℤ → ℤ → Half
half a b c = record { a = a; b = b; c = c }

-- it is a line: a and b are not both 0
abbrev pub IsLine : Half → Type 0
IsLine h = IsForm (arrow h.a h.b)

-- a·x + b·y + c at the point, w times
abbrev pub height_over : Half → Spot → ℤ
height_over h p = ((h.a *ℤ p.x) +ℤ (h.b *ℤ p.y)) +ℤ (h.c *ℤ p.w)

-- the point lies in the half-plane
abbrev pub is_in_half : Spot → Half → Bool
is_in_half p h = is_positive (height_over h p)

-- it lies in each of them: what they have in common is convex
abbrev pub is_in_all : List Half → Spot → Bool
is_in_all halves p = list_all (is_in_half p) halves

-- it lies on none of the lines
abbrev pub is_off : List Half → Spot → Bool
is_off cuts p = list_all (λ h. not (int_eq (height_over h p) (pos 0))) cuts

-- what lies left of an edge
abbrev pub left_half : Edge → Half
left_half e =
    half (neg_ℤ (span_of e).y) (span_of e).x (neg_ℤ (cross (span_of e) (place e.a)))

-- the points from which a ray of this direction has the plan point on its left
abbrev pub half_right_of : Arrow → Point → Half
half_right_of r a = half r.y (neg_ℤ r.x) (cross r (place a))

-- the point on the way from p to q that has the weight m of p and n of q, for whole numbers that
-- are at least 0 and not both 0
abbrev pub on_way : ℤ → Spot → ℤ → Spot → Spot
on_way m p n q =
    spot ((m *ℤ p.x) +ℤ (n *ℤ q.x)) ((m *ℤ p.y) +ℤ (n *ℤ q.y)) (pos 0) ((m *ℤ p.w) +ℤ (n *ℤ q.w))

-- no edge of the list has a point on the way from p to q, both taken in
abbrev pub AreClearOf : Spot → Spot → List Edge → Type 0
AreClearOf p q es =
    (m n : ℤ) → pos 0 ≤ℤ m → pos 0 ≤ℤ n → pos 0 <ℤ (m +ℤ n)
    → list_any (is_on (on_way m p n q)) es ≡ false

-- each point of a region that is off finitely many lines lies inside the loops
abbrev pub IsInsideOff : List (List Point) → List Half → (Spot → Bool) → Type 0
IsInsideOff loops cuts region =
    (p : Spot) → IsSpot p → region p ≡ true → is_off cuts p ≡ true → is_in_plan loops p ≡ true

-- each point of the region does
abbrev pub IsInsideThroughout : List (List Point) → (Spot → Bool) → Type 0
IsInsideThroughout loops region =
    (p : Spot) → IsSpot p → region p ≡ true → is_in_plan loops p ≡ true
