-- Slabs of a direction: the plan between two abscissae with no abscissa between them, the edges that
-- span it, and their order from below.

use Rattle.std.specs.Prelude.{◌≡◌, ◌⊎◌, ℕ, suc, ◌<◌, pos, ◌<ℤ◌, ◌≤ℤ◌, Bool, true, false}
use Rattle.std.specs.Prelude.{◌&&◌, ◌||◌, List, [], ◌∷◌, Option, Some, None, slice_get}
use Rattle.std.specs.Prelude.{if◌then◌else◌, IsPermutation}
use Rattle.std.specs.List.{AllByRecursion}
use Rattle.theory_lists.specs.Members.{Stands, AllOfTwo}
use Rattle.theory_numbers.specs.Arrows.{Arrow}
use Rattle.theory_numbers.specs.Rationals.{rational, IsRational, IsBelow, IsSame, is_at_most}
use Rattle.theory_numbers.specs.Rationals.{IsZeroForm}
use Rattle.theory_plane.specs.Sides.{clearance, clearance_at}
use Rattle.theory_plane.specs.Leads.{leads}
use Rattle.sb_fraction.specs.declared.point.Point.{Point}
use Rattle.sb_fraction.specs.Edges.{Edge}
use Rattle.sb_fraction.specs.Crossings.{abscissa_at}
use Rattle.sb_fraction.specs.Lines.{flat, line_over}
use Rattle.sb_model.specs.Building.{Building}
use Rattle.sb_model.specs.PlanEdges.{PlanEdge, is_abscissa}
use Rattle.theory_parity.specs.Below.{is_lower_at, is_up_to_at}

-- ---- slabs

-- a slab of the direction d of a model, from low to high: no abscissa of d lies strictly between
pub record IsSlab (m : Building) (d low high : Arrow) : Type 0 where
  pub low_in : IsRational low
  pub high_in : IsRational high
  pub wide : IsBelow low high
  pub none : (u : Arrow) → IsRational u → IsBelow low u → IsBelow u high
      → is_abscissa m (flat d) u ≡ false

-- low and high are neighbouring abscissae of d: both are abscissae, and none lies between
pub record AreNeighbours (m : Building) (d low high : Arrow) : Type 0 where
  pub slab : IsSlab m d low high
  pub first : is_abscissa m (flat d) low ≡ true
  pub last : is_abscissa m (flat d) high ≡ true

-- the list has the abscissae of d, rising, so each once: each item is an abscissa, and each abscissa is
-- the number of an item
pub record AreAbscissae (m : Building) (d : Arrow) (list : List Arrow) : Type 0 where
  pub rational : AllByRecursion IsRational list
  pub rising : AllOfTwo IsBelow list
  pub each : AllByRecursion (λ a. is_abscissa m (flat d) a ≡ true) list
  pub all : (u : Arrow) → IsRational u → is_abscissa m (flat d) u ≡ true
      → (a : Arrow) × (Stands a list × IsSame u a)

-- ---- the edges of a slab

-- the abscissa of a plan point along d, as a number
abbrev pub abscissa_along : Arrow → Point → Arrow
abscissa_along d p = rational (abscissa_at p (flat d)) (pos 1)

-- from the first point, at low or before, to the second, at high or after
abbrev pub runs_over : Arrow → Arrow → Arrow → Point → Point → Bool
runs_over d low high a b =
    is_at_most (abscissa_along d a) low && is_at_most high (abscissa_along d b)

-- the edge spans the slab from low to high: one of its ends lies at low or before, the other at high
-- or after
abbrev pub is_spanning : Arrow → Arrow → Arrow → Edge → Bool
is_spanning d low high e = runs_over d low high e.a e.b || runs_over d low high e.b e.a

-- the places, counted from n, of the items that pass the test
abbrev pub places_from : {X : Type 0} → (X → Bool) → ℕ → List X → List ℕ
places_from test n [] = []
places_from test n (x ∷ xs) =
    if test x then n ∷ places_from test (suc n) xs else places_from test (suc n) xs

-- the places of the edges that span the slab, counted from 0
abbrev pub spanning_places : List PlanEdge → Arrow → Arrow → Arrow → List ℕ
spanning_places edges d low high = places_from (λ e. is_spanning d low high e.edge) 0 edges

-- ---- their order

-- e lies below f at every u strictly between low and high
abbrev pub IsUnder : Arrow → Arrow → Arrow → Edge → Edge → Type 0
IsUnder d low high e f =
    (u : Arrow) → IsRational u → IsBelow low u → IsBelow u high
    → pos 0 <ℤ clearance_at (line_over d e) (line_over d f) u

-- the two lie on one line
abbrev pub AreOnOneLine : Arrow → Edge → Edge → Type 0
AreOnOneLine d e f = IsZeroForm (clearance (line_over d e) (line_over d f))

-- the edge at place i comes before that at place j: it lies below it strictly inside the slab, or
-- both lie on one line and i is the lesser place
abbrev pub IsUnderOver : List PlanEdge → Arrow → Arrow → Arrow → ℕ → ℕ → Type 0
IsUnderOver edges d low high i j =
    (e f : PlanEdge) → slice_get edges i ≡ Some e → slice_get edges j ≡ Some f
    → IsUnder d low high e.edge f.edge ⊎ (AreOnOneLine d e.edge f.edge × (i < j))

-- the order of a slab from below: the places of exactly the edges that span it, each once, and of
-- each two the earlier comes before the later
pub record IsSlabOrder (edges : List PlanEdge) (d low high : Arrow) (order : List ℕ) : Type 0 where
  pub spanning : IsPermutation order (spanning_places edges d low high)
  pub ordered : AllOfTwo (IsUnderOver edges d low high) order

-- just after u the line of the edge at place i is the lower one, or neither is and i is the lesser
-- place
abbrev pub LeadsAt : List PlanEdge → Arrow → Arrow → ℕ → ℕ → Type 0
LeadsAt edges d u i j =
    (e f : PlanEdge) → slice_get edges i ≡ Some e → slice_get edges j ≡ Some f
    → (leads u (line_over d e.edge) (line_over d f.edge) ≡ true)
    ⊎ ((leads u (line_over d f.edge) (line_over d e.edge) ≡ false) × (i < j))

-- at u the edge at place i does not lie above that at place j
abbrev pub IsNotAbove : List PlanEdge → Arrow → Arrow → ℕ → ℕ → Type 0
IsNotAbove edges d u i j =
    (e f : PlanEdge) → slice_get edges i ≡ Some e → slice_get edges j ≡ Some f
    → pos 0 ≤ℤ clearance_at (line_over d e.edge) (line_over d f.edge) u

-- ---- places by the values of their edges

-- there is an item and it passes the test
abbrev pub has_passing : {X : Type 0} → (X → Bool) → Option X → Bool
has_passing test (Some x) = test x
has_passing test None = false

-- the edge at the place reaches past u and has a lesser value than v there
abbrev pub is_lower_place : List PlanEdge → Arrow → Arrow → Arrow → ℕ → Bool
is_lower_place edges d u v k = has_passing (λ e. is_lower_at d u v e.edge) (slice_get edges k)

-- the edge at the place reaches past u and has at most the value v there
abbrev pub is_up_to_place : List PlanEdge → Arrow → Arrow → Arrow → ℕ → Bool
is_up_to_place edges d u v k = has_passing (λ e. is_up_to_at d u v e.edge) (slice_get edges k)
