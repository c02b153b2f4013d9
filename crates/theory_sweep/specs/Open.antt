-- The edges over which the line stands, from below, as it passes over loops.

use Rattle.std.specs.Prelude.{◌≡◌, ◌⊎◌, ℤ, pos, ◌<ℤ◌, ◌≤ℤ◌, Bool, true, false, not, ◌||◌, List, []}
use Rattle.std.specs.Prelude.{◌∷◌}
use Rattle.std.specs.Prelude.{int_lt, ◌++◌}
use Rattle.std.specs.List.{AllByRecursion}
use Rattle.theory_lists.specs.Members.{Stands, AllOfTwo}
use Rattle.theory_numbers.specs.Arrows.{Arrow, cross}
use Rattle.theory_numbers.specs.Rationals.{IsAtMost}
use Rattle.theory_plane.specs.Leads.{leads}
use Rattle.sb_fraction.specs.declared.point.Point.{Point}
use Rattle.sb_fraction.specs.Spots.{Spot, IsSpot, spot_at}
use Rattle.sb_fraction.specs.Edges.{Edge, span_of, seen_from, turn_at, is_on}
use Rattle.sb_fraction.specs.Lines.{line_over}
use Rattle.theory_plans.specs.LoopEdges.{edges_of}
use Rattle.theory_plans.specs.Plans.{is_same_point, do_touch}
use Rattle.theory_parity.specs.Below.{abscissa_in}
use Rattle.theory_parity.specs.Sides.{turned_edge}
use Rattle.theory_sweep.specs.Passing.{pass_of, at_pass, IsRising}
use Rattle.theory_sweep.specs.Corners.{Corner, corners_of}

-- an edge of the loops, run from the end that is passed first
pub record IsEdgeOf (d : Arrow) (loops : List (List Point)) (e : Edge) : Type 0 where
  pub rising : IsRising d e
  pub stands : Stands e (edges_of loops) ⊎ Stands (turned_edge e) (edges_of loops)

-- the line stands over it just after k: it begins up to k, and ends later
pub record IsOpenAt (d : Arrow) (loops : List (List Point)) (k : ℤ) (e : Edge) : Type 0 where
  pub edge : IsEdgeOf d loops e
  pub begun : pass_of d e.a ≤ℤ k
  pub goes_on : k <ℤ pass_of d e.b

-- the test of two neighbours: both begin at one point, or both end there, or they do not touch
abbrev pub may_be_neighbours : Edge → Edge → Bool
may_be_neighbours e f =
    is_same_point e.a f.a || (is_same_point e.b f.b || not (do_touch e f))

-- two edges pass it
abbrev pub MayBeNeighbours : Edge → Edge → Type 0
MayBeNeighbours e f = may_be_neighbours e f ≡ true

-- two edges have no point in common but one where both begin or both end
abbrev pub MeetAtOneEnd : Edge → Edge → Type 0
MeetAtOneEnd e f =
    (p : Spot) → IsSpot p → is_on p e ≡ true → is_on p f ≡ true
    → ((e.a ≡ f.a) × (((seen_from p e.a).x ≡ pos 0) × ((seen_from p e.a).y ≡ pos 0)))
    ⊎ ((e.b ≡ f.b) × (((seen_from p e.b).x ≡ pos 0) × ((seen_from p e.b).y ≡ pos 0)))

-- the relation holds of each two neighbours of the list
abbrev pub AllNeighbours : {X : Type 0} → (X → X → Type 0) → List X → Type 0
AllNeighbours R [] = Unit {0}
AllNeighbours R (x ∷ []) = Unit {0}
AllNeighbours R (x ∷ y ∷ ys) = R x y × AllNeighbours R (y ∷ ys)

-- the last item of a list, alone
abbrev pub last_item : {X : Type 0} → List X → List X
last_item [] = []
last_item (x ∷ []) = x ∷ []
last_item (x ∷ y ∷ ys) = last_item (y ∷ ys)

-- the first item of a list, alone
abbrev pub first_item : {X : Type 0} → List X → List X
first_item [] = []
first_item (x ∷ xs) = x ∷ []

-- the point is an end of the edge
abbrev pub IsEnd : Point → Edge → Type 0
IsEnd c e = (e.a ≡ c) ⊎ (e.b ≡ c)

-- two edges with a point in common that is passed up to k have an end in common
abbrev pub ShareEndsUpTo : Arrow → List (List Point) → ℤ → Type 0
ShareEndsUpTo d loops k =
    (e f : Edge) → IsEdgeOf d loops e → IsEdgeOf d loops f → (e ≡ f → ⊥)
    → (p : Spot) → IsSpot p → is_on p e ≡ true → is_on p f ≡ true
    → IsAtMost (abscissa_in d p) (at_pass k)
    → (c : Point) × (IsEnd c e × IsEnd c f)

-- the list is that of the edges over which the line stands just after k, from below. Its neighbours
-- pass the test, and no two edges have met up to k but at their ends
pub record AreOpen (d : Arrow) (loops : List (List Point)) (k : ℤ) (es : List Edge) : Type 0 where
  pub there : (e : Edge) → Stands e es → IsOpenAt d loops k e
  pub each : (e : Edge) → IsOpenAt d loops k e → Stands e es
  pub sorted : AllOfTwo (λ e f. leads (at_pass k) (line_over d e) (line_over d f) ≡ true) es
  pub near : AllNeighbours MayBeNeighbours es
  pub met : ShareEndsUpTo d loops k

-- a corner is the next one that the line passes after k
pub record IsNext (d : Arrow) (loops : List (List Point)) (k : ℤ) (c : Corner) : Type 0 where
  pub stands : Stands c (corners_of loops)
  pub after : k <ℤ pass_of d c.at
  pub none : (other : Corner) → Stands other (corners_of loops)
      → (pass_of d other.at ≤ℤ k) ⊎ (pass_of d c.at ≤ℤ pass_of d other.at)

-- the edge lies below the plan point, for an edge that is rising
abbrev pub is_under : Point → Edge → Bool
is_under v e = int_lt (pos 0) (turn_at e (spot_at v))

-- the edges that begin at v, from below
pub record AreBegun (d : Arrow) (loops : List (List Point)) (v : Point) (es : List Edge) : Type 0
  where
    pub there : (e : Edge) → Stands e es → IsEdgeOf d loops e × (e.a ≡ v)
    pub each : (e : Edge) → IsEdgeOf d loops e → e.a ≡ v → Stands e es
    pub sorted : AllOfTwo (λ e f. pos 0 <ℤ cross (span_of e) (span_of f)) es

-- the first item, if there is one, does not end at v
abbrev pub FirstGoesOn : Point → List Edge → Type 0
FirstGoesOn v [] = Unit {0}
FirstGoesOn v (e ∷ es) = e.b ≡ v → ⊥

-- at v, the list in three parts: the edges that lie below v, some that end there, and the others
pub record IsSplitAt (v : Point) (es front ending back : List Edge) : Type 0 where
  pub split : es ≡ front ++ (ending ++ back)
  pub under : AllByRecursion (λ e. is_under v e ≡ true) front
  pub ends : AllByRecursion (λ e. e.b ≡ v) ending
  pub over : AllByRecursion (λ e. is_under v e ≡ false) back
  pub goes_on : FirstGoesOn v back
