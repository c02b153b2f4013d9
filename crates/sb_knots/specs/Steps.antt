-- A step of the line from corner to corner, over lists of the numbers of edges.

use Rattle.std.specs.Prelude.{ℕ, zero, suc, ◌+◌, ◌*◌, ◌/◌, ◌%◌, ◌<◌, ◌≤◌, Bool, true, false, ◌&&◌}
use Rattle.std.specs.Prelude.{not}
use Rattle.std.specs.Prelude.{pos, unsigned_abs, ◌+ℤ◌, nat_lt, ◌≡◌, if◌then◌else◌}
use Rattle.std.specs.Prelude.{List, [], ◌∷◌, ◌++◌, length, take, drop, slice_get, remove, Option}
use Rattle.std.specs.Prelude.{Some, None}
use Rattle.sb_fraction.specs.declared.point.Point.{Point}
use Rattle.sb_fraction.specs.Edges.{Edge, edge}
use Rattle.sb_fraction.specs.Plane.{is_plan_point}
use Rattle.theory_plans.specs.Loops.{comes_before}
use Rattle.theory_plans.specs.Plans.{is_same_point}
use Rattle.theory_lists.specs.Parted.{IsPartedAt}
use Rattle.sb_blocks.specs.Places.{item_before}
use Rattle.theory_sweep.specs.Corners.{Corner}
use Rattle.theory_sweep.specs.Open.{is_under, may_be_neighbours}
use Rattle.theory_sweep.specs.Passing.{pass_of, sweep_way}
use Rattle.sb_knots.specs.declared.begun.Begun.{Begun}
use Rattle.sb_knots.specs.declared.begun.Begun.TheVariants.{Neither, One, Two}

-- the corner and its neighbours are in range
abbrev pub is_corner_in_range : Corner → Bool
is_corner_in_range c = is_plan_point c.before && (is_plan_point c.at && is_plan_point c.after)

-- when the line passes a point, as a number that is not below 0
abbrev pub key_at : Point → ℕ
key_at p = unsigned_abs (pass_of sweep_way p +ℤ pos 2147487942967296)

-- and a corner
abbrev pub key_of : Corner → ℕ
key_of c = key_at c.at

-- ---- edges by number

-- of the corner's two edges, run from it, the one with this number: 0 goes to the point before
abbrev pub edge_from : Option Corner → ℕ → Edge
edge_from None way =
    edge (record { x = pos 0; y = pos 0 }) (record { x = pos 0; y = pos 0 })
edge_from (Some c) zero = edge c.at c.before
edge_from (Some c) (suc n) = edge c.at c.after

-- corner k has the edges 2k and 2k + 1
abbrev pub edge_at : List Corner → ℕ → Edge
edge_at corners id = edge_from (slice_get corners (id / 2)) (id % 2)

-- there is such an edge
abbrev pub is_edge : List Corner → ℕ → Bool
is_edge corners id = nat_lt (id / 2) (length corners)

-- it lies below v
abbrev pub lies_under : List Corner → Point → ℕ → Bool
lies_under corners v id = is_under v (edge_at corners id)

-- it ends at v
abbrev pub ends_at : List Corner → Point → ℕ → Bool
ends_at corners v id = is_same_point (edge_at corners id).b v

-- two of them may be neighbours
abbrev pub may_follow : List Corner → ℕ → ℕ → Bool
may_follow corners x y = may_be_neighbours (edge_at corners x) (edge_at corners y)

-- ---- lists of them

-- without the first ones that pass
abbrev pub drop_first : (ℕ → Bool) → List ℕ → List ℕ
drop_first test [] = []
drop_first test (x ∷ xs) = if test x then drop_first test xs else x ∷ xs

-- each two neighbours pass
abbrev pub are_linked : (ℕ → ℕ → Bool) → List ℕ → Bool
are_linked test [] = true
are_linked test (x ∷ []) = true
are_linked test (x ∷ y ∷ ys) = test x y && are_linked test (y ∷ ys)

-- what is there, as a list
abbrev pub listed : Option ℕ → List ℕ
listed None = []
listed (Some x) = x ∷ []

-- the numbers of edges that begin
abbrev pub ids_of : Begun → List ℕ
ids_of Neither = []
ids_of (One x) = x ∷ []
ids_of (Two x y) = x ∷ y ∷ []

-- which of the two edges of corner k begin there, from below: by whether that to the point before
-- does, whether that to the point after does, and whether the first one is the lower
abbrev pub begun_by : Bool → Bool → Bool → ℕ → Begun
begun_by true true true k = Two (2 * k) (2 * k + 1)
begun_by true true false k = Two (2 * k + 1) (2 * k)
begun_by true false lower k = One (2 * k)
begun_by false true lower k = One (2 * k + 1)
begun_by false false lower k = Neither

abbrev pub begun_at : Corner → ℕ → Begun
begun_at c k =
    begun_by (comes_before c.at c.before) (comes_before c.at c.after)
    (is_under c.after (edge c.at c.before)) k

-- an even number of edges lies below that to the point after, of two that begin behind so many
abbrev pub is_even_below : ℕ → Begun → Bool
is_even_below rank (Two x y) = if nat_lt x y then nat_lt 0 (rank % 2) else not (nat_lt 0 (rank % 2))
is_even_below rank (One x) = false
is_even_below rank Neither = false

-- ---- edges that end

-- item n, which ends at v, was taken out
pub record IsTaken (corners : List Corner) (v : Point) (n : ℕ)
    (before after : List ℕ) : Type 0 where
  pub within : n < length before
  pub ends : (id : ℕ) → slice_get before n ≡ Some id → ends_at corners v id ≡ true
  pub rest : after ≡ remove before n

-- nothing was, since there is no item n, or it does not end there
pub record IsLeft (corners : List Corner) (v : Point) (n : ℕ) (before after : List ℕ) : Type 0 where
  pub goes_on : (id : ℕ) → slice_get before n ≡ Some id → ends_at corners v id ≡ false
  pub same : after ≡ before

-- from item n on those that end at v were taken out, as long as they do
pub record IsClosed (corners : List Corner) (v : Point) (n : ℕ) (before after : List ℕ) : Type 0
  where
    pub list : after ≡ take n before ++ drop_first (ends_at corners v) (drop n before)
    pub within : n ≤ length after
    pub parted : IsPartedAt (lies_under corners v) n after

-- the same, as a function
abbrev pub closed_at : List Corner → Point → ℕ → List ℕ → List ℕ
closed_at corners v n ids = take n ids ++ drop_first (ends_at corners v) (drop n ids)

-- ---- edges that begin

-- those that begin, with the ones before and behind item n
abbrev pub joint_at : ℕ → Begun → List ℕ → List ℕ
joint_at n begun ids = listed (item_before ids n) ++ (ids_of begun ++ listed (slice_get ids n))

-- they may all be neighbours, and were put in there
pub record HaveBegun (corners : List Corner) (begun : Begun) (n : ℕ) (before after : List ℕ)
    (left : Bool) : Type 0 where
  pub linked : are_linked (may_follow corners) (joint_at n begun before) ≡ true
  pub list : after ≡ take n before ++ (ids_of begun ++ drop n before)
  pub even : left ≡ is_even_below n begun
