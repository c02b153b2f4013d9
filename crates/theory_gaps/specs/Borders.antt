-- Borders: the places where what a ray runs through may change, and the stretches between them.
use Rattle.std.specs.Prelude.{◌≡◌, ℕ, ℤ, pos, neg_ℤ, ◌<ℤ◌, Bool, true, false, ◌&&◌, int_lt, int_le, List, []}
use Rattle.std.specs.Prelude.{◌∷◌, map, reverse, if◌then◌else◌}
use Rattle.std.specs.List.{AllByRecursion, list_any}
use Rattle.theory_lists.specs.Members.{Stands, AllOfTwo}
use Rattle.sb_fraction.specs.Spots.{Spot, Vector}
use Rattle.sb_fraction.specs.Edges.{Edge, are_collinear}
use Rattle.sb_fraction.specs.Crossings.{abscissa_at}
use Rattle.sb_model.specs.declared.labels.label.Label.{Label}
use Rattle.sb_model.specs.declared.labels.label.Label.TheVariants as label
use Rattle.sb_model.specs.declared.products.Space.{Space}
use Rattle.sb_model.specs.declared.products.Element.{Element}
use Rattle.sb_model.specs.Building.{Building}
use Rattle.sb_fraction.specs.Directions.{runs_along, normal_over}
use Rattle.sb_model.specs.PlanEdges.{PlanEdge, plan_edges}
use Rattle.sb_model.specs.Solids.{Upright}
use Rattle.sb_model.specs.Walks.{is_across}
use Rattle.theory_sight.specs.Coarse.{same_label, stacked}
use Rattle.theory_sight.specs.Reading.{FarEnd, square, slanted, never, Stretch, stretch}
use Rattle.theory_gaps.specs.Gaps.{edges_at, is_present, label_in_gap}

-- where one part of a ray may end and another begin: how the part before ends there, and the coarse
-- label behind
pub record Border : Type 0 where
  pub far : FarEnd
  pub label : Label

abbrev pub border : FarEnd → Label → Border
border far l = record { far = far; label = l }

-- the stretches of a ray that begins in this label and comes to these borders. A border with one label
-- on both its sides is none
abbrev pub stretches_of : Label → List Border → List Stretch
stretches_of l [] = stretch l never ∷ []
stretches_of l (b ∷ bs) =
    if same_label l b.label
    then stretches_of l bs
    else stretch l b.far ∷ stretches_of b.label bs

-- ---- along the normal of a side

-- how a part of the ray along n ends at an edge: square where the edge stands across n, at the position
-- of the edge
abbrev pub far_end_at : Vector → Edge → FarEnd
far_end_at n e = if is_across n e then square (abscissa_at e.a n) else slanted

-- the row goes on with an edge on the line of e
abbrev pub goes_on : PlanEdge → List PlanEdge → Bool
goes_on e [] = false
goes_on e (f ∷ row) = are_collinear e.edge f.edge

-- the borders along n at the height of p, over a row of edges in the order in which the ray comes to
-- them: one behind each line, since between two edges on one line there is no point
abbrev pub borders_over : Building → Vector → Spot → List PlanEdge → List PlanEdge → List Border
borders_over m n p passed [] = []
borders_over m n p passed (e ∷ row) =
    if goes_on e row
    then borders_over m n p (e ∷ passed) row
    else border (far_end_at n e.edge) (label_in_gap m p (e ∷ passed))
    ∷ borders_over m n p (e ∷ passed) row

-- the stretches over a row of edges behind those that are passed
abbrev pub stretches_over : Building → Vector → Spot → List PlanEdge → List PlanEdge → List Stretch
stretches_over m n p passed row =
    stretches_of (label_in_gap m p passed) (borders_over m n p passed row)

-- the stretches outward from the line of e: all edges up to the last on this line are passed
abbrev pub stretches_beyond : Building → Vector → Spot → Edge → List PlanEdge → List PlanEdge
    → List Stretch
stretches_beyond m n p e passed [] = stretches_over m n p passed []
stretches_beyond m n p e passed (f ∷ row) =
    if list_any (λ g. are_collinear e g.edge) (f ∷ row)
    then stretches_beyond m n p e (f ∷ passed) row
    else stretches_over m n p passed (f ∷ row)

-- the order of a slab as the ray from the side over e comes to it: against its direction where e runs
-- along this, for then the solid lies above e
abbrev pub outward_order : Edge → List ℕ → List ℕ
outward_order e order = if runs_along e then reverse order else order

-- the stretches outward from the side over e, at the height of p, by the order of a slab of its direction
abbrev pub stretches_outward : Building → Edge → Spot → List ℕ → List Stretch
stretches_outward m e p order =
    stretches_beyond m (normal_over e) p e [] (edges_at (plan_edges m) (outward_order e order))

-- ---- up and down

-- the ray runs up
abbrev pub is_up : Vector → Bool
is_up n = int_lt (pos 0) n.z

-- where a ray up or down comes into a prism, as a position along n
abbrev pub entry_along : Vector → Upright → ℤ
entry_along n s = if is_up n then s.z0 else neg_ℤ s.z1

-- and where it leaves it
abbrev pub exit_along : Vector → Upright → ℤ
exit_along n s = if is_up n then s.z1 else neg_ℤ s.z0

-- where it passes the ground
abbrev pub ground_along : Vector → ℤ → ℤ
ground_along n ground_height = if is_up n then ground_height else neg_ℤ ground_height

-- earth or air just behind a position
abbrev pub open_behind : Vector → ℤ → ℤ → Label
open_behind n ground_height z =
    if is_up n
    then (if int_lt z ground_height then label.Earth else label.Void)
    else (if int_lt z (neg_ℤ ground_height) then label.Void else label.Earth)

-- the prism reaches on behind a position
abbrev pub reaches_on : Vector → ℤ → Upright → Bool
reaches_on n z s = int_le (entry_along n s) z && int_lt z (exit_along n s)

-- the coarse label just behind a position of a ray up or down, in the gap behind these edges
abbrev pub label_behind : Building → Vector → List PlanEdge → ℤ → Label
label_behind m n passed z =
    stacked m
    (λ s. is_present passed s.number && reaches_on n z s.prism)
    (λ e. is_present passed e.number && reaches_on n z e.prism)
    (open_behind n m.ground_height z)

-- the stretches from position x0 on, with borders at these positions
abbrev pub stretches_through : Building → Vector → List PlanEdge → ℤ → List ℤ → List Stretch
stretches_through m n passed x0 heights =
    stretches_of (label_behind m n passed x0)
    (map (λ z. border (square z) (label_behind m n passed z)) heights)

-- a position above x0 is one of these
abbrev pub IsCounted : ℤ → List ℤ → ℤ → Type 0
IsCounted x0 heights z = x0 <ℤ z → Stands z heights

-- the positions rise from x0 on, and have all those at which a product of the gap is entered or left, and
-- that of the ground. There may be others
pub record HaveHeights (m : Building) (n : Vector) (passed : List PlanEdge) (x0 : ℤ) (heights : List ℤ)
    : Type 0 where
  pub rise : AllOfTwo (λ y z. y <ℤ z) heights
  pub above : AllByRecursion (λ z. x0 <ℤ z) heights
  pub spaces : (s : Space) → Stands s m.spaces → is_present passed s.number ≡ true
      → IsCounted x0 heights (entry_along n s.prism) × IsCounted x0 heights (exit_along n s.prism)
  pub elements : (e : Element) → Stands e m.elements → is_present passed e.number ≡ true
      → IsCounted x0 heights (entry_along n e.prism) × IsCounted x0 heights (exit_along n e.prism)
  pub earth : IsCounted x0 heights (ground_along n m.ground_height)
