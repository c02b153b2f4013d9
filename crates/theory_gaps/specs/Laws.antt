-- The laws of plain points and their walks.
use Rattle.std.specs.Prelude.{◌≡◌, ◌↔◌, ◌⊎◌, ℕ, ℤ, true, IsTrue, List, Some}
use Rattle.std.specs.Prelude.{false}
use Rattle.std.specs.Prelude.{pos}
use Rattle.std.specs.Prelude.{◌<ℤ◌}
use Rattle.theory_lists.specs.Members.{Stands}
use Rattle.theory_numbers.specs.Arrows.{Arrow, arrow}
use Rattle.theory_numbers.specs.Rationals.{IsBelow}
use Rattle.theory_numbers.specs.Rationals.{IsRational}
use Rattle.theory_numbers.specs.Rationals.{IsAtMost}
use Rattle.theory_numbers.specs.Rationals.{rational}
use Rattle.theory_cuttings.specs.Cuttings.{Break}
use Rattle.sb_fraction.specs.Directions.{direction_of, normal_over}
use Rattle.sb_fraction.specs.Edges.{Edge}
use Rattle.sb_fraction.specs.Edges.{is_on}
use Rattle.sb_fraction.specs.Spots.{Spot, IsSpot, reading}
use Rattle.sb_fraction.specs.Spots.{Vector}
use Rattle.sb_fraction.specs.Spots.{inner}
use Rattle.sb_model.specs.declared.faces.face.FaceKind.{FaceKind}
use Rattle.sb_model.specs.declared.faces.face.FaceKind.TheVariants as kind
use Rattle.sb_model.specs.declared.labels.label.Label.{Label}
use Rattle.sb_model.specs.declared.products.Space.{Space}
use Rattle.sb_model.specs.declared.walk.Walk.{Walk}
use Rattle.sb_model.specs.Building.{Building, is_building}
use Rattle.sb_model.specs.Surfaces.Faces.{Surface, surface_of, side_over, edge_numbered}
use Rattle.sb_model.specs.Passages.{ray_from, ArePassages}
use Rattle.sb_model.specs.Surfaces.PlainPoints.{is_plain}
use Rattle.sb_model.specs.PlanEdges.{plan_edges}
use Rattle.sb_model.specs.PlanEdges.{Product}
use Rattle.sb_model.specs.PlanEdges.{products_of}
use Rattle.sb_model.specs.Walks.{course_of, IsWalk}
use Rattle.theory_parity.specs.Below.{IsWay}
use Rattle.theory_parity.specs.Below.{abscissa_in}
use Rattle.theory_lines.specs.Slabs.{IsSlab, IsSlabOrder}
use Rattle.theory_sight.specs.Reading.{read}
use Rattle.theory_gaps.specs.Gaps.{edges_before, IsGapOf}
use Rattle.theory_gaps.specs.Gaps.{edges_at}
use Rattle.theory_gaps.specs.Gaps.{edges_behind}
use Rattle.theory_gaps.specs.Gaps.{is_present}
use Rattle.theory_gaps.specs.Gaps.{IsRealGap}
use Rattle.theory_gaps.specs.Gaps.{IsStrictlyIn}
use Rattle.theory_gaps.specs.Gaps.{IsCommonOver}
use Rattle.theory_gaps.specs.Gaps.{OverlapInGap}
use Rattle.theory_gaps.specs.Borders.{stretches_outward, HaveHeights, stretches_through}
use Rattle.std.specs.List.{list_any}
use Rattle.theory_lists.specs.OneOf.{AtMostOne}
use Rattle.theory_plans.specs.Inside.{is_in_plan}
use Rattle.theory_plans.specs.LoopEdges.{edges_of}
use Rattle.sb_model.specs.Labels.{low_along}
use Rattle.sb_model.specs.Labels.{high_along}
use Rattle.sb_model.specs.Solids.{Upright}
use Rattle.sb_model.specs.Solids.{is_in_solid}

-- ---- the gap of a point

-- each point over a slab, its beginning taken in, lies in a gap of the slab's order
abbrev pub HasGap : Type 0
HasGap =
    (m : Building) (d low high : Arrow) → IsSlab m d low high
    → (order : List ℕ) → IsSlabOrder (plan_edges m) d low high order → (p : Spot) → IsSpot p
    → IsAtMost low (abscissa_in d p) → IsBelow (abscissa_in d p) high
    → (j : ℕ) × IsGapOf m d low high order p j

-- a product with no own edge through the point contains it exactly where it is present in this gap
abbrev pub HasPresence : Type 0
HasPresence =
    (m : Building) → IsTrue (is_building m) → (d low high : Arrow) → IsWay d → IsSlab m d low high
    → (order : List ℕ) → IsSlabOrder (plan_edges m) d low high order → (p : Spot) → IsSpot p
    → (j : ℕ) → IsGapOf m d low high order p j → (q : Product) → Stands q (products_of m)
    → list_any (is_on p) (edges_of q.prism.loops) ≡ false
    → is_in_plan q.prism.loops p ≡ is_present (edges_before (plan_edges m) order j) q.number

-- presence counted from behind is the same: an odd number of a product's edges stand before a gap
-- exactly where an odd number stand behind it
abbrev pub HasPresenceFromBehind : Type 0
HasPresenceFromBehind =
    (m : Building) → IsTrue (is_building m) → (d low high : Arrow) → IsSlab m d low high
    → (order : List ℕ) → IsSlabOrder (plan_edges m) d low high order → (q : Product)
    → Stands q (products_of m) → (j : ℕ)
    → is_present (edges_before (plan_edges m) order j) q.number
    ≡ is_present (edges_behind (plan_edges m) order j) q.number

-- through a point strictly inside a slab at most one edge of a product passes
abbrev pub HasOneOwnEdge : Type 0
HasOneOwnEdge =
    (m : Building) (d low high : Arrow) → IsWay d → IsSlab m d low high → (p : Spot) → IsSpot p
    → IsBelow low (abscissa_in d p) → IsBelow (abscissa_in d p) high
    → (q : Product) → Stands q (products_of m) → AtMostOne (is_on p) (edges_of q.prism.loops)

-- a gap between two lines has a point over each number strictly inside the slab; a gap between edges on
-- one line has none
abbrev pub HasRealGaps : Type 0
HasRealGaps =
    (m : Building) (d low high : Arrow) → IsWay d → IsSlab m d low high
    → (order : List ℕ) → IsSlabOrder (plan_edges m) d low high order → (u : Arrow) → IsRational u
    → IsBelow low u → IsBelow u high → (j : ℕ)
    → IsRealGap d (edges_at (plan_edges m) order) j
    ↔ ((v : Arrow)
    × (IsRational v × IsStrictlyIn d (edges_at (plan_edges m) order) j u v))

-- two products have a common inner point strictly inside a slab exactly where both are present in one of
-- its gaps that lie between two lines, and their heights overlap
abbrev pub HasOverlapInGaps : Type 0
HasOverlapInGaps =
    (m : Building) → IsTrue (is_building m) → (d low high : Arrow) → IsWay d → IsSlab m d low high
    → (order : List ℕ) → IsSlabOrder (plan_edges m) d low high order → (q r : Product)
    → Stands q (products_of m) → Stands r (products_of m)
    → ((p : Spot) × IsCommonOver d low high q.prism r.prism p)
    ↔ ((j : ℕ) × OverlapInGap m d order q r j)

-- a point inside a prism reads strictly between its extent's ends along any vector
abbrev pub HasPointsWithinExtents : Type 0
HasPointsWithinExtents =
    (s : Upright) (n : Vector) (p : Spot) → IsSpot p → is_in_solid s p ≡ true
    → pos 0 <ℤ inner n n
    → IsBelow (rational (low_along s n) (pos 1)) (reading p n)
    × IsBelow (reading p n) (rational (high_along s n) (pos 1))

-- ---- each plain point has one walk

-- the whole ray from a plain point of a face has passages, and there is one list of them. The space need
-- not be one of the model
abbrev pub HaveOnePassages : Type 0
HaveOnePassages =
    (m : Building) → IsTrue (is_building m) → (s : Space) (k : FaceKind) (f : Surface)
    → surface_of s.prism k ≡ Some f → (p : Spot) → IsSpot p → is_plain m s.prism k p ≡ true
    → (breaks : List (Break Label))
    × (ArePassages m (ray_from p f.normal) breaks
    × ((others : List (Break Label)) → ArePassages m (ray_from p f.normal) others
    → others ≡ breaks))

-- it has exactly one walk, however far that goes
abbrev pub HasOneWalk : Type 0
HasOneWalk =
    (m : Building) → IsTrue (is_building m) → (s : Space) (k : FaceKind) (f : Surface)
    → surface_of s.prism k ≡ Some f → (p : Spot) → IsSpot p → is_plain m s.prism k p ≡ true
    → (w : Walk) × (IsWalk m f p w × ((v : Walk) → IsWalk m f p v → v ≡ w))

-- ---- the walk along a normal, and the walk up and down

-- the way of an edge's direction
abbrev pub way_along : Edge → Arrow
way_along e = arrow (direction_of e).x (direction_of e).y

-- over a slab, the walk of a plain point of a side of the model is what is read outward from its line,
-- through the gaps of the slab's order
abbrev pub HasWalkAlongNormal : Type 0
HasWalkAlongNormal =
    (m : Building) → IsTrue (is_building m) → (s : Space) → Stands s m.spaces → (k : ℕ) (e : Edge)
    → edge_numbered s.prism k ≡ Some e → (low high : Arrow) → IsSlab m (way_along e) low high
    → (order : List ℕ) → IsSlabOrder (plan_edges m) (way_along e) low high order
    → (p : Spot) → IsSpot p → is_plain m s.prism (kind.Side k) p ≡ true
    → IsBelow low (reading p (direction_of e)) → IsBelow (reading p (direction_of e)) high
    → (w : Walk)
    → IsWalk m (side_over e) p w
    ↔ (course_of w
    ≡ read m (normal_over e) ((side_over e).position) ((side_over e).position)
    (stretches_outward m e p order))

-- over a slab of any direction, the walk of a plain point of Bottom or Top is what is read between the
-- heights of the products that are present in its gap
abbrev pub HasWalkUpAndDown : Type 0
HasWalkUpAndDown =
    (m : Building) → IsTrue (is_building m) → (s : Space) (k : FaceKind) (f : Surface)
    → (k ≡ kind.Bottom) ⊎ (k ≡ kind.Top) → surface_of s.prism k ≡ Some f
    → (d low high : Arrow) → IsWay d → IsSlab m d low high
    → (order : List ℕ) → IsSlabOrder (plan_edges m) d low high order
    → (p : Spot) → IsSpot p → is_plain m s.prism k p ≡ true → (j : ℕ)
    → IsGapOf m d low high order p j → (heights : List ℤ)
    → HaveHeights m f.normal (edges_before (plan_edges m) order j) f.position heights
    → (w : Walk)
    → IsWalk m f p w
    ↔ (course_of w
    ≡ read m f.normal f.position f.position
    (stretches_through m f.normal (edges_before (plan_edges m) order j) f.position heights))
