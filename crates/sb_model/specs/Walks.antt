-- Walks: what the ray from a point of a face crosses, and what it meets.
-- Rose and Bazjanac 2015 in outline; the rules are this project's own.

use Rattle.std.specs.Prelude.{◌≡◌, ℕ, ℤ, zero, suc, pos, ◌+◌, ◌*◌, ◌==◌, ◌+ℤ◌, ◌-ℤ◌, ◌*ℤ◌, Bool}
use Rattle.std.specs.Prelude.{true, false, not, ◌&&◌, ◌||◌, int_le, List, [], ◌∷◌, ◌++◌, Option}
use Rattle.std.specs.Prelude.{Some, None, IsTrue, if◌then◌else◌}
use Rattle.std.specs.Ordering.{int_eq}
use Rattle.std.specs.List.{list_all, find}
use Rattle.theory_numbers.specs.Fractions.{Ratio, reduced, whole}
use Rattle.theory_numbers.specs.Arrows.{Arrow}
use Rattle.theory_numbers.specs.Rationals.{rational}
use Rattle.theory_cuttings.specs.Cuttings.{Break}
use Rattle.sb_model.specs.declared.labels.label.Label.{Label}
use Rattle.sb_model.specs.declared.labels.label.Label.TheVariants as label
use Rattle.sb_model.specs.declared.layers.Layer.{Layer}
use Rattle.sb_model.specs.declared.layers.Layering.{Layering}
use Rattle.sb_model.specs.declared.layers.Layering.TheVariants.{Plain, Single, Layered}
use Rattle.sb_model.specs.declared.products.Element.{Element}
use Rattle.sb_model.specs.declared.walk.End.{End}
use Rattle.sb_model.specs.declared.walk.End.TheVariants as end
use Rattle.sb_model.specs.declared.walk.Item.{Item}
use Rattle.sb_model.specs.declared.walk.Walk.{Walk}
use Rattle.sb_fraction.specs.Spots.{Spot, Vector, inner}
use Rattle.sb_fraction.specs.Edges.{Edge, is_on, span_of}
use Rattle.sb_model.specs.Building.{Building}
use Rattle.sb_model.specs.Labels.{axis_vector, low_along, high_along, total_of}
use Rattle.sb_model.specs.PlanEdges.{plan_edges}
use Rattle.sb_model.specs.Surfaces.Faces.{Surface}
use Rattle.sb_model.specs.Passages.{Ray, ray_from, at_depth, ArePassages, Passage, passages_of}
use Rattle.sb_model.specs.Passages.{Piece, pieces_of, start_of, end_of}

-- the edge stands at right angles to n, so a side with the normal n runs along it
abbrev pub is_across : Vector → Edge → Bool
is_across n e = int_eq (((span_of e).x *ℤ n.x) +ℤ ((span_of e).y *ℤ n.y)) (pos 0)

-- a crossing with this far end is square: along a vertical ray always; along a side's normal where
-- the plan edges through the far end run along the side's direction
abbrev pub is_square : Building → Ray → Spot → Bool
is_square m r p =
    not (int_eq r.normal.z (pos 0))
    || list_all (λ e. not (is_on p e.edge) || is_across r.normal e.edge) (plan_edges m)

-- the cross product of two vectors is 0
abbrev pub is_parallel : Vector → Vector → Bool
is_parallel a b =
    int_eq (a.y *ℤ b.z) (a.z *ℤ b.y) && (int_eq (a.z *ℤ b.x) (a.x *ℤ b.z)
    && int_eq (a.x *ℤ b.y) (a.y *ℤ b.x))

-- the element has no axis, or its axis is parallel to n
abbrev pub lies_along : Layering → Vector → Bool
lies_along Plain n = true
lies_along (Single material) n = true
lies_along (Layered layers axis) n = is_parallel (axis_vector axis) n

-- the length of a passage or crossing, as a rational number
abbrev pub length_between : Arrow → Arrow → Arrow
length_between from to = rational ((to.y *ℤ from.x) -ℤ (from.y *ℤ to.x)) (from.x *ℤ to.x)

-- a crossing of length k is within reach: k² <= reach²·N
abbrev pub is_in_reach : ℕ → ℤ → Arrow → Bool
is_in_reach reach unit k = int_le (k.y *ℤ k.y) (((pos reach *ℤ pos reach) *ℤ unit) *ℤ (k.x *ℤ k.x))

abbrev pub unit_along : Ray → ℤ
unit_along r = inner r.normal r.normal

-- a crossing of an element is passed: it is square, the element has no axis that is not parallel to
-- the ray, and the crossing is within reach. One without an end is not passed
abbrev pub is_passed : Building → Ray → Element → Arrow → Option Arrow → Bool
is_passed m r e from None = false
is_passed m r e from (Some to) =
    is_square m r (at_depth r to)
    && (lies_along e.layering r.normal && is_in_reach m.reach (unit_along r)
    (length_between from to))

abbrev pub element_numbered : Building → ℕ → Option Element
element_numbered m n = find (λ e. e.number == n) m.elements

abbrev pub stop_in : Building → Ray → Piece → Option Element → Option End
stop_in m r c None = None
stop_in m r c (Some e) =
    if is_passed m r e (start_of c) (end_of c) then None else Some (end.Solid e.number)

abbrev pub stop_by : Building → Ray → Piece → Label → Option End
stop_by m r c (label.Space n) = Some (end.Space n)
stop_by m r c label.Void = Some end.Outside
stop_by m r c label.Earth = Some end.Earth
stop_by m r c (label.Element e layer) = stop_in m r c (element_numbered m e)

-- the end of a walk at this piece; none where the piece is a crossing that is passed
abbrev pub stop_at : Building → Ray → Piece → Option End
stop_at m r c = stop_by m r c c.first.label

-- m is the greatest whole number that is 0 or has (2m - 1)²·N <= 4·10^6·k²: 1000·k/√N rounded, half
-- away from zero, in micrometres
abbrev pub is_reached_by : ℕ → ℤ → Arrow → Bool
is_reached_by zero unit k = true
is_reached_by (suc m) unit k =
    int_le ((pos ((2 * m + 1) * (2 * m + 1)) *ℤ unit) *ℤ (k.x *ℤ k.x)) (pos 4000000 *ℤ (k.y *ℤ k.y))

abbrev pub is_rounded : ℕ → ℤ → Arrow → Bool
is_rounded m unit k = is_reached_by m unit k && not (is_reached_by (suc m) unit k)

abbrev pub item : ℕ → ℕ → Ratio → Item
item element layer thickness = record { element = element; layer = layer; thickness = thickness }

-- the item of a passage of length k through layer l: its nominal thickness times k over the length
-- of its band, which is the layer's share of the element's extent along n
abbrev pub layer_item : Element → List Layer → Vector → Layer → Arrow → Item
layer_item e layers n l k =
    let extent = high_along e.prism n -ℤ low_along e.prism n in
    item e.number l.index
    (reduced (pos l.micro *ℤ (k.y *ℤ pos (total_of layers))) (k.x *ℤ (extent *ℤ pos l.micro)))

abbrev pub layer_of : Label → ℕ
layer_of (label.Element e layer) = layer
layer_of _ = 0

-- the item is that of a passage of a layered element
abbrev pub IsLayerItem : Element → List Layer → Vector → Passage → Option Layer → Option Arrow
    → Item → Type 0
IsLayerItem e layers n q (Some l) (Some to) i = i
    ≡ layer_item e layers n l (length_between q.from to)
IsLayerItem e layers n q _ _ i = ⊥

-- one item for each passage, in the ray's order
abbrev pub AreLayerItems : Element → List Layer → Vector → List Passage → List Item → Type 0
AreLayerItems e layers n [] [] = Unit {0}
AreLayerItems e layers n [] (i ∷ is) = ⊥
AreLayerItems e layers n (q ∷ qs) [] = ⊥
AreLayerItems e layers n (q ∷ qs) (i ∷ is) =
    IsLayerItem e layers n q (find (λ l. l.index == layer_of q.label) layers) q.to i
    × AreLayerItems e layers n qs is

-- one item of layer 0 with the rounded thickness
abbrev pub IsPlainItem : Element → ℤ → Arrow → List Item → Type 0
IsPlainItem e unit k (i ∷ []) =
    (thickness : ℕ) × IsTrue (is_rounded thickness unit k)
    × (i ≡ item e.number 0 (whole (pos thickness)))
IsPlainItem e unit k _ = ⊥

abbrev pub AreItemsBy : Layering → Element → Ray → Piece → Arrow → List Item → Type 0
AreItemsBy Plain e r c to items = IsPlainItem e (unit_along r)
    (length_between (start_of c) to) items
AreItemsBy (Single material) e r c to items =
    IsPlainItem e (unit_along r) (length_between (start_of c) to) items
AreItemsBy (Layered layers axis) e r c to items =
    AreLayerItems e layers r.normal (c.first ∷ c.more) items

abbrev pub AreItemsTo : Element → Ray → Piece → Option Arrow → List Item → Type 0
AreItemsTo e r c None items = ⊥
AreItemsTo e r c (Some to) items = AreItemsBy e.layering e r c to items

abbrev pub AreItemsIn : Option Element → Ray → Piece → List Item → Type 0
AreItemsIn None r c items = ⊥
AreItemsIn (Some e) r c items = AreItemsTo e r c (end_of c) items

abbrev pub AreItemsOf : Building → Ray → Piece → Label → List Item → Type 0
AreItemsOf m r c (label.Element e layer) items = AreItemsIn (element_numbered m e) r c items
AreItemsOf m r c _ items = ⊥

-- the items of a crossing: of an element with layers one for each passage, of any other one alone
abbrev pub AreItems : Building → Ray → Piece → List Item → Type 0
AreItems m r c items = AreItemsOf m r c c.first.label items

-- what a walk records
pub record Course : Type 0 where
  pub items : List Item
  pub depth : Arrow
  pub end : End

abbrev pub course : List Item → Arrow → End → Course
course items depth found = record { items = items; depth = depth; end = found }

-- one piece of a walk: it ends here without an item of this piece, or its items come before those
-- of the rest
abbrev pub GoesBy : Option End → Building → Ray → Piece → (Course → Type 0) → Course → Type 0
GoesBy (Some found) m r c goes_on w = w ≡ course [] (start_of c) found
GoesBy None m r c goes_on w =
    (items : List Item) × ((rest : Course) × (AreItems m r c items × (goes_on rest
    × (w ≡ course (items ++ rest.items) rest.depth rest.end))))

-- a walk through these pieces, up to the first end
abbrev pub Goes : Building → Ray → List Piece → Course → Type 0
Goes m r [] w = ⊥
Goes m r (c ∷ cs) w = GoesBy (stop_at m r c) m r c (Goes m r cs) w

-- a walk as a course: its depth is a whole number
abbrev pub course_of : Walk → Course
course_of w = course w.items (rational w.depth (pos 1)) w.end

-- the walk of a ray
abbrev pub IsWalkOf : Building → Ray → Walk → Type 0
IsWalkOf m r w =
    (breaks : List (Break Label)) × (ArePassages m r breaks
    × Goes m r (pieces_of (passages_of breaks)) (course_of w))

-- the walk of a point of a face: that of the ray along the face's outward normal
abbrev pub IsWalk : Building → Surface → Spot → Walk → Type 0
IsWalk m f p w = IsWalkOf m (ray_from p f.normal) w
