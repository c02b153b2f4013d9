-- The label of a point, whether it is plain, and what a ray meets at a depth do not depend on how the
-- numbers are written.

use Rattle.std.proofs.Common.{◌≡◌, refl, ap, ap₂, ◌∙◌, arith, ℕ, ℤ, pos, ◌*ℤ◌, ◌-ℤ◌}
use Rattle.std.proofs.Common.{◌<ℤ◌, ◌+◌, Bool, not, ◌&&◌, ◌||◌, int_lt, int_le, List}
use Rattle.std.proofs.Common.{[], ◌∷◌, Option, Some, None, if◌then◌else◌}
use Rattle.std.specs.List.{list_any}
use Rattle.std.specs.Ordering.{int_eq}
use Rattle.std.proofs.lemmas.Int.{ints}
use Rattle.std.proofs.Math.Path.{fun_ext}
use Rattle.theory_numbers.specs.Arrows.{Arrow, cross, scale}
use Rattle.theory_numbers.specs.Rationals.{rational}
use Rattle.theory_numbers.proofs.Vectors.Arrows.{scale-cross}
use Rattle.theory_numbers.proofs.Products.{scale_at_most, unscale_at_most}
use Rattle.theory_numbers.proofs.Shapes.{var, plus, minus, times, equal}
use Rattle.theory_numbers.proofs.Signs.{same_tests, test_at_most, at_most_from}
use Rattle.sb_fraction.specs.Spots.{Spot, IsSpot, Vector, times_w, reading}
use Rattle.sb_fraction.specs.Edges.{Edge}
use Rattle.sb_fraction.specs.Directions.{axis_x, direction_of}
use Rattle.sb_fraction.specs.Crossings.{ends_over, cross_over, cross_at, meeting_of, abscissa_at}
use Rattle.theory_plans.specs.Alike.{scaled, AreAlike, SeesNoFactor}
use Rattle.theory_numbers.proofs.Multiples.{order_of_multiples, zero_of_multiple}
use Rattle.theory_numbers.proofs.Multiples.{equality_of_multiples}
use Rattle.theory_plans.proofs.PointsAlike.{same_of_alike, on_sees_no_factor}
use Rattle.theory_plans.proofs.PointsAlike.{inside_sees_no_factor}
use Rattle.sb_model.specs.declared.faces.face.FaceKind.{FaceKind}
use Rattle.sb_model.specs.declared.faces.face.FaceKind.TheVariants as kind
use Rattle.sb_model.specs.declared.labels.label.Label.TheVariants as label
use Rattle.sb_model.specs.declared.layers.Layer.{Layer}
use Rattle.sb_model.specs.declared.layers.Layering.{Layering}
use Rattle.sb_model.specs.declared.layers.Layering.TheVariants.{Plain, Single, Layered}
use Rattle.sb_model.specs.declared.products.Space.{Space}
use Rattle.sb_model.specs.declared.products.Element.{Element}
use Rattle.sb_model.specs.Solids.{Upright, is_in_solid, is_between_heights}
use Rattle.sb_model.specs.Building.{Building}
use Rattle.sb_model.specs.Labels.{label_at, space_at, element_at, open_label, element_label}
use Rattle.sb_model.specs.Labels.{space_label, layer_at, layer_from, lowest, axis_vector, low_along}
use Rattle.sb_model.specs.Labels.{high_along, total_of}
use Rattle.sb_model.specs.PlanEdges.{PlanEdge, Product, plan_edges, products_of, is_abscissa}
use Rattle.sb_model.specs.Surfaces.Faces.{edge_numbered, is_of_face, is_of_side}
use Rattle.sb_model.specs.Surfaces.PlainPoints.{is_on_plan_edge, is_at_height, is_plain}
use Rattle.sb_model.specs.Surfaces.PlainPoints.{is_off_level_cuts, is_off_side_cuts, is_off_cuts}

-- ---- inside a prism

factor_out : (c k n : ℤ) → c *ℤ (k *ℤ n) ≡ k *ℤ (c *ℤ n)
factor_out c k n =
    equal (times (var c) (times (var k) (var n))) (times (var k) (times (var c) (var n)))
    (omega arith)

-- whether a point lies above a height
above_sees_no_factor : (h : ℤ) → SeesNoFactor (λ p. int_lt (h *ℤ p.w) p.z)
above_sees_no_factor h k p above =
    ap (λ n. int_lt n (k *ℤ p.z)) (factor_out h k p.w) ∙ order_of_multiples k (h *ℤ p.w) p.z above

-- whether it lies below one
below_sees_no_factor : (h : ℤ) → SeesNoFactor (λ p. int_lt p.z (h *ℤ p.w))
below_sees_no_factor h k p above =
    ap (int_lt (k *ℤ p.z)) (factor_out h k p.w) ∙ order_of_multiples k p.z (h *ℤ p.w) above

-- whether it lies at one
at_sees_no_factor : (h : ℤ) → SeesNoFactor (λ p. int_eq p.z (h *ℤ p.w))
at_sees_no_factor h k p above =
    ap (int_eq (k *ℤ p.z)) (factor_out h k p.w) ∙ equality_of_multiples k p.z (h *ℤ p.w) above

-- whether it lies between two
pub between_sees_no_factor : (z0 z1 : ℤ) → SeesNoFactor (is_between_heights z0 z1)
between_sees_no_factor z0 z1 k p above =
    ap₂ (λ s t. s && t) (above_sees_no_factor z0 k p above) (below_sees_no_factor z1 k p above)

-- whether it lies inside a prism
pub solid_sees_no_factor : (s : Upright) → SeesNoFactor (is_in_solid s)
solid_sees_no_factor s k p above =
    ap₂ (λ t u. t && u) (inside_sees_no_factor s.loops k p above)
    (between_sees_no_factor s.z0 s.z1 k p above)

-- ---- layers

at_most_of_multiples : (k a b : ℤ) → pos 0 <ℤ k → int_le (k *ℤ a) (k *ℤ b) ≡ int_le a b
at_most_of_multiples k a b above =
    same_tests (int_le (k *ℤ a) (k *ℤ b)) (int_le a b)
    (λ least. test_at_most a b (unscale_at_most k a b above (at_most_from _ _ least)))
    (λ least. test_at_most (k *ℤ a) (k *ℤ b)
    (scale_at_most k a b (omega (arith, ints)) (at_most_from _ _ least)))

-- p·n grows by the factor
pub times-scaled : (k : ℤ) (p : Spot) (n : Vector) → times_w (scaled k p) n ≡ k *ℤ times_w p n
times-scaled k p n =
    equal
    (plus (plus (times (times (var k) (var p.x)) (var n.x)) (times (times (var k) (var p.y)) (var n.y)))
    (times (times (var k) (var p.z)) (var n.z)))
    (times (var k) (plus (plus (times (var p.x) (var n.x)) (times (var p.y) (var n.y)))
    (times (var p.z) (var n.z))))
    (omega arith)

multiple_at : (k s n : ℤ) → (k *ℤ s) *ℤ n ≡ k *ℤ (s *ℤ n)
multiple_at k s n =
    equal (times (times (var k) (var s)) (var n)) (times (var k) (times (var s) (var n)))
    (omega arith)

low_end : (k at scale : ℤ) (n : ℕ) → pos 0 <ℤ k
    → int_le ((k *ℤ scale) *ℤ pos n) (k *ℤ at) ≡ int_le (scale *ℤ pos n) at
low_end k at scale n above =
    ap (λ z. int_le z (k *ℤ at)) (multiple_at k scale (pos n))
    ∙ at_most_of_multiples k (scale *ℤ pos n) at above

last_end : (k at scale : ℤ) (n : ℕ) → pos 0 <ℤ k
    → int_le (k *ℤ at) ((k *ℤ scale) *ℤ pos n) ≡ int_le at (scale *ℤ pos n)
last_end k at scale n above =
    ap (int_le (k *ℤ at)) (multiple_at k scale (pos n))
    ∙ at_most_of_multiples k at (scale *ℤ pos n) above

high_end : (k at scale : ℤ) (n : ℕ) → pos 0 <ℤ k
    → int_lt (k *ℤ at) ((k *ℤ scale) *ℤ pos n) ≡ int_lt at (scale *ℤ pos n)
high_end k at scale n above =
    ap (int_lt (k *ℤ at)) (multiple_at k scale (pos n))
    ∙ order_of_multiples k at (scale *ℤ pos n) above

-- the layer does not see a positive factor of the reading and of the extent
pub same_layer : (k at scale : ℤ) → pos 0 <ℤ k → (before : ℕ) (layers : List Layer)
    → layer_from (k *ℤ at) (k *ℤ scale) before layers ≡ layer_from at scale before layers
same_layer k at scale above before [] = refl
same_layer k at scale above before (l ∷ []) =
    ap₂ (λ s t. if s && t then l.index else 0) (low_end k at scale before above)
    (last_end k at scale (before + l.micro) above)
same_layer k at scale above before (l ∷ m ∷ ls) =
    ap₂ (λ s t. if s && t then l.index
    else layer_from (k *ℤ at) (k *ℤ scale) (before + l.micro) (m ∷ ls))
    (low_end k at scale before above) (high_end k at scale (before + l.micro) above)
    ∙ ap (λ rest. if int_le (scale *ℤ pos before) at
    && int_lt at (scale *ℤ pos (before + l.micro)) then l.index else rest)
    (same_layer k at scale above (before + l.micro) (m ∷ ls))

offset_scaled : (k t low w total : ℤ)
    → ((k *ℤ t) -ℤ (low *ℤ (k *ℤ w))) *ℤ total ≡ k *ℤ ((t -ℤ (low *ℤ w)) *ℤ total)
offset_scaled k t low w total =
    equal
    (times (minus (times (var k) (var t)) (times (var low) (times (var k) (var w)))) (var total))
    (times (var k) (times (minus (var t) (times (var low) (var w))) (var total)))
    (omega arith)

-- the layer at a point
pub layer_sees_no_factor : (s : Upright) (layering : Layering) → SeesNoFactor (layer_at s layering)
layer_sees_no_factor s Plain k p above = refl
layer_sees_no_factor s (Single material) k p above = refl
layer_sees_no_factor s (Layered layers axis) k p above =
    let n = axis_vector axis in
    let low = low_along s n in
    let high = high_along s n in
    let total = pos (total_of layers) in
    ap₂ (λ at scale. layer_from at scale 0 layers)
    (ap (λ t. (t -ℤ (low *ℤ (k *ℤ p.w))) *ℤ total) (times-scaled k p n)
    ∙ offset_scaled k (times_w p n) low p.w total)
    (factor_out (high -ℤ low) k p.w)
    ∙ same_layer k ((times_w p n -ℤ (low *ℤ p.w)) *ℤ total) ((high -ℤ low) *ℤ p.w) above 0 layers

-- ---- labels

open_sees_no_factor : (g : ℤ) → SeesNoFactor (open_label g)
open_sees_no_factor g k p above =
    ap (λ b. if b then label.Earth else label.Void) (below_sees_no_factor g k p above)

element_sees_no_factor : (g : ℤ) (o : Option Element) → SeesNoFactor (λ p. element_label g p o)
element_sees_no_factor g None k p above = open_sees_no_factor g k p above
element_sees_no_factor g (Some e) k p above =
    ap (label.Element e.number) (layer_sees_no_factor e.prism e.layering k p above)

same_element : (m : Building) → SeesNoFactor (element_at m)
same_element m k p above =
    ap (λ (f : Element → Bool). lowest (λ e. e.number) f m.elements)
    (fun_ext (λ e. solid_sees_no_factor e.prism k p above))

same_room : (m : Building) → SeesNoFactor (space_at m)
same_room m k p above =
    ap (λ (f : Space → Bool). lowest (λ s. s.number) f m.spaces)
    (fun_ext (λ s. solid_sees_no_factor s.prism k p above))

space_sees_no_factor : (m : Building) (o : Option Space) → SeesNoFactor (λ p. space_label m p o)
space_sees_no_factor m None k p above =
    ap (element_label m.ground_height (scaled k p)) (same_element m k p above)
    ∙ element_sees_no_factor m.ground_height (element_at m p) k p above
space_sees_no_factor m (Some s) k p above = refl

-- the label of a point
pub label_sees_no_factor : (m : Building) → SeesNoFactor (label_at m)
label_sees_no_factor m k p above =
    ap (space_label m (scaled k p)) (same_room m k p above)
    ∙ space_sees_no_factor m (space_at m p) k p above

-- ---- plain points

-- whether a number is an abscissa
pub abscissa_sees_no_factor : (m : Building) (d : Vector) (k : ℤ) (u : Arrow) → pos 0 <ℤ k
    → is_abscissa m d (scale k u) ≡ is_abscissa m d u
abscissa_sees_no_factor m d k u above =
    ap₂ (λ (f : PlanEdge → Bool) (g : PlanEdge → Bool).
    list_any f (plan_edges m) || list_any g (plan_edges m))
    (fun_ext (λ e. same_ends e.edge))
    (fun_ext (λ e. ap (λ (f : PlanEdge → Bool). list_any f (plan_edges m))
    (fun_ext (λ f. same_crossing e.edge f.edge))))
  where
    same_zero : (a : Arrow) → int_eq (cross (scale k u) a) (pos 0) ≡ int_eq (cross u a) (pos 0)
    same_zero a =
        ap (λ n. int_eq n (pos 0)) (scale-cross k u a) ∙ zero_of_multiple k (cross u a) above

    same_ends : (e : Edge) → ends_over d (scale k u) e ≡ ends_over d u e
    same_ends e =
        ap₂ (λ s t. s || t) (same_zero (rational (abscissa_at e.a d) (pos 1)))
        (same_zero (rational (abscissa_at e.b d) (pos 1)))

    same_crossing : (e f : Edge) → cross_over d (scale k u) e f ≡ cross_over d u e f
    same_crossing e f =
        ap (λ b. cross_at (meeting_of e f) e f && b) (same_zero (reading (meeting_of e f) d))

-- whether the abscissa of a point is one
pub reading_sees_no_factor : (m : Building) (d : Vector)
    → SeesNoFactor (λ p. is_abscissa m d (reading p d))
reading_sees_no_factor m d k p above =
    ap (λ t. is_abscissa m d (rational t (k *ℤ p.w))) (times-scaled k p d)
    ∙ abscissa_sees_no_factor m d k (reading p d) above

-- whether the point lies on a plan edge
pub on_plan_edge_sees_no_factor : (m : Building) → SeesNoFactor (is_on_plan_edge m)
on_plan_edge_sees_no_factor m k p above =
    ap (λ (f : PlanEdge → Bool). list_any f (plan_edges m))
    (fun_ext (λ e. on_sees_no_factor e.edge k p above))

at_height_sees_no_factor : (m : Building) → SeesNoFactor (is_at_height m)
at_height_sees_no_factor m k p above =
    ap (λ (f : Product → Bool). list_any f (products_of m))
    (fun_ext (λ q. ap₂ (λ s t. s || t) (at_sees_no_factor q.prism.z0 k p above)
    (at_sees_no_factor q.prism.z1 k p above)))

level_cuts_see_no_factor : (m : Building) → SeesNoFactor (is_off_level_cuts m)
level_cuts_see_no_factor m k p above =
    ap₂ (λ s t. not s && not t) (on_plan_edge_sees_no_factor m k p above)
    (reading_sees_no_factor m axis_x k p above)

side_cuts_see_no_factor : (m : Building) (o : Option Edge) → SeesNoFactor (is_off_side_cuts m o)
side_cuts_see_no_factor m None k p above = refl
side_cuts_see_no_factor m (Some e) k p above =
    ap₂ (λ s t. not s && t) (reading_sees_no_factor m (direction_of e) k p above)
    (ap₂ (λ s t. not s && not t) (at_height_sees_no_factor m k p above)
    (at_sees_no_factor m.ground_height k p above))

side_sees_no_factor : (s : Upright) (o : Option Edge) → SeesNoFactor (is_of_side s o)
side_sees_no_factor s None k p above = refl
side_sees_no_factor s (Some e) k p above =
    ap₂ (λ t u. t && u) (on_sees_no_factor e k p above) (between_sees_no_factor s.z0 s.z1 k p above)

-- whether a point is one of a face
pub face_sees_no_factor : (s : Upright) (f : FaceKind) → SeesNoFactor (is_of_face s f)
face_sees_no_factor s kind.Bottom k p above =
    ap₂ (λ t u. t && u) (inside_sees_no_factor s.loops k p above) (at_sees_no_factor s.z0 k p above)
face_sees_no_factor s kind.Top k p above =
    ap₂ (λ t u. t && u) (inside_sees_no_factor s.loops k p above) (at_sees_no_factor s.z1 k p above)
face_sees_no_factor s (kind.Side j) k p above = side_sees_no_factor s (edge_numbered s j) k p above

off_cuts_sees_no_factor : (m : Building) (s : Upright) (f : FaceKind)
    → SeesNoFactor (is_off_cuts m s f)
off_cuts_sees_no_factor m s kind.Bottom = level_cuts_see_no_factor m
off_cuts_sees_no_factor m s kind.Top = level_cuts_see_no_factor m
off_cuts_sees_no_factor m s (kind.Side j) = side_cuts_see_no_factor m (edge_numbered s j)

-- whether it is a plain point of it
pub plain_sees_no_factor : (m : Building) (s : Upright) (f : FaceKind)
    → SeesNoFactor (is_plain m s f)
plain_sees_no_factor m s f k p above =
    ap₂ (λ t u. t && u) (face_sees_no_factor s f k p above) (off_cuts_sees_no_factor m s f k p above)

-- ---- one point, written in two ways

-- it has one label
pub alike_labels : (m : Building) (p q : Spot) → IsSpot p → IsSpot q → AreAlike p q
    → label_at m p ≡ label_at m q
alike_labels m = same_of_alike (label_at m) (label_sees_no_factor m)

-- and is plain or not
pub alike_plain : (m : Building) (s : Upright) (f : FaceKind) (p q : Spot) → IsSpot p → IsSpot q
    → AreAlike p q → is_plain m s f p ≡ is_plain m s f q
alike_plain m s f = same_of_alike (is_plain m s f) (plain_sees_no_factor m s f)
