-- The items of a crossing of a layered element, along a normal that is parallel to its axis: the passages
-- of the crossing are the bands between its two positions.
use Rattle.std.proofs.Common.{◌≡◌, sym, ap, ap₂, ◌∙◌, arith, subst, subst₂, ℕ}
use Rattle.std.proofs.Common.{ℤ, pos, neg_ℤ, ◌+ℤ◌, ◌-ℤ◌, ◌*ℤ◌, ◌<ℤ◌, ◌≤ℤ◌, Bool, true, false, cond, int_lt}
use Rattle.std.proofs.Common.{List, [], ◌∷◌, Some}
use Rattle.std.proofs.lemmas.Int.{ints}
use Rattle.std.proofs.Math.IntN.{neg_ℤ-neg_ℤ}
use Rattle.std.specs.List.{AllByRecursion}
use Rattle.theory_numbers.specs.Arrows.{Arrow, arrow, cross, scale, mirror}
use Rattle.theory_numbers.specs.Rationals.{IsBelow, IsAtMost, rational}
use Rattle.theory_numbers.proofs.Shapes.{var, num, plus, minus, times, negated, equal}
use Rattle.theory_cuttings.specs.Cuttings.{Break, IsReducedCutting, AreDifferent}
use Rattle.theory_cuttings.specs.Changes.{map_labels, moved_by, moved_breaks, Fine}
use Rattle.theory_cuttings.proofs.Parts.{cut_off_is_reduced}
use Rattle.theory_cuttings.proofs.Moved.{moved_cutting_is_reduced}
use Rattle.sb_fraction.specs.Spots.{Spot, Vector, inner, opposite, reading, times_w}
use Rattle.sb_model.specs.declared.labels.label.Label.{Label}
use Rattle.sb_model.specs.declared.labels.label.Label.TheVariants as label
use Rattle.sb_model.specs.declared.layers.Axis.{Axis}
use Rattle.sb_model.specs.declared.layers.Layer.{Layer}
use Rattle.sb_model.specs.Solids.{Upright}
use Rattle.sb_model.specs.Building.{are_layers}
use Rattle.sb_model.specs.Passages.{Ray, at_depth}
use Rattle.sb_model.specs.Labels.{axis_vector, low_along, high_along}
use Rattle.sb_model.specs.Walks.{layer_of}
use Rattle.theory_sight.specs.Bands.{bands_along, cut_between}
use Rattle.theory_sight.proofs.Crossings.BandsOfPrisms.{layer_on, layer_along, layer_along-scaled}
use Rattle.theory_sight.proofs.Crossings.BandsOfPrisms.{bands_along_are_cut, low_end_of, high_end_of}
use Rattle.theory_sight.specs.Crossings.{StartsAt}

-- ---- positions along a ray

times_along : (p : Spot) (n : Vector) (sc far : ℤ)
    → (((((p.x *ℤ sc) +ℤ (n.x *ℤ far)) *ℤ n.x) +ℤ (((p.y *ℤ sc) +ℤ (n.y *ℤ far)) *ℤ n.y))
    +ℤ (((p.z *ℤ sc) +ℤ (n.z *ℤ far)) *ℤ n.z))
    ≡ (times_w p n *ℤ sc) +ℤ (inner n n *ℤ far)
times_along p n sc far =
    equal
    (plus
    (plus (times (plus (times (var p.x) (var sc)) (times (var n.x) (var far))) (var n.x))
    (times (plus (times (var p.y) (var sc)) (times (var n.y) (var far))) (var n.y)))
    (times (plus (times (var p.z) (var sc)) (times (var n.z) (var far))) (var n.z)))
    (plus
    (times (plus (plus (times (var p.x) (var n.x)) (times (var p.y) (var n.y)))
    (times (var p.z) (var n.z))) (var sc))
    (times (plus (plus (times (var n.x) (var n.x)) (times (var n.y) (var n.y)))
    (times (var n.z) (var n.z))) (var far))) (omega arith)

-- the position of the point at a depth is the depth further on
pub reading_at_depth : (r : Ray) (x0 : ℤ) → StartsAt r x0 → (u : Arrow)
    → reading (at_depth r u) r.normal
    ≡ scale (r.start.w *ℤ inner r.normal r.normal) (moved_by x0 u)
reading_at_depth r x0 starts u = ap₂ arrow den num_is
  where
    den : r.start.w *ℤ (u.x *ℤ inner r.normal r.normal)
        ≡ (r.start.w *ℤ inner r.normal r.normal) *ℤ u.x
    den =
        equal (times (var r.start.w) (times (var u.x) (var (inner r.normal r.normal))))
        (times (times (var r.start.w) (var (inner r.normal r.normal))) (var u.x)) (omega arith)

    gather : (w unit ux uy : ℤ)
        → ((x0 *ℤ w) *ℤ (ux *ℤ unit)) +ℤ (unit *ℤ (uy *ℤ w))
        ≡ (w *ℤ unit) *ℤ (uy +ℤ (x0 *ℤ ux))
    gather w unit ux uy =
        equal
        (plus (times (times (var x0) (var w)) (times (var ux) (var unit)))
        (times (var unit) (times (var uy) (var w))))
        (times (times (var w) (var unit)) (plus (var uy) (times (var x0) (var ux)))) (omega arith)

    num_is : times_w (at_depth r u) r.normal
        ≡ (r.start.w *ℤ inner r.normal r.normal) *ℤ (u.y +ℤ (x0 *ℤ u.x))
    num_is =
        times_along r.start r.normal (u.x *ℤ inner r.normal r.normal) (u.y *ℤ r.start.w)
        ∙ ap
        (λ t.
        (t *ℤ (u.x *ℤ inner r.normal r.normal))
        +ℤ (inner r.normal r.normal *ℤ (u.y *ℤ r.start.w))) starts
        ∙ gather r.start.w (inner r.normal r.normal) u.x u.y

-- the layer at a position does not see how the position is written
pub layer_on-scaled : (s : Upright) (layers : List Layer) (axis : Axis) (n : Vector) (k : ℤ) (v : Arrow)
    → pos 0 <ℤ k → layer_on s layers axis n (scale k v) ≡ layer_on s layers axis n v
layer_on-scaled s layers axis n k v k_in = by (int_lt (pos 0) (inner (axis_vector axis) n))
  where
    turned : mirror (scale k v) ≡ scale k (mirror v)
    turned =
        ap (arrow (k *ℤ v.x))
        (equal (negated (times (var k) (var v.y))) (times (var k) (negated (var v.y))) (omega arith))

    by : (b : Bool)
        → cond b (layer_along s layers n (scale k v))
        (layer_along s layers (opposite n) (mirror (scale k v)))
        ≡ cond b (layer_along s layers n v) (layer_along s layers (opposite n) (mirror v))
    by true = layer_along-scaled s layers n k v k_in
    by false =
        ap (layer_along s layers (opposite n)) turned
        ∙ layer_along-scaled s layers (opposite n) k (mirror v) k_in

-- ---- the passages of a crossing are bands

-- labels of one element that differ have different layers
pub layers_differ : (k : ℕ) (first : Label) (bs : List (Break Label))
    → (i : ℕ) × (first ≡ label.Element k i)
    → AllByRecursion (λ b. (i : ℕ) × (b.label ≡ label.Element k i)) bs
    → AreDifferent first bs → AreDifferent (layer_of first) (map_labels layer_of bs)
layers_differ k first [] one rest differ = tt
layers_differ k first (b ∷ bs) (i, one) ((j, other), rest) differ = (
  λ same.
      let equal_layers : i ≡ j = ap layer_of (sym one) ∙ same ∙ ap layer_of other in
      differ.0 (one ∙ ap (label.Element k) equal_layers ∙ sym other),
  layers_differ k b.label bs (j, other) rest differ.1,
)

-- a depth and the position there
pub back_again : (x0 x : ℤ) → moved_by (neg_ℤ x0) (rational x (pos 1)) ≡ rational (x -ℤ x0) (pos 1)
back_again x0 x = ap (arrow (pos 1)) (sum x0 x)
  where
    sum : (x0 x : ℤ) → x +ℤ (neg_ℤ x0 *ℤ pos 1) ≡ x -ℤ x0
    sum x0 x =
        equal (plus (var x) (times (negated (var x0)) (num 1))) (minus (var x) (var x0)) (omega arith)

-- the order of whole positions
pub whole_at_most : (a b : ℤ) → a ≤ℤ b → IsAtMost (rational a (pos 1)) (rational b (pos 1))
unfolding cross
whole_at_most a b order = omega (arith, ints)

-- strictly
pub whole_below : (a b : ℤ) → a <ℤ b → IsBelow (rational a (pos 1)) (rational b (pos 1))
unfolding cross
whole_below a b order = omega (arith, ints)

-- the bands between two positions, by depth
pub bands_by_depth : (s : Upright) (l : Layer) (ls : List Layer) (axis : Axis) (n : Vector)
    → are_layers 0 (l ∷ ls) ≡ true → low_along s n <ℤ high_along s n → (x0 x y : ℤ) → x <ℤ y
    → low_along s n ≤ℤ x → y ≤ℤ high_along s n
    → IsReducedCutting (λ u. layer_on s (l ∷ ls) axis n (moved_by x0 u))
    (Some (rational (x -ℤ x0) (pos 1))) (Some (rational (y -ℤ x0) (pos 1)))
    ((cut_between (rational x (pos 1)) (rational y (pos 1)) (bands_along s (l ∷ ls) axis n)).first)
    (moved_breaks (neg_ℤ x0)
    ((cut_between (rational x (pos 1)) (rational y (pos 1)) (bands_along s (l ∷ ls) axis n)).rest))
bands_by_depth s l ls axis n right wide x0 x y less low_in high_in =
    subst
    (λ k.
    IsReducedCutting (λ u. layer_on s (l ∷ ls) axis n (moved_by k u))
    (Some (rational (x -ℤ x0) (pos 1))) (Some (rational (y -ℤ x0) (pos 1))) c.first
    (moved_breaks (neg_ℤ x0) c.rest)) (neg_ℤ-neg_ℤ x0)
    (subst₂
    (λ from to.
    IsReducedCutting (λ u. layer_on s (l ∷ ls) axis n (moved_by (neg_ℤ (neg_ℤ x0)) u))
    (Some from) (Some to) c.first (moved_breaks (neg_ℤ x0) c.rest)) (back_again x0 x)
    (back_again x0 y)
    (moved_cutting_is_reduced (layer_on s (l ∷ ls) axis n) (neg_ℤ x0) (Some (rational x (pos 1)))
    (Some (rational y (pos 1))) c.first c.rest part))
  where
    c : Fine ℕ
    c = cut_between (rational x (pos 1)) (rational y (pos 1)) (bands_along s (l ∷ ls) axis n)

    part : IsReducedCutting (layer_on s (l ∷ ls) axis n) (Some (rational x (pos 1)))
        (Some (rational y (pos 1))) c.first c.rest
    part =
        cut_off_is_reduced (layer_on s (l ∷ ls) axis n) (Some (low_end_of s n))
        (Some (high_end_of s n)) (rational x (pos 1)) (rational y (pos 1)) (omega (arith, ints))
        (omega (arith, ints)) (omega (arith, ints)) (omega (arith, ints))
        (whole_at_most (low_along s n) x low_in) (whole_below x y less) (whole_at_most y (high_along s n) high_in)
        ((bands_along s (l ∷ ls) axis n).first) ((bands_along s (l ∷ ls) axis n).rest)
        (bands_along_are_cut s l ls axis n right wide)
