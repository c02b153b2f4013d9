-- Layers one after another: the sum of their thicknesses, and the band in which a reading lies.

use Rattle.std.proofs.Common.{ℕ, ℤ, suc, pos, ◌+◌, ◌*◌, ◌<◌, ◌≤◌, ◌≡◌, ◌<ℤ◌, ◌+ℤ◌, ◌-ℤ◌, ◌*ℤ◌, Bool, true, false, ◌&&◌, ◌||◌, List, [], ◌∷◌, drop, length, get_or, if◌then◌else◌, refl, ap, ap₂, sym, ◌∙◌, arith, nat_lt, nat_le, nat_eq, int_lt, int_le, unsigned_abs, ◌⊎◌, ⊎_elim, inl, inr, ◌==◌, ◌≤ℤ◌, IsTrue}
use Rattle.std.proofs.lemmas.List.{drop_more, length-drop}
use Rattle.std.proofs.lemmas.Int.{ints}
use Rattle.std.specs.Ordering.{int_eq}
use Rattle.std.proofs.lemmas.Bool.{and_parts, leb-true, eqb-true, ne_eqb}
use Rattle.std.proofs.lemmas.Bool.Decides.{Decides-int_eq}
use Rattle.theory_numbers.specs.Divisors.{are_coprime}
use Rattle.sb_fraction.specs.Plane.{longest_step}
use Rattle.theory_numbers.specs.Fractions.{Ratio}
use Rattle.theory_numbers.proofs.Multiples.{order_of_multiples}
use Rattle.theory_numbers.proofs.Signs.{same_tests, test_at_most, at_most_from, less_from, less_or_not}
use Rattle.theory_numbers.proofs.Products.{scale_less, unscale_less}
use Rattle.theory_numbers.proofs.Ring.{mul_assoc, mul_comm, mul_left_comm}
use Rattle.sb_fraction.specs.declared.point.HPoint.{HPoint}
use Rattle.sb_fraction.specs.Spots.{Spot, Vector, times_w}
use Rattle.sb_points.specs.Places.{spot_over}
use Rattle.theory_numbers.proofs.Shapes.{var, num, plus, minus, times, equal}
use Rattle.sb_model.specs.declared.layers.Layer.{Layer}
use Rattle.sb_model.specs.declared.layers.Axis.{Axis}
use Rattle.sb_model.specs.Building.{is_level_axis, is_upright_axis, are_layers, greatest_thickness, most_layers}
use Rattle.sb_model.specs.Labels.{axis_vector, total_of, layer_from, IsShortAxis}
use Rattle.sb_model.specs.Bands.{greatest_total, is_in_band, HasReading}

-- the thicknesses are each at most 10,000,000 µm
total_at_most : (before : ℕ) (layers : List Layer) → are_layers before layers ≡ true
    → total_of layers ≤ length layers * greatest_thickness
total_at_most before [] are = omega arith
total_at_most before (l ∷ ls) are =
    let third = and_parts (nat_lt before l.index && nat_le 1 l.micro && nat_le l.micro greatest_thickness)
    (are_layers l.index ls) are in
    let second = and_parts (nat_lt before l.index && nat_le 1 l.micro) (nat_le l.micro greatest_thickness) third.0 in
    omega (arith, leb-true l.micro greatest_thickness second.1, total_at_most l.index ls third.1)

-- so 64 of them are at most 640,000,000 µm
pub total_is_small : (layers : List Layer) → IsTrue (are_layers 0 layers) → length layers ≤ most_layers
    → total_of layers ≤ greatest_total
total_is_small layers are few = omega (arith, few, total_at_most 0 layers are)

-- the sum of the layers from one on
pub total-at : (layers : List Layer) (i : ℕ) (d : Layer) → i < length layers
    → total_of (drop i layers) ≡ (get_or layers i d).micro + total_of (drop (i + 1) layers)
total-at layers i d within = ap total_of (drop_more layers i d within)

-- where a reading lies, by the first of some layers, of which so many are left
layer_by_first : (at scale : ℤ) (before left : ℕ) (l : Layer) (ls : List Layer) → left ≡ suc (length ls)
    → layer_from at scale before (l ∷ ls)
    ≡ (if is_in_band at scale before (before + l.micro) (left == 1) then l.index
    else layer_from at scale (before + l.micro) ls)
layer_by_first at scale before left l [] last = rw last refl
layer_by_first at scale before left l (m ∷ ls) more =
    rw (ne_eqb left 1 (λ e. absurd (omega (arith, more, e)))) refl

-- of layers from one on
pub layer_from-at : (at scale : ℤ) (before left : ℕ) (layers : List Layer) (i : ℕ) (d : Layer)
    → i < length layers → left + i ≡ length layers
    → layer_from at scale before (drop i layers)
    ≡ (if is_in_band at scale before (before + (get_or layers i d).micro) (left == 1)
    then (get_or layers i d).index
    else layer_from at scale (before + (get_or layers i d).micro) (drop (i + 1) layers))
layer_from-at at scale before left layers i d within count =
    ap (layer_from at scale before) (drop_more layers i d within)
    ∙ layer_by_first at scale before left (get_or layers i d) (drop (i + 1) layers)
    (omega (arith, within, count, length-drop (i + 1) layers))

-- the layer at hand is that of the band in which the reading lies
pub layer-here : (at scale : ℤ) (before left : ℕ) (layers items : List Layer) (i : ℕ) (l : Layer)
    → items ≡ layers → layer_from at scale 0 items ≡ layer_from at scale before (drop i items)
    → i < length items → left + i ≡ length items → l ≡ get_or items i l
    → is_in_band at scale before (before + l.micro) (left == 1) ≡ true
    → l.index ≡ layer_from at scale 0 layers
layer-here at scale before left layers items i l same so_far within count here holds =
    sym (sym (ap (layer_from at scale 0) same) ∙ so_far
    ∙ layer_from-at at scale before left items i l within count
    ∙ ap (λ (x : Layer). if is_in_band at scale before (before + x.micro) (left == 1) then x.index
    else layer_from at scale (before + x.micro) (drop (i + 1) items)) (sym here)
    ∙ ap (λ b. if b then l.index else layer_from at scale (before + l.micro) (drop (i + 1) items)) holds)

-- ---- a common factor

weak_order : (k a b : ℤ) → pos 0 <ℤ k → int_le (k *ℤ a) (k *ℤ b) ≡ int_le a b
weak_order k a b positive =
    same_tests (int_le (k *ℤ a) (k *ℤ b)) (int_le a b)
    (λ least. test_at_most a b (unscaled (at_most_from (k *ℤ a) (k *ℤ b) least)))
    (λ least. test_at_most (k *ℤ a) (k *ℤ b) (scaled (at_most_from a b least)))
  where
    unscaled : (k *ℤ a) ≤ℤ (k *ℤ b) → a ≤ℤ b
    unscaled least =
        ⊎_elim (λ above. absurd (omega (arith, ints, least, scale_less k b a positive above))) (λ at_most. at_most)
        (less_or_not b a)

    scaled : a ≤ℤ b → (k *ℤ a) ≤ℤ (k *ℤ b)
    scaled least =
        ⊎_elim
        (λ above. absurd (omega (arith, ints, least, unscale_less k b a (omega (arith, ints, positive)) above)))
        (λ at_most. at_most)
        (less_or_not (k *ℤ b) (k *ℤ a))

-- a positive factor of the reading and of the length does not matter
layer-scaled : (k at scale : ℤ) (before : ℕ) (layers : List Layer) → pos 0 <ℤ k
    → layer_from (k *ℤ at) (k *ℤ scale) before layers ≡ layer_from at scale before layers
layer-scaled k at scale before [] positive = refl
layer-scaled k at scale before (l ∷ []) positive =
    ap₂ (λ s t. if s && t then l.index else 0)
    (ap (λ n. int_le n (k *ℤ at)) (mul_assoc k scale (pos before)) ∙ weak_order k (scale *ℤ pos before) at positive)
    (ap (int_le (k *ℤ at)) (mul_assoc k scale (pos (before + l.micro)))
    ∙ weak_order k at (scale *ℤ pos (before + l.micro)) positive)
layer-scaled k at scale before (l ∷ m ∷ ls) positive =
    ap₂ (λ s t. if s && t then l.index else layer_from (k *ℤ at) (k *ℤ scale) (before + l.micro) (m ∷ ls))
    (ap (λ n. int_le n (k *ℤ at)) (mul_assoc k scale (pos before)) ∙ weak_order k (scale *ℤ pos before) at positive)
    (ap (int_lt (k *ℤ at)) (mul_assoc k scale (pos (before + l.micro)))
    ∙ order_of_multiples k at (scale *ℤ pos (before + l.micro)) positive)
    ∙ ap (λ r. if int_le (scale *ℤ pos before) at && int_lt at (scale *ℤ pos (before + l.micro)) then l.index else r)
    (layer-scaled k at scale (before + l.micro) (m ∷ ls) positive)

-- the layer by a reading without its factor
pub layer-by-reading : (n : Vector) (p : Spot) (num den low high : ℤ) (layers : List Layer)
    → HasReading n p num den
    → layer_from ((num -ℤ (low *ℤ den)) *ℤ pos (total_of layers)) ((high -ℤ low) *ℤ den) 0 layers
    ≡ layer_from ((times_w p n -ℤ (low *ℤ p.w)) *ℤ pos (total_of layers)) ((high -ℤ low) *ℤ p.w) 0 layers
layer-by-reading n p num den low high layers reading =
    let k = reading.factor in
    let total = pos (total_of layers) in
    sym (layer-scaled k ((num -ℤ (low *ℤ den)) *ℤ total) ((high -ℤ low) *ℤ den) 0 layers reading.positive)
    ∙ ap₂ (λ s t. layer_from s t 0 layers)
    (moved k num low den total ∙ ap₂ (λ s t. (s -ℤ (low *ℤ t)) *ℤ total) (sym reading.num_is) (sym reading.den_is))
    (mul_left_comm k (high -ℤ low) den ∙ ap (λ t. (high -ℤ low) *ℤ t) (sym reading.den_is))
  where
    moved : (k y low x total : ℤ)
        → k *ℤ ((y -ℤ (low *ℤ x)) *ℤ total) ≡ ((k *ℤ y) -ℤ (low *ℤ (k *ℤ x))) *ℤ total
    moved k y low x total =
        equal (times (var k) (times (minus (var y) (times (var low) (var x))) (var total)))
        (times (minus (times (var k) (var y)) (times (var low) (times (var k) (var x)))) (var total))
        (omega arith)

-- ---- readings along level and upright axes

-- an axis of layers is level or upright, and short
pub record IsLayerAxis (a : Axis) : Type 0 where
  pub short : IsShortAxis a
  pub level_or_upright : (a.z ≡ pos 0) ⊎ (((a.x ≡ pos 0) × (a.y ≡ pos 0)) × (unsigned_abs a.z ≤ 1))

either : (a b : Bool) → (a || b) ≡ true → (a ≡ true) ⊎ (b ≡ true)
either true b is = inl refl
either false b is = inr is

pub layer_axis : (a : Axis) → IsTrue (is_level_axis a || is_upright_axis a) → IsLayerAxis a
layer_axis a is =
    ⊎_elim (λ level. of_level level) (λ upright. of_upright upright)
    (either (is_level_axis a) (is_upright_axis a) is)
  where
    of_level : is_level_axis a ≡ true → IsLayerAxis a
    of_level level =
        let third = and_parts (int_eq a.z (pos 0) && are_coprime (unsigned_abs a.x) (unsigned_abs a.y)
        && nat_le (unsigned_abs a.x) longest_step) (nat_le (unsigned_abs a.y) longest_step) level in
        let second = and_parts (int_eq a.z (pos 0) && are_coprime (unsigned_abs a.x) (unsigned_abs a.y))
        (nat_le (unsigned_abs a.x) longest_step) third.0 in
        let first = and_parts (int_eq a.z (pos 0)) (are_coprime (unsigned_abs a.x) (unsigned_abs a.y)) second.0 in
        let flat = (Decides-int_eq a.z (pos 0)).0 first.0 in
        record {
          short = record {
            of_x = leb-true (unsigned_abs a.x) longest_step second.1;
            of_y = leb-true (unsigned_abs a.y) longest_step third.1;
            of_z = omega (arith, ints, flat);
          };
          level_or_upright = inl flat;
        }

    of_upright : is_upright_axis a ≡ true → IsLayerAxis a
    of_upright upright =
        let second = and_parts (int_eq a.x (pos 0) && int_eq a.y (pos 0)) (nat_eq (unsigned_abs a.z) 1) upright in
        let first = and_parts (int_eq a.x (pos 0)) (int_eq a.y (pos 0)) second.0 in
        let no_x = (Decides-int_eq a.x (pos 0)).0 first.0 in
        let no_y = (Decides-int_eq a.y (pos 0)).0 first.1 in
        let one = eqb-true (unsigned_abs a.z) 1 second.1 in
        record {
          short = record {
            of_x = omega (arith, ints, no_x);
            of_y = omega (arith, ints, no_y);
            of_z = omega (arith, one);
          };
          level_or_upright = inr ((no_x, no_y), omega (arith, one));
        }

-- an axis that is not level is upright
pub upright_where : (a : Axis) → (a.z ≡ pos 0) ⊎ (((a.x ≡ pos 0) × (a.y ≡ pos 0)) × (unsigned_abs a.z ≤ 1))
    → (a.z ≡ pos 0 → ⊥) → (a.x ≡ pos 0) × (a.y ≡ pos 0)
upright_where a (inl level) not_level = absurd (not_level level)
upright_where a (inr upright) not_level = upright.0

-- along a level axis only the plan counts
pub level-reading : (a : Axis) (p : HPoint) (z : Ratio) → a.z ≡ pos 0 → pos 0 <ℤ z.den
    → HasReading (axis_vector a) (spot_over p z) ((p.x *ℤ a.x) +ℤ (p.y *ℤ a.y)) p.w
level-reading a p z level positive =
    record {
      factor = z.den;
      positive = positive;
      num_is = moved z.den p.x p.y (p.w *ℤ z.num) a.x a.y a.z level;
      den_is = refl;
    }
  where
    moved : (d x y h ax ay az : ℤ) → az ≡ pos 0
        → (((d *ℤ x) *ℤ ax) +ℤ ((d *ℤ y) *ℤ ay)) +ℤ (h *ℤ az) ≡ d *ℤ ((x *ℤ ax) +ℤ (y *ℤ ay))
    moved d x y h ax ay az e =
        rw e
        (equal
        (plus (plus (times (times (var d) (var x)) (var ax)) (times (times (var d) (var y)) (var ay)))
        (times (var h) (num 0)))
        (times (var d) (plus (times (var x) (var ax)) (times (var y) (var ay))))
        (omega arith))

-- along an upright axis only the height
pub upright-reading : (a : Axis) (p : HPoint) (z : Ratio) → a.x ≡ pos 0 → a.y ≡ pos 0
    → HasReading (axis_vector a) (spot_over p z) (z.num *ℤ a.z) z.den
upright-reading a p z no_x no_y =
    record {
      factor = p.w;
      positive = less_from (pos 0) p.w p.positive;
      num_is = moved (z.den *ℤ p.x) (z.den *ℤ p.y) p.w z.num a.x a.y a.z no_x no_y;
      den_is = mul_comm z.den p.w;
    }
  where
    moved : (x y w h ax ay az : ℤ) → ax ≡ pos 0 → ay ≡ pos 0
        → ((x *ℤ ax) +ℤ (y *ℤ ay)) +ℤ ((w *ℤ h) *ℤ az) ≡ w *ℤ (h *ℤ az)
    moved x y w h ax ay az first second =
        rw (first, second)
        (equal
        (plus (plus (times (var x) (num 0)) (times (var y) (num 0))) (times (times (var w) (var h)) (var az)))
        (times (var w) (times (var h) (var az)))
        (omega arith))
