-- The bands of a layered prism along a normal that is parallel to its axis: they cut its extent, and the
-- layer of a point is that of its position.
use Rattle.std.proofs.Common.{◌≡◌, refl, sym, ap, ap₂, ◌∙◌, arith, ℕ, ◌<◌, ℤ, pos, neg_ℤ}
use Rattle.std.proofs.Common.{◌+ℤ◌, ◌-ℤ◌, ◌*ℤ◌, ◌<ℤ◌, ◌≤ℤ◌, Bool, true, false, cond, int_lt}
use Rattle.std.proofs.Common.{List, ◌∷◌, Some, zero-add, subst₂, if◌then◌else◌}
use Rattle.std.proofs.lemmas.Int.{ints, by_lt_z}
use Rattle.std.proofs.Math.IntN.{neg_ℤ-neg_ℤ}
use Rattle.theory_numbers.specs.Arrows.{Arrow, arrow, cross, mirror, scale}
use Rattle.theory_numbers.specs.Rationals.{IsBelow, IsSame, rational}
use Rattle.theory_numbers.proofs.Shapes.{var, num, plus, minus, times, negated, equal}
use Rattle.theory_numbers.proofs.Ring.{mul-zero}
use Rattle.theory_numbers.proofs.Signs.{less_from, not_less_from}
use Rattle.theory_numbers.proofs.Products.{weak_product}
use Rattle.theory_numbers.proofs.Vectors.Arrows.{cross-mirror}
use Rattle.theory_cuttings.specs.Cuttings.{IsReducedCutting}
use Rattle.theory_cuttings.proofs.Backwards.{flip_is_reduced}
use Rattle.sb_fraction.specs.Spots.{Spot, Vector, inner, opposite, reading, times_w}
use Rattle.sb_model.specs.declared.layers.Axis.{Axis}
use Rattle.sb_model.specs.declared.layers.Layer.{Layer}
use Rattle.sb_model.specs.declared.layers.Layering.TheVariants.{Layered}
use Rattle.sb_model.specs.Solids.{Upright}
use Rattle.sb_model.specs.Building.{are_layers}
use Rattle.sb_model.specs.Labels.{axis_vector, low_along, high_along, total_of, layer_from, layer_at}
use Rattle.sb_model.specs.Walks.{is_parallel}
use Rattle.theory_models.proofs.LabelsAlike.{same_layer}
use Rattle.theory_sight.specs.Bands.{bands_up, bands_along, flipped}
use Rattle.theory_sight.proofs.Crossings.Extents.{IsMultiple, times_scaled, low_scaled, high_scaled}
use Rattle.theory_sight.proofs.Crossings.Extents.{low-opposite, high-opposite, parallel_is_multiple}
use Rattle.theory_sight.proofs.Crossings.BandsCut.{bands_cut, bands_differ, layer_is, end_behind}
use Rattle.theory_sight.proofs.Crossings.BandsCut.{layer_is_found, IsFound}

-- the layer at a position along a normal that points as the axis does
abbrev pub layer_along : Upright → List Layer → Vector → Arrow → ℕ
layer_along s layers n v =
    layer_from ((v.y -ℤ (low_along s n *ℤ v.x)) *ℤ pos (total_of layers))
    ((high_along s n -ℤ low_along s n) *ℤ v.x) 0 layers

-- the ends of the extent
abbrev pub low_end_of : Upright → Vector → Arrow
low_end_of s n = rational (low_along s n) (pos 1)

-- the upper end
abbrev pub high_end_of : Upright → Vector → Arrow
high_end_of s n = rational (high_along s n) (pos 1)

-- ---- along a normal that points as the axis does

module _ (s : Upright) (l : Layer) (ls : List Layer) (n : Vector)
    (right : are_layers 0 (l ∷ ls) ≡ true) (wide : low_along s n <ℤ high_along s n) where
  some_total : 0 < total_of (l ∷ ls)
  some_total = omega (arith, (layer_is 0 l ls right).0)

  wide_extent : pos 0 <ℤ (high_along s n -ℤ low_along s n)
  wide_extent = omega (arith, ints)

  low_is : IsSame (low_end_of s n)
      (end_behind (low_along s n) (high_along s n -ℤ low_along s n) (total_of (l ∷ ls)) wide_extent
      some_total 0)
  unfolding cross
  low_is = same (low_along s n) (high_along s n) (pos (total_of (l ∷ ls)))
    where
      same : (low high total : ℤ)
          → (pos 1 *ℤ ((low *ℤ total) +ℤ ((high -ℤ low) *ℤ pos 0))) -ℤ (low *ℤ total) ≡ pos 0
      same low high total = omega (arith, ints)

  high_is : IsSame (high_end_of s n)
      (end_behind (low_along s n) (high_along s n -ℤ low_along s n) (total_of (l ∷ ls)) wide_extent
      some_total (total_of (l ∷ ls)))
  unfolding cross
  high_is = same (low_along s n) (high_along s n) (pos (total_of (l ∷ ls)))
    where
      same : (low high total : ℤ)
          → (pos 1 *ℤ ((low *ℤ total) +ℤ ((high -ℤ low) *ℤ total))) -ℤ (high *ℤ total) ≡ pos 0
      same low high total =
          equal
          (minus (times (num 1) (plus (times (var low) (var total))
          (times (minus (var high) (var low)) (var total)))) (times (var high) (var total)))
          (num 0) (omega arith)

  -- the bands are a reduced cutting of the extent
  pub bands_up_are_cut : IsReducedCutting (layer_along s (l ∷ ls) n)
      (Some (low_end_of s n)) (Some (high_end_of s n))
      ((bands_up s (l ∷ ls) n).first) ((bands_up s (l ∷ ls) n).rest)
  bands_up_are_cut = record {
    cutting =
        bands_cut (low_along s n) (high_along s n -ℤ low_along s n) (total_of (l ∷ ls)) wide_extent
        some_total l ls 0 0 (low_end_of s n) (high_end_of s n) right
        (zero-add (total_of (l ∷ ls))) (omega (arith, ints)) low_is (omega (arith, ints)) high_is
        (layer_along s (l ∷ ls) n) (λ v v_in after. refl);
    different =
        bands_differ (low_along s n) (high_along s n -ℤ low_along s n) (total_of (l ∷ ls))
        wide_extent some_total l ls 0 0 right;
  }

  low_reading : (low total : ℤ) (v : Arrow) → pos 0 <ℤ total → IsBelow (rational low (pos 1)) v
      → pos 0 ≤ℤ ((v.y -ℤ (low *ℤ v.x)) *ℤ total)
  unfolding cross
  low_reading low total v total_in after =
      weak_product (v.y -ℤ (low *ℤ v.x)) total (omega (arith, ints)) (omega (arith, ints))

  high_reading : (low high total : ℤ) (v : Arrow) → pos 0 <ℤ total
      → IsBelow v (rational high (pos 1))
      → ((v.y -ℤ (low *ℤ v.x)) *ℤ total) ≤ℤ (((high -ℤ low) *ℤ v.x) *ℤ total)
  unfolding cross
  high_reading low high total v total_in before =
      let gap =
      weak_product ((high *ℤ v.x) -ℤ v.y) total (omega (arith, ints)) (omega (arith, ints))
      in
      let parts =
      equal (times (minus (times (var high) (var v.x)) (var v.y)) (var total))
      (minus (times (times (minus (var high) (var low)) (var v.x)) (var total))
      (times (minus (var v.y) (times (var low) (var v.x))) (var total))) (omega arith)
      in
      omega (arith, ints)

  -- the layer at each position of the extent is one of the layers
  pub layer_along_is_found : (v : Arrow) → IsBelow (low_end_of s n) v
      → IsBelow v (high_end_of s n) → IsFound (layer_along s (l ∷ ls) n v) (l ∷ ls)
  layer_along_is_found v after before =
      layer_is_found (low_along s n) (high_along s n -ℤ low_along s n) (total_of (l ∷ ls))
      wide_extent some_total l ls 0 0 v right
      (rw (mul-zero ((high_along s n -ℤ low_along s n) *ℤ v.x))
      (low_reading (low_along s n) (pos (total_of (l ∷ ls))) v
      (omega (arith, ints, some_total)) after))
      (rw (zero-add (total_of (l ∷ ls)))
      (high_reading (low_along s n) (high_along s n) (pos (total_of (l ∷ ls))) v
      (omega (arith, ints, some_total)) before))

-- ---- a position, however it is written

-- a positive factor of both numbers of a position
offset-scaled : (k y x low total : ℤ)
    → ((k *ℤ y) -ℤ (low *ℤ (k *ℤ x))) *ℤ total ≡ k *ℤ ((y -ℤ (low *ℤ x)) *ℤ total)
offset-scaled k y x low total =
    equal
    (times (minus (times (var k) (var y)) (times (var low) (times (var k) (var x)))) (var total))
    (times (var k) (times (minus (var y) (times (var low) (var x))) (var total))) (omega arith)

size-scaled : (k extent x : ℤ) → extent *ℤ (k *ℤ x) ≡ k *ℤ (extent *ℤ x)
size-scaled k extent x =
    equal (times (var extent) (times (var k) (var x))) (times (var k) (times (var extent) (var x)))
    (omega arith)

-- the layer does not see it
pub layer_along-scaled : (s : Upright) (layers : List Layer) (n : Vector) (k : ℤ) (v : Arrow)
    → pos 0 <ℤ k → layer_along s layers n (scale k v) ≡ layer_along s layers n v
layer_along-scaled s layers n k v k_in =
    ap₂ (λ at size. layer_from at size 0 layers)
    (offset-scaled k v.y v.x (low_along s n) (pos (total_of layers)))
    (size-scaled k (high_along s n -ℤ low_along s n) v.x)
    ∙ same_layer k ((v.y -ℤ (low_along s n *ℤ v.x)) *ℤ pos (total_of layers))
    ((high_along s n -ℤ low_along s n) *ℤ v.x) k_in 0 layers

-- ---- the layer of a point

-- where the axis is a positive multiple of the normal
pub layer_of_point : (s : Upright) (layers : List Layer) (axis : Axis) (n : Vector) (k c : ℤ)
    → IsMultiple k c (axis_vector axis) n → pos 0 <ℤ k → pos 0 <ℤ c → (p : Spot)
    → layer_at s (Layered layers axis) p ≡ layer_along s layers n (reading p n)
layer_of_point s layers axis n k c is k_in c_in p =
    sym
    (same_layer k ((times_w p a -ℤ (low_along s a *ℤ p.w)) *ℤ pos (total_of layers))
    ((high_along s a -ℤ low_along s a) *ℤ p.w) k_in 0 layers)
    ∙ ap₂ (λ at size. layer_from at size 0 layers)
    (at_is (times_w p a) (times_w p n) (low_along s a) (low_along s n)
    (times_scaled k c a n is p) (low_scaled k c a n is k_in c_in s))
    (size_is (high_along s a) (high_along s n) (low_along s a) (low_along s n)
    (high_scaled k c a n is k_in c_in s) (low_scaled k c a n is k_in c_in s))
    ∙ same_layer c ((times_w p n -ℤ (low_along s n *ℤ p.w)) *ℤ pos (total_of layers))
    ((high_along s n -ℤ low_along s n) *ℤ p.w) c_in 0 layers
  where
    a : Vector
    a = axis_vector axis

    at_is : (t u low other : ℤ) → k *ℤ t ≡ c *ℤ u → k *ℤ low ≡ c *ℤ other
        → k *ℤ ((t -ℤ (low *ℤ p.w)) *ℤ pos (total_of layers))
        ≡ c *ℤ ((u -ℤ (other *ℤ p.w)) *ℤ pos (total_of layers))
    at_is t u low other t_is low_is =
        spread k t low ∙ ap₂ (λ x y. (x -ℤ (y *ℤ p.w)) *ℤ pos (total_of layers)) t_is low_is
        ∙ sym (spread c u other)
      where
        spread : (k t low : ℤ) → k *ℤ ((t -ℤ (low *ℤ p.w)) *ℤ pos (total_of layers))
            ≡ ((k *ℤ t) -ℤ ((k *ℤ low) *ℤ p.w)) *ℤ pos (total_of layers)
        spread k t low =
            equal
            (times (var k) (times (minus (var t) (times (var low) (var p.w)))
            (var (pos (total_of layers)))))
            (times (minus (times (var k) (var t)) (times (times (var k) (var low)) (var p.w)))
            (var (pos (total_of layers)))) (omega arith)

    size_is : (high top low other : ℤ) → k *ℤ high ≡ c *ℤ top → k *ℤ low ≡ c *ℤ other
        → k *ℤ ((high -ℤ low) *ℤ p.w) ≡ c *ℤ ((top -ℤ other) *ℤ p.w)
    size_is high top low other high_is low_is =
        spread k high low ∙ ap₂ (λ x y. (x -ℤ y) *ℤ p.w) high_is low_is ∙ sym (spread c top other)
      where
        spread : (k high low : ℤ) → k *ℤ ((high -ℤ low) *ℤ p.w)
            ≡ ((k *ℤ high) -ℤ (k *ℤ low)) *ℤ p.w
        spread k high low =
            equal (times (var k) (times (minus (var high) (var low)) (var p.w)))
            (times (minus (times (var k) (var high)) (times (var k) (var low))) (var p.w))
            (omega arith)

-- the same vector as a multiple of the opposite normal
multiple_turned : (k c : ℤ) (a n : Vector) → IsMultiple k c a n → IsMultiple k (neg_ℤ c) a (opposite n)
multiple_turned k c a n is = record {
  x = is.x ∙ both c n.x;
  y = is.y ∙ both c n.y;
  z = is.z ∙ both c n.z;
}
  where
    both : (c z : ℤ) → c *ℤ z ≡ neg_ℤ c *ℤ neg_ℤ z
    both c z =
        equal (times (var c) (var z)) (times (negated (var c)) (negated (var z))) (omega arith)

reading-opposite : (p : Spot) (n : Vector) → reading p (opposite n) ≡ mirror (reading p n)
reading-opposite p n = ap (arrow p.w) turned
  where
    turned : times_w p (opposite n) ≡ neg_ℤ (times_w p n)
    turned =
        equal
        (plus (plus (times (var p.x) (negated (var n.x))) (times (var p.y) (negated (var n.y))))
        (times (var p.z) (negated (var n.z))))
        (negated (plus (plus (times (var p.x) (var n.x)) (times (var p.y) (var n.y)))
        (times (var p.z) (var n.z)))) (omega arith)

-- ---- along any parallel normal

-- the layer at a position along any normal that is parallel to the axis
abbrev pub layer_on : Upright → List Layer → Axis → Vector → Arrow → ℕ
layer_on s layers axis n v =
    if int_lt (pos 0) (inner (axis_vector axis) n)
    then layer_along s layers n v
    else layer_along s layers (opposite n) (mirror v)

-- a point has the layer of its position
pub layer_is_by_position : (s : Upright) (layers : List Layer) (axis : Axis) (n : Vector)
    → pos 0 <ℤ inner n n → is_parallel (axis_vector axis) n ≡ true
    → (inner (axis_vector axis) n ≡ pos 0 → ⊥) → (p : Spot)
    → layer_at s (Layered layers axis) p ≡ layer_on s layers axis n (reading p n)
layer_is_by_position s layers axis n some parallel not_across p =
    by (int_lt (pos 0) (inner (axis_vector axis) n)) refl
  where
    is : IsMultiple (inner n n) (inner (axis_vector axis) n) (axis_vector axis) n
    is = parallel_is_multiple (axis_vector axis) n parallel

    by : (b : Bool) → int_lt (pos 0) (inner (axis_vector axis) n) ≡ b
        → layer_at s (Layered layers axis) p
        ≡ cond b (layer_along s layers n (reading p n))
        (layer_along s layers (opposite n) (mirror (reading p n)))
    by true same =
        layer_of_point s layers axis n (inner n n) (inner (axis_vector axis) n) is some
        (less_from (pos 0) (inner (axis_vector axis) n) same) p
    by false same =
        layer_of_point s layers axis (opposite n) (inner n n) (neg_ℤ (inner (axis_vector axis) n))
        (multiple_turned (inner n n) (inner (axis_vector axis) n) (axis_vector axis) n is) some
        (positive (inner (axis_vector axis) n)
        (not_less_from (pos 0) (inner (axis_vector axis) n) same) not_across) p
        ∙ ap (layer_along s layers (opposite n)) (reading-opposite p n)
      where
        positive : (c : ℤ) → c ≤ℤ pos 0 → (c ≡ pos 0 → ⊥) → pos 0 <ℤ neg_ℤ c
        positive c low not_zero =
            by_lt_z c (pos 0) (λ less. omega (arith, ints))
            (λ more. absurd (not_zero (omega (arith, ints))))

module _ (s : Upright) (l : Layer) (ls : List Layer) (axis : Axis) (n : Vector)
    (right : are_layers 0 (l ∷ ls) ≡ true) (wide : low_along s n <ℤ high_along s n) where
  -- the extent along the opposite normal is as wide
  wide_back : low_along s (opposite n) <ℤ high_along s (opposite n)
  wide_back = rw (low-opposite s n, high-opposite s n) (omega (arith, ints))

  -- the bands cut the extent along any such normal
  pub bands_along_are_cut : IsReducedCutting (layer_on s (l ∷ ls) axis n)
      (Some (low_end_of s n)) (Some (high_end_of s n))
      ((bands_along s (l ∷ ls) axis n).first) ((bands_along s (l ∷ ls) axis n).rest)
  bands_along_are_cut = by (int_lt (pos 0) (inner (axis_vector axis) n))
    where
      back : IsReducedCutting (λ v. layer_along s (l ∷ ls) (opposite n) (mirror v))
          (Some (mirror (high_end_of s (opposite n)))) (Some (mirror (low_end_of s (opposite n))))
          ((flipped (bands_up s (l ∷ ls) (opposite n))).first)
          ((flipped (bands_up s (l ∷ ls) (opposite n))).rest)
      back =
          flip_is_reduced (layer_along s (l ∷ ls) (opposite n)) (Some (low_end_of s (opposite n)))
          (Some (high_end_of s (opposite n))) ((bands_up s (l ∷ ls) (opposite n)).first)
          ((bands_up s (l ∷ ls) (opposite n)).rest) (bands_up_are_cut s l ls (opposite n) right wide_back)

      ends : mirror (high_end_of s (opposite n)) ≡ low_end_of s n
      ends = ap (arrow (pos 1)) (ap neg_ℤ (high-opposite s n) ∙ neg_ℤ-neg_ℤ (low_along s n))

      other_ends : mirror (low_end_of s (opposite n)) ≡ high_end_of s n
      other_ends = ap (arrow (pos 1)) (ap neg_ℤ (low-opposite s n) ∙ neg_ℤ-neg_ℤ (high_along s n))

      by : (b : Bool)
          → IsReducedCutting
          (λ v.
          cond b (layer_along s (l ∷ ls) n v) (layer_along s (l ∷ ls) (opposite n) (mirror v)))
          (Some (low_end_of s n)) (Some (high_end_of s n))
          ((cond b (bands_up s (l ∷ ls) n) (flipped (bands_up s (l ∷ ls) (opposite n)))).first)
          ((cond b (bands_up s (l ∷ ls) n) (flipped (bands_up s (l ∷ ls) (opposite n)))).rest)
      by true = bands_up_are_cut s l ls n right wide
      by false =
          subst₂
          (λ low high.
          IsReducedCutting (λ v. layer_along s (l ∷ ls) (opposite n) (mirror v)) (Some low)
          (Some high) ((flipped (bands_up s (l ∷ ls) (opposite n))).first)
          ((flipped (bands_up s (l ∷ ls) (opposite n))).rest))
          ends other_ends back

  -- the layer at each position of the extent is one of the layers
  pub layer_on_is_found : (v : Arrow) → IsBelow (low_end_of s n) v → IsBelow v (high_end_of s n)
      → IsFound (layer_on s (l ∷ ls) axis n v) (l ∷ ls)
  layer_on_is_found v after before = by (int_lt (pos 0) (inner (axis_vector axis) n))
    where
      by : (b : Bool)
          → IsFound
          (cond b (layer_along s (l ∷ ls) n v) (layer_along s (l ∷ ls) (opposite n) (mirror v)))
          (l ∷ ls)
      by true = layer_along_is_found s l ls n right wide v after before
      by false =
          layer_along_is_found s l ls (opposite n) right wide_back (mirror v)
          (rw (low-opposite s n) (turned_end (high_along s n) v before))
          (rw (high-opposite s n) (turned_other (low_along s n) v after))
        where
          turned_end : (high : ℤ) (v : Arrow) → IsBelow v (rational high (pos 1))
              → IsBelow (rational (neg_ℤ high) (pos 1)) (mirror v)
          turned_end high v before = rw (cross-mirror (rational high (pos 1)) v) before

          turned_other : (low : ℤ) (v : Arrow) → IsBelow (rational low (pos 1)) v
              → IsBelow (mirror v) (rational (neg_ℤ low) (pos 1))
          turned_other low v after = rw (cross-mirror v (rational low (pos 1))) after
