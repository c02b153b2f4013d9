-- Seen from the other end a crossing has the same items in reverse: the bands are mirrored, and lengths
-- are the same numbers.
use Rattle.std.proofs.Common.{◌≡◌, refl, sym, ap, ap₂, ◌∙◌, arith, subst, ℕ, ◌==◌}
use Rattle.std.proofs.Common.{ℤ, pos, neg_ℤ, ◌-ℤ◌, ◌*ℤ◌, ◌<ℤ◌, ◌≤ℤ◌, Bool, true, false, cond, int_lt}
use Rattle.std.proofs.Common.{List, [], ◌∷◌, ◌++◌, reverse, Option, Some, None, append_assoc, ◌||◌, not}
use Rattle.std.proofs.lemmas.Int.{ints, by_lt_z}
use Rattle.std.proofs.lemmas.List.{reverse-append}
use Rattle.std.proofs.lemmas.Bool.{false≢true, and_parts}
use Rattle.std.proofs.Math.IntN.{neg_ℤ-neg_ℤ}
use Rattle.std.specs.List.{find}
use Rattle.theory_numbers.specs.Arrows.{Arrow, arrow, mirror}
use Rattle.theory_numbers.specs.Rationals.{rational}
use Rattle.theory_numbers.specs.Fractions.{whole, reduced}
use Rattle.theory_numbers.proofs.Shapes.{var, plus, minus, times, negated, equal}
use Rattle.theory_numbers.proofs.Ring.{mul_comm}
use Rattle.theory_numbers.proofs.Signs.{less_from, not_less_from, test_less, test_not_less}
use Rattle.theory_numbers.proofs.Vectors.Arrows.{mirror-mirror}
use Rattle.theory_cuttings.specs.Cuttings.{Break, IsReducedCutting}
use Rattle.theory_cuttings.specs.Changes.{break_at, flip_onto, last_label, Fine}
use Rattle.theory_cuttings.proofs.OneCutting.{has_one_cutting}
use Rattle.theory_cuttings.proofs.Backwards.{flip_is_reduced}
use Rattle.theory_cuttings.proofs.Parts.{cut_off_is_reduced}
use Rattle.sb_fraction.specs.Spots.{Vector, vector, inner, opposite}
use Rattle.sb_model.specs.declared.layers.Axis.{Axis}
use Rattle.sb_model.specs.declared.layers.Layer.{Layer}
use Rattle.sb_model.specs.declared.layers.Layering.{Layering}
use Rattle.sb_model.specs.declared.layers.Layering.TheVariants.{Plain, Single, Layered}
use Rattle.sb_model.specs.declared.products.Element.{Element}
use Rattle.sb_model.specs.Solids.{Upright}
use Rattle.sb_model.specs.Building.{are_layers, is_layering, is_level_axis, is_upright_axis}
use Rattle.sb_model.specs.Labels.{axis_vector, low_along, high_along, total_of}
use Rattle.sb_model.specs.Walks.{length_between, layer_item, item, is_parallel, lies_along}
use Rattle.theory_sight.specs.Bands.{bands_along, cut_between, flipped, item_of_layer, item_at, layer_items}
use Rattle.theory_sight.specs.Bands.{items_by, items_between, rounded_thickness}
use Rattle.theory_sight.proofs.Crossings.Extents.{low-opposite, high-opposite}
use Rattle.theory_sight.proofs.Crossings.BandsOfPrisms.{layer_along, layer_on, bands_along_are_cut}
use Rattle.theory_sight.proofs.Crossings.BandsOfPrisms.{low_end_of, high_end_of}
use Rattle.theory_sight.proofs.Crossings.LayeredItems.{whole_below, whole_at_most}
use Rattle.theory_sight.proofs.Crossings.CrossingItems.{not_across}

-- ---- opposite normals

-- turned twice, a normal is itself
pub opposite-opposite : (n : Vector) → opposite (opposite n) ≡ n
opposite-opposite n =
    λ i. vector (neg_ℤ-neg_ℤ n.x i) (neg_ℤ-neg_ℤ n.y i) (neg_ℤ-neg_ℤ n.z i)

-- the product with an opposite is the opposite of the product
pub inner-opposite : (a n : Vector) → inner a (opposite n) ≡ neg_ℤ (inner a n)
inner-opposite a n =
    equal
    (plus (plus (times (var a.x) (negated (var n.x))) (times (var a.y) (negated (var n.y))))
    (times (var a.z) (negated (var n.z))))
    (negated (plus (plus (times (var a.x) (var n.x)) (times (var a.y) (var n.y)))
    (times (var a.z) (var n.z)))) (omega arith)

-- the inner product of a vector with itself does not see which way it points
pub unit-opposite : (n : Vector) → inner (opposite n) (opposite n) ≡ inner n n
unit-opposite n =
    equal
    (plus (plus (times (negated (var n.x)) (negated (var n.x)))
    (times (negated (var n.y)) (negated (var n.y))))
    (times (negated (var n.z)) (negated (var n.z))))
    (plus (plus (times (var n.x) (var n.x)) (times (var n.y) (var n.y)))
    (times (var n.z) (var n.z))) (omega arith)

-- ---- layers seen from the other side

layer_on-opposite : (s : Upright) (layers : List Layer) (axis : Axis) (n : Vector) (v : Arrow)
    → (inner (axis_vector axis) n ≡ pos 0 → ⊥)
    → layer_on s layers axis (opposite n) v ≡ layer_on s layers axis n (mirror v)
layer_on-opposite s layers axis n v not_across =
    ap
    (λ c.
    cond (int_lt (pos 0) c) (layer_along s layers (opposite n) v)
    (layer_along s layers (opposite (opposite n)) (mirror v)))
    (inner-opposite (axis_vector axis) n)
    ∙ by (int_lt (pos 0) (inner (axis_vector axis) n)) refl
  where
    other : (c : ℤ) (b : Bool) → (c ≡ pos 0 → ⊥) → int_lt (pos 0) c ≡ b
        → int_lt (pos 0) (neg_ℤ c) ≡ not b
    other c true some up =
        let above = less_from (pos 0) c up in
        test_not_less (pos 0) (neg_ℤ c) (omega (arith, ints))
    other c false some down =
        let low = not_less_from (pos 0) c down in
        test_less (pos 0) (neg_ℤ c)
        (by_lt_z c (pos 0) (λ less. omega (arith, ints))
        (λ more. absurd (some (omega (arith, ints)))))

    by : (b : Bool) → int_lt (pos 0) (inner (axis_vector axis) n) ≡ b
        → cond (int_lt (pos 0) (neg_ℤ (inner (axis_vector axis) n)))
        (layer_along s layers (opposite n) v)
        (layer_along s layers (opposite (opposite n)) (mirror v))
        ≡ cond (int_lt (pos 0) (inner (axis_vector axis) n)) (layer_along s layers n (mirror v))
        (layer_along s layers (opposite n) (mirror (mirror v)))
    by true up =
        rw (other (inner (axis_vector axis) n) true not_across up, up)
        (ap (λ k. layer_along s layers k (mirror v)) (opposite-opposite n))
    by false down =
        rw (other (inner (axis_vector axis) n) false not_across down, down)
        (ap (layer_along s layers (opposite n)) (sym (mirror-mirror v)))

-- ---- items of flipped pieces

length-mirrored : (a b : Arrow) → length_between (mirror b) (mirror a) ≡ length_between a b
length-mirrored a b = ap₂ arrow (mul_comm b.x a.x) same
  where
    same : (neg_ℤ a.y *ℤ b.x) -ℤ (neg_ℤ b.y *ℤ a.x) ≡ (b.y *ℤ a.x) -ℤ (a.y *ℤ b.x)
    same =
        equal
        (minus (times (negated (var a.y)) (var b.x)) (times (negated (var b.y)) (var a.x)))
        (minus (times (var b.y) (var a.x)) (times (var a.y) (var b.x))) (omega arith)

layer_item-opposite : (e : Element) (layers : List Layer) (n : Vector) (l : Layer) (k : Arrow)
    → layer_item e layers (opposite n) l k ≡ layer_item e layers n l k
layer_item-opposite e layers n l k =
    ap
    (λ extent.
    item e.number l.index
    (reduced (pos l.micro *ℤ (k.y *ℤ pos (total_of layers))) (k.x *ℤ (extent *ℤ pos l.micro))))
    (ap₂ (λ high low. high -ℤ low) (high-opposite e.prism n) (low-opposite e.prism n)
    ∙ turned (low_along e.prism n) (high_along e.prism n))
  where
    turned : (low high : ℤ) → neg_ℤ low -ℤ neg_ℤ high ≡ high -ℤ low
    turned low high = omega (arith, ints)

item-mirrored : (e : Element) (layers : List Layer) (n : Vector) (index : ℕ) (a b : Arrow)
    → item_at e layers (opposite n) index (mirror b) (mirror a) ≡ item_at e layers n index a b
item-mirrored e layers n index a b = by (find (λ l. l.index == index) layers)
  where
    by : (o : Option Layer)
        → item_of_layer e layers (opposite n) index o (mirror b) (mirror a)
        ≡ item_of_layer e layers n index o a b
    by None = refl
    by (Some l) =
        ap (layer_item e layers (opposite n) l) (length-mirrored a b)
        ∙ layer_item-opposite e layers n l (length_between a b)

module _ (e : Element) (layers : List Layer) (n : Vector) (to : Arrow) where
  -- flipped pieces, and then those behind them
  flipped_items : (first : ℕ) (b : Break ℕ) (bs : List (Break ℕ)) (further : List (Break ℕ))
      (stop : Arrow)
      → layer_items e layers (opposite n) (mirror to) (last_label b.label bs)
      (flip_onto b.label bs (break_at (mirror b.start) first ∷ further)) stop
      ≡ reverse (layer_items e layers n b.start b.label bs to)
      ++ layer_items e layers (opposite n) (mirror b.start) first further stop
  flipped_items first b [] further stop =
      ap
      (λ i. i ∷ layer_items e layers (opposite n) (mirror b.start) first further stop)
      (item-mirrored e layers n b.label b.start to)
  flipped_items first b (c ∷ bs) further stop =
      flipped_items b.label c bs (break_at (mirror b.start) first ∷ further) stop
      ∙ ap
      (λ i.
      reverse (layer_items e layers n c.start c.label bs to)
      ++ (i ∷ layer_items e layers (opposite n) (mirror b.start) first further stop))
      (item-mirrored e layers n b.label b.start c.start)
      ∙ sym
      (append_assoc (reverse (layer_items e layers n c.start c.label bs to))
      (item_at e layers n b.label b.start c.start ∷ [])
      (layer_items e layers (opposite n) (mirror b.start) first further stop))
      ∙ ap (λ is. is ++ layer_items e layers (opposite n) (mirror b.start) first further stop)
      (sym
      (reverse-append (item_at e layers n b.label b.start c.start ∷ [])
      (layer_items e layers n c.start c.label bs to)))

  -- the items of pieces read backwards
  items_flipped : (from : Arrow) (first : ℕ) (bs : List (Break ℕ))
      → layer_items e layers (opposite n) (mirror to) (last_label first bs) (flip_onto first bs [])
      (mirror from)
      ≡ reverse (layer_items e layers n from first bs to)
  items_flipped from first [] = ap (λ i. i ∷ []) (item-mirrored e layers n first from to)
  items_flipped from first (b ∷ bs) =
      flipped_items first b bs [] (mirror from)
      ∙ ap (λ i. reverse (layer_items e layers n b.start b.label bs to) ++ (i ∷ []))
      (item-mirrored e layers n first from b.start)
      ∙ sym
      (reverse-append (item_at e layers n first from b.start ∷ [])
      (layer_items e layers n b.start b.label bs to))

-- ---- the bands of a crossing from the other side

cut_along : (s : Upright) (l : Layer) (ls : List Layer) (axis : Axis) (n : Vector)
    → are_layers 0 (l ∷ ls) ≡ true → (x y : ℤ) → x <ℤ y
    → low_along s n ≤ℤ x → y ≤ℤ high_along s n
    → IsReducedCutting (layer_on s (l ∷ ls) axis n) (Some (rational x (pos 1)))
    (Some (rational y (pos 1)))
    ((cut_between (rational x (pos 1)) (rational y (pos 1)) (bands_along s (l ∷ ls) axis n)).first)
    ((cut_between (rational x (pos 1)) (rational y (pos 1)) (bands_along s (l ∷ ls) axis n)).rest)
cut_along s l ls axis n right x y less low_in high_in =
    cut_off_is_reduced (layer_on s (l ∷ ls) axis n) (Some (low_end_of s n))
    (Some (high_end_of s n)) (rational x (pos 1)) (rational y (pos 1)) (omega (arith, ints))
    (omega (arith, ints)) (omega (arith, ints)) (omega (arith, ints))
    (whole_at_most (low_along s n) x low_in) (whole_below x y less)
    (whole_at_most y (high_along s n) high_in) ((bands_along s (l ∷ ls) axis n).first)
    ((bands_along s (l ∷ ls) axis n).rest)
    (bands_along_are_cut s l ls axis n right (omega (arith, ints, low_in, less, high_in)))

module _ (e : Element) (l : Layer) (ls : List Layer) (axis : Axis) (n : Vector)
    (right : are_layers 0 (l ∷ ls) ≡ true) (not_across : inner (axis_vector axis) n ≡ pos 0 → ⊥)
    (x y : ℤ) (less : x <ℤ y) (low_in : low_along e.prism n ≤ℤ x)
    (high_in : y ≤ℤ high_along e.prism n) where
  abbrev out : Fine ℕ
  out = cut_between (rational x (pos 1)) (rational y (pos 1)) (bands_along e.prism (l ∷ ls) axis n)

  abbrev home : Fine ℕ
  home =
      cut_between (rational (neg_ℤ y) (pos 1)) (rational (neg_ℤ x) (pos 1))
      (bands_along e.prism (l ∷ ls) axis (opposite n))

  -- the bands from the other side are these, flipped
  bands_flipped : (home.first ≡ (flipped out).first) × (home.rest ≡ (flipped out).rest)
  bands_flipped =
      has_one_cutting ℕ (layer_on e.prism (l ∷ ls) axis (opposite n))
      (Some (rational (neg_ℤ y) (pos 1))) (Some (rational (neg_ℤ x) (pos 1))) (omega (arith, ints))
      (omega (arith, ints)) home.first ((flipped out).first) home.rest ((flipped out).rest)
      (cut_along e.prism l ls axis (opposite n) right (neg_ℤ y) (neg_ℤ x) (omega (arith, ints))
      (rw (low-opposite e.prism n) (omega (arith, ints)))
      (rw (high-opposite e.prism n) (omega (arith, ints))))
      (subst
      (λ f.
      IsReducedCutting f (Some (rational (neg_ℤ y) (pos 1))) (Some (rational (neg_ℤ x) (pos 1)))
      ((flipped out).first) ((flipped out).rest))
      (λ i v. sym (layer_on-opposite e.prism (l ∷ ls) axis n v not_across) i)
      (flip_is_reduced (layer_on e.prism (l ∷ ls) axis n) (Some (rational x (pos 1)))
      (Some (rational y (pos 1))) out.first out.rest
      (cut_along e.prism l ls axis n right x y less low_in high_in)))

  -- and so are the items
  layered_reversed : items_by (Layered (l ∷ ls) axis) e (opposite n) (neg_ℤ y) (neg_ℤ x)
      ≡ reverse (items_by (Layered (l ∷ ls) axis) e n x y)
  layered_reversed =
      ap₂
      (λ first rest.
      layer_items e (l ∷ ls) (opposite n) (rational (neg_ℤ y) (pos 1)) first rest
      (rational (neg_ℤ x) (pos 1))) bands_flipped.0 bands_flipped.1
      ∙ items_flipped e (l ∷ ls) n (rational y (pos 1)) (rational x (pos 1)) out.first out.rest

-- an element's layers stand right along a normal, and a crossing lies within its extent
pub record LiesWithin (e : Element) (n : Vector) (x y : ℤ) : Type 0 where
  pub rising : x <ℤ y
  pub low : low_along e.prism n ≤ℤ x
  pub high : y ≤ℤ high_along e.prism n
  pub right : is_layering e.layering ≡ true
  pub along : lies_along e.layering n ≡ true
  pub some : pos 0 <ℤ inner n n

one_thickness : (e : Element) (n : Vector) (x y : ℤ)
    → item e.number 0
    (whole (pos (rounded_thickness (inner (opposite n) (opposite n)) (neg_ℤ x -ℤ neg_ℤ y)))) ∷ []
    ≡ reverse (item e.number 0 (whole (pos (rounded_thickness (inner n n) (y -ℤ x)))) ∷ [])
one_thickness e n x y =
    ap₂ (λ unit k. item e.number 0 (whole (pos (rounded_thickness unit k))) ∷ [])
    (unit-opposite n) (turned x y)
  where
    turned : (x y : ℤ) → neg_ℤ x -ℤ neg_ℤ y ≡ y -ℤ x
    turned x y = omega (arith, ints)

-- the items of a crossing seen from its other end are the items reversed
pub items_reversed : (e : Element) (n : Vector) (x y : ℤ) → LiesWithin e n x y
    → items_between e (opposite n) (neg_ℤ y) (neg_ℤ x) ≡ reverse (items_between e n x y)
items_reversed e n x y is = by e.layering refl
  where
    by : (layering : Layering) → e.layering ≡ layering
        → items_by layering e (opposite n) (neg_ℤ y) (neg_ℤ x) ≡ reverse (items_by layering e n x y)
    by Plain same = one_thickness e n x y
    by (Single material) same = one_thickness e n x y
    by (Layered [] axis) same = absurd (false≢true (ap is_layering (sym same) ∙ is.right))
    by (Layered (l ∷ ls) axis) same =
        let right : is_layering (Layered (l ∷ ls) axis) ≡ true = ap is_layering (sym same) ∙ is.right in
        let outer = and_parts _ (is_level_axis axis || is_upright_axis axis) right in
        let layers_right = (and_parts _ (are_layers 0 (l ∷ ls)) outer.0).1 in
        let parallel : is_parallel (axis_vector axis) n ≡ true =
        ap (λ layering. lies_along layering n) (sym same) ∙ is.along in
        layered_reversed e l ls axis n layers_right
        (not_across axis n outer.1 is.some parallel) x y is.rising is.low is.high
