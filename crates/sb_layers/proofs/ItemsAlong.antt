-- The items of a crossing by the sense of the normal, and in the walks of every model.

use Rattle.std.proofs.Common.{◌≡◌, refl, sym, ap, ap₂, ◌∙◌, arith, subst, ◌⊎◌, inl, inr, ℕ, ◌<◌, ◌+◌}
use Rattle.std.proofs.Common.{ℤ, pos, neg_ℤ, ◌+ℤ◌, ◌-ℤ◌, ◌*ℤ◌, ◌<ℤ◌, ◌≤ℤ◌, Bool, true, false, cond, int_lt, IsTrue}
use Rattle.std.proofs.Common.{List, [], ◌∷◌, ◌||◌, ◌&&◌, reverse, nat_le, length}
use Rattle.std.proofs.lemmas.Int.{ints}
use Rattle.std.proofs.lemmas.Bool.{and_parts, false≢true}
use Rattle.theory_numbers.specs.Rationals.{rational}
use Rattle.theory_numbers.proofs.Signs.{test_less, test_not_less, less_from, not_less_from, order_cases}
use Rattle.theory_numbers.proofs.Shapes.{var, minus, times, equal}
use Rattle.theory_numbers.proofs.Products.{weak_product}
use Rattle.theory_numbers.proofs.Ring.{mul-zero}
use Rattle.std.proofs.lemmas.List.{reverse-reverse}
use Rattle.sb_fraction.specs.Spots.{Vector, vector, inner, opposite}
use Rattle.sb_model.specs.declared.layers.Axis.{Axis}
use Rattle.sb_model.specs.declared.layers.Layer.{Layer}
use Rattle.sb_model.specs.declared.layers.Layering.{Layering}
use Rattle.sb_model.specs.declared.layers.Layering.TheVariants.{Layered}
use Rattle.sb_model.specs.declared.products.Element.{Element}
use Rattle.sb_model.specs.declared.walk.Item.{Item}
use Rattle.sb_model.specs.Building.{is_layering, is_level_axis, is_upright_axis, are_layers}
use Rattle.sb_model.specs.Labels.{axis_vector, low_along, high_along, total_of}
use Rattle.sb_model.specs.Walks.{lies_along, is_parallel}
use Rattle.theory_cuttings.specs.Changes.{Fine}
use Rattle.theory_sight.specs.Bands.{items_between, items_by, layer_items, bands_up, flipped, cut_between}
use Rattle.theory_sight.proofs.Crossings.BandsCut.{layer_is}
use Rattle.theory_sight.proofs.Crossings.CrossingItems.{not_across, items_of_piece, IsWithinExtent}
use Rattle.theory_sight.proofs.Crossings.Extents.{low-opposite, high-opposite}
use Rattle.theory_sight.proofs.ItemsReversed.{items_reversed, inner-opposite, LiesWithin}
use Rattle.sb_layers.specs.Parts.{parts_along, way_of}
use Rattle.sb_model.specs.Solids.{Upright}
use Rattle.sb_layers.specs.InWalks.{AreItemsInWalks}
use Rattle.sb_layers.proofs.PartsAreItems.{layers_found, from_start}

-- what is known of a layered element along a normal
pub record IsLayered (e : Element) (layers : List Layer) (axis : Axis) : Type 0 where
  pub is : e.layering ≡ Layered layers axis
  pub right : is_layering e.layering ≡ true

-- the parts of a way along the axis of the layers are the items of the crossing
pub up_is : (e : Element) (layers : List Layer) (axis : Axis) (n : Vector) (x y : ℤ)
    → IsLayered e layers axis → pos 0 <ℤ inner (axis_vector axis) n → x <ℤ y
    → low_along e.prism n ≤ℤ x → y ≤ℤ high_along e.prism n
    → parts_along e n x y layers ≡ items_between e n x y
up_is e [] axis n x y given pointing rising low_in high_in =
    absurd (false≢true (ap is_layering (sym given.is) ∙ given.right))
up_is e (l ∷ ls) axis n x y given pointing rising low_in high_in =
    sym
    (ap (λ g. items_by g e n x y) given.is
    ∙ ap
    (λ t.
    let bands = cond t (bands_up e.prism (l ∷ ls) n) (flipped (bands_up e.prism (l ∷ ls) (opposite n))) in
    let cut = cut_between (rational x (pos 1)) (rational y (pos 1)) bands in
    layer_items e (l ∷ ls) n (rational x (pos 1)) cut.first cut.rest (rational y (pos 1)))
    (test_less (pos 0) (inner (axis_vector axis) n) pointing)
    ∙ from_start e n (l ∷ ls) (wide (low_along e.prism n) x y (high_along e.prism n) low_in rising high_in)
    (some l.micro (total_of ls) (layer_is 0 l ls right).0) x y rising high_in 0 0 l ls right
    (layers_found 0 (l ∷ ls) right) start (nothing (total_of (l ∷ ls))))
  where
    right : are_layers 0 (l ∷ ls) ≡ true
    right =
        (and_parts _ (are_layers 0 (l ∷ ls))
        (and_parts _ (is_level_axis axis || is_upright_axis axis)
        (ap is_layering (sym given.is) ∙ given.right)).0).1

    wide : (a b c d : ℤ) → a ≤ℤ b → b <ℤ c → c ≤ℤ d → a <ℤ d
    wide a b c d one two three = omega (arith, ints)

    nothing : (a : ℕ) → 0 + a ≡ a
    nothing a = omega arith

    some : (a b : ℕ) → 0 < a → 0 < a + b
    some a b more = omega (arith, more)

    start : ((low_along e.prism n *ℤ pos (total_of (l ∷ ls)))
        +ℤ ((high_along e.prism n -ℤ low_along e.prism n) *ℤ pos 0))
        ≤ℤ (x *ℤ pos (total_of (l ∷ ls)))
    start =
        from (low_along e.prism n) (high_along e.prism n -ℤ low_along e.prism n) x (total_of (l ∷ ls)) low_in
      where
        from : (a b c : ℤ) (t : ℕ) → a ≤ℤ c
            → ((a *ℤ pos t) +ℤ (b *ℤ pos 0)) ≤ℤ (c *ℤ pos t)
        from a b c t less =
            let gap = weak_product (c -ℤ a) (pos t) (omega (arith, ints)) (omega (arith, ints)) in
            let parts =
            equal (times (minus (var c) (var a)) (var (pos t)))
            (minus (times (var c) (var (pos t))) (times (var a) (var (pos t)))) (omega arith)
            in
            let none = mul-zero b in
            omega (arith, ints)

-- against the axis they are those of the way back, in the other order
pub down_is : (e : Element) (layers : List Layer) (axis : Axis) (n : Vector) (x y : ℤ)
    → IsLayered e layers axis → inner (axis_vector axis) n ≤ℤ pos 0 → LiesWithin e n x y
    → reverse (parts_along e (opposite n) (neg_ℤ y) (neg_ℤ x) layers) ≡ items_between e n x y
down_is e layers axis n x y given pointing within =
    ap reverse
    (up_is e layers axis (opposite n) (neg_ℤ y) (neg_ℤ x) given
    (rw (inner-opposite (axis_vector axis) n) (against (inner (axis_vector axis) n) pointing apart))
    (turned x y within.rising)
    (rw (low-opposite e.prism n) (turned_weak y (high_along e.prism n) within.high))
    (rw (high-opposite e.prism n) (turned_weak (low_along e.prism n) x within.low))
    ∙ items_reversed e n x y within)
    ∙ reverse-reverse (items_between e n x y)
  where
    axis_right : (is_level_axis axis || is_upright_axis axis) ≡ true
    axis_right =
        (and_parts _ (is_level_axis axis || is_upright_axis axis)
        (ap is_layering (sym given.is) ∙ given.right)).1

    apart : inner (axis_vector axis) n ≡ pos 0 → ⊥
    apart =
        not_across axis n axis_right within.some
        (ap (λ layering. lies_along layering n) (sym given.is) ∙ within.along)

    against : (a : ℤ) → a ≤ℤ pos 0 → (a ≡ pos 0 → ⊥) → pos 0 <ℤ neg_ℤ a
    against a less apart = by (order_cases a (pos 0))
      where
        by : ((a <ℤ pos 0) ⊎ (a ≡ pos 0)) ⊎ (pos 0 <ℤ a) → pos 0 <ℤ neg_ℤ a
        by (inl (inl below)) = omega (arith, ints)
        by (inl (inr same)) = absurd (apart same)
        by (inr above) = absurd (omega (arith, ints, above))

    turned : (a b : ℤ) → a <ℤ b → neg_ℤ b <ℤ neg_ℤ a
    turned a b less = omega (arith, ints)

    turned_weak : (a b : ℤ) → a ≤ℤ b → neg_ℤ b ≤ℤ neg_ℤ a
    turned_weak a b less = omega (arith, ints)

-- the items are those of the crossing in every walk
pub items_in_walks : (e : Element) (n : Vector) (x y : ℤ) → pos 0 <ℤ inner n n
    → low_along e.prism n ≤ℤ x → y ≤ℤ high_along e.prism n → (items : List Item)
    → items ≡ items_between e n x y → AreItemsInWalks e n x y items
items_in_walks e n x y some low high items same m model r normal start x0 starts b more c =
    (items_of_piece m model r x0 x y (subst (λ v. pos 0 <ℤ inner v v) (sym normal) some) start starts e.number
    e b more c
    (record {
      low = subst (λ v. low_along e.prism v ≤ℤ x) (sym normal) low;
      high = subst (λ v. y ≤ℤ high_along e.prism v) (sym normal) high;
    }) items).1
    (same ∙ ap (λ v. items_between e v x y) (sym normal))

-- the way through an element with this extent and this sum of layers
pub way_is : (e : Element) (n : Vector) (x y : ℤ) (layers : List Layer) (low high : ℤ) (total : ℕ)
    → low ≡ low_along e.prism n → high ≡ high_along e.prism n → total ≡ total_of layers
    → way_of e.number (high -ℤ low) low total x y
    ≡ way_of e.number (high_along e.prism n -ℤ low_along e.prism n) (low_along e.prism n) (total_of layers) x y
way_is e n x y layers low high total low_is high_is total_is =
    ap (λ t. way_of e.number (high -ℤ low) low t x y) total_is
    ∙ ap (λ t. way_of e.number (t -ℤ low) low (total_of layers) x y) high_is
    ∙ ap (λ t. way_of e.number (high_along e.prism n -ℤ t) t (total_of layers) x y) low_is

-- the ends of the way back
pub back_low : (s : Upright) (n m : Vector) (y z : ℤ) → m ≡ opposite n → z ≡ neg_ℤ y
    → y ≤ℤ high_along s n → low_along s m ≤ℤ z
back_low s n m y z m_is z_is less = rw (m_is, z_is, low-opposite s n) (turned (high_along s n) y less)
  where
    turned : (a b : ℤ) → b ≤ℤ a → neg_ℤ a ≤ℤ neg_ℤ b
    turned a b less = omega (arith, ints)

pub back_high : (s : Upright) (n m : Vector) (x z : ℤ) → m ≡ opposite n → z ≡ neg_ℤ x
    → low_along s n ≤ℤ x → z ≤ℤ high_along s m
back_high s n m x z m_is z_is less = rw (m_is, z_is, high-opposite s n) (turned (low_along s n) x less)
  where
    turned : (a b : ℤ) → a ≤ℤ b → neg_ℤ b ≤ℤ neg_ℤ a
    turned a b less = omega (arith, ints)
