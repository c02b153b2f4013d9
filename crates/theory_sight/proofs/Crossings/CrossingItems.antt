-- A crossing between two whole positions has the items that the function of the two positions gives.
use Rattle.std.proofs.Common.{◌≡◌, ◌⊎◌, inl, inr, refl, sym, ap, ap₂, ◌∙◌, arith, subst, subst₂, ◌↔◌, ℕ}
use Rattle.std.proofs.Common.{ℤ, pos, neg_ℤ, ◌-ℤ◌, ◌*ℤ◌, ◌<ℤ◌, ◌≤ℤ◌, true, false}
use Rattle.std.proofs.Common.{IsTrue, List, [], ◌∷◌, Some, unsigned_abs, nat_le, nat_eq}
use Rattle.std.proofs.Common.{◌||◌, is_none}
use Rattle.std.specs.Ordering.{int_eq}
use Rattle.std.proofs.lemmas.Int.{ints, by_lt_z}
use Rattle.std.proofs.lemmas.Bool.{and_parts, or_cases, false≢true}
use Rattle.std.specs.List.{AllByRecursion, list_all}
use Rattle.theory_lists.specs.Members.{Stands}
use Rattle.theory_numbers.specs.Arrows.{Arrow, cross}
use Rattle.theory_numbers.specs.Rationals.{IsRational, IsBelow, rational}
use Rattle.theory_numbers.specs.Divisors.{are_coprime, greatest_divisor, divisor_within}
use Rattle.theory_numbers.proofs.Shapes.{var, minus, times, equal}
use Rattle.theory_numbers.proofs.Ring.{mul_comm}
use Rattle.theory_numbers.proofs.Products.{positive_product, zero_of_positive, weak_product}
use Rattle.theory_cuttings.specs.Cuttings.{Break, IsReducedCutting, HasLabel}
use Rattle.theory_cuttings.specs.Changes.{map_labels, moved_by, moved_breaks, Fine}
use Rattle.theory_cuttings.proofs.Ends.{IsBetween, below_two_ends}
use Rattle.theory_cuttings.proofs.OneCutting.{has_one_cutting}
use Rattle.theory_cuttings.proofs.Groups.{map_is}
use Rattle.sb_fraction.specs.Plane.{longest_step}
use Rattle.sb_fraction.specs.Spots.{IsSpot, Vector, inner}
use Rattle.sb_model.specs.declared.labels.label.Label.{Label}
use Rattle.sb_model.specs.declared.labels.label.Label.TheVariants as label
use Rattle.sb_model.specs.declared.layers.Axis.{Axis}
use Rattle.sb_model.specs.declared.layers.Layering.{Layering}
use Rattle.sb_model.specs.declared.layers.Layering.TheVariants.{Plain, Single, Layered}
use Rattle.sb_model.specs.declared.products.Element.{Element}
use Rattle.sb_model.specs.declared.walk.Item.{Item}
use Rattle.sb_model.specs.Solids.{is_in_solid}
use Rattle.sb_model.specs.Building.{Building, is_building, is_layering, is_level_axis, is_upright_axis}
use Rattle.sb_model.specs.Building.{are_layers, is_in_range, first_bad}
use Rattle.sb_model.specs.Passages.{Ray, at_depth}
use Rattle.sb_model.specs.Labels.{axis_vector, low_along, high_along, label_at, layer_at}
use Rattle.sb_model.specs.Walks.{layer_of, lies_along, is_parallel, element_numbered, AreItemsBy}
use Rattle.sb_model.specs.Walks.{AreItems, AreItemsOf, unit_along, IsPlainItem, length_between}
use Rattle.theory_sight.specs.Coarse.{coarse}
use Rattle.theory_sight.specs.Bands.{bands_along, cut_between, items_between, items_by, layer_items}
use Rattle.theory_sight.proofs.Crossings.Extents.{parallel_is_multiple}
use Rattle.theory_sight.proofs.Crossings.BandsCut.{IsFound}
use Rattle.theory_sight.proofs.Crossings.BandsOfPrisms.{layer_on, layer_is_by_position, layer_on_is_found}
use Rattle.theory_sight.proofs.Crossings.BandsOfPrisms.{low_end_of, high_end_of}
use Rattle.theory_sight.proofs.Crossings.ItemsOfPieces.{items_of_passages, items-moved, plain_items}
use Rattle.theory_sight.proofs.Crossings.LayeredItems.{reading_at_depth, layer_on-scaled, layers_differ}
use Rattle.theory_sight.proofs.Crossings.LayeredItems.{bands_by_depth, back_again, whole_below}
use Rattle.theory_cuttings.proofs.CutTwice.{of_equal, above_two_ends, labels_have, cutting_is_open}
use Rattle.theory_sight.proofs.Crossings.ElementAt.{element_is_at, coarse_element}
use Rattle.theory_sight.proofs.Crossings.PiecesAreRuns.{end-piece_to}
use Rattle.theory_sight.specs.Crossings.{IsCrossing, StartsAt, label_along, piece_to}

-- ---- axes

-- 0 and 0 have common divisors
zeros_not_coprime : are_coprime 0 0 ≡ false
unfolding greatest_divisor divisor_within
zeros_not_coprime = refl

-- an axis of a layered element is not 0
pub axis_is_some : (a : Axis) → (is_level_axis a || is_upright_axis a) ≡ true → a.x ≡ pos 0 → a.y ≡ pos 0
    → a.z ≡ pos 0 → ⊥
axis_is_some a is x_is y_is z_is = by (or_cases (is_level_axis a) (is_upright_axis a) is)
  where
    by : (is_level_axis a ≡ true) ⊎ (is_upright_axis a ≡ true) → ⊥
    by (inl level) =
        let first = and_parts _ (nat_le (unsigned_abs a.y) longest_step) level in
        let second = and_parts _ (nat_le (unsigned_abs a.x) longest_step) first.0 in
        let third = and_parts (int_eq a.z (pos 0)) (are_coprime (unsigned_abs a.x) (unsigned_abs a.y))
        second.0 in
        false≢true
        (sym zeros_not_coprime
        ∙ subst₂ (λ x y. are_coprime (unsigned_abs x) (unsigned_abs y) ≡ true) x_is y_is third.1)
    by (inr upright) =
        let first = and_parts _ (nat_eq (unsigned_abs a.z) 1) upright in
        false≢true (subst (λ z. nat_eq (unsigned_abs z) 1 ≡ true) z_is first.1)

-- an axis that is parallel to a normal does not stand across it
pub not_across : (a : Axis) (n : Vector) → (is_level_axis a || is_upright_axis a) ≡ true
    → pos 0 <ℤ inner n n → is_parallel (axis_vector a) n ≡ true
    → inner (axis_vector a) n ≡ pos 0 → ⊥
not_across a n is some parallel none =
    let multiple = parallel_is_multiple (axis_vector a) n parallel in
    axis_is_some a is (coordinate a.x n.x multiple.x) (coordinate a.y n.y multiple.y)
    (coordinate a.z n.z multiple.z)
  where
    coordinate : (z k : ℤ) → inner n n *ℤ z ≡ inner (axis_vector a) n *ℤ k → z ≡ pos 0
    coordinate z k same =
        zero_of_positive (inner n n) z some
        (same ∙ ap (λ c. c *ℤ k) none ∙ zero_times k)
      where
        zero_times : (k : ℤ) → pos 0 *ℤ k ≡ pos 0
        zero_times k = omega (arith, ints)

all_elements : (e : Element) (es : List Element) → list_all (λ x. is_layering x.layering) es ≡ true
    → Stands e es → is_layering e.layering ≡ true
all_elements e [] all stands = absurd stands
all_elements e (x ∷ xs) all stands =
    let parts = and_parts (is_layering x.layering) (list_all (λ y. is_layering y.layering) xs) all in
    by parts.0 (all_elements e xs parts.1) stands
  where
    by : is_layering x.layering ≡ true → (Stands e xs → is_layering e.layering ≡ true)
        → Stands e (x ∷ xs) → is_layering e.layering ≡ true
    by first later (inl here) = ap (λ y. is_layering y.layering) here ∙ first
    by first later (inr there) = later there

-- the layers of a model's element stand right
pub element_layering : (m : Building) → IsTrue (is_building m) → (e : Element) → Stands e m.elements
    → is_layering e.layering ≡ true
element_layering m is e stands =
    let range = and_parts (is_in_range m) (is_none (first_bad m)) is in
    let last = and_parts _ (list_all (λ x. is_layering x.layering) m.elements) range.0 in
    all_elements e m.elements last.1 stands

-- ---- what is known of a ray

-- a ray from a whole position in a model, whose points in elements lie within the elements' extents
pub record IsSeen (m : Building) (r : Ray) (x0 : ℤ) : Type 0 where
  pub model : IsTrue (is_building m)
  pub start : IsSpot r.start
  pub some : pos 0 <ℤ inner r.normal r.normal
  pub starts : StartsAt r x0
  pub within : (e : Element) → Stands e m.elements → (u : Arrow) → IsRational u
      → is_in_solid e.prism (at_depth r u) ≡ true
      → IsBelow (low_end_of e.prism r.normal) (moved_by x0 u)
      × IsBelow (moved_by x0 u) (high_end_of e.prism r.normal)

-- a depth below a whole one lies at a position below
not_beyond_at : (x0 low : ℤ) (u : Arrow) → IsBelow u (rational (low -ℤ x0) (pos 1))
    → IsBelow (rational low (pos 1)) (moved_by x0 u) → ⊥
unfolding cross
not_beyond_at x0 low u before after =
    let parts =
    equal (times (var u.x) (minus (var low) (var x0)))
    (minus (times (var low) (var u.x)) (times (var x0) (var u.x))) (omega arith)
    in
    omega (arith, ints)

not_short_at : (x0 high : ℤ) (u : Arrow) → IsBelow (rational (high -ℤ x0) (pos 1)) u
    → IsBelow (moved_by x0 u) (rational high (pos 1)) → ⊥
unfolding cross
not_short_at x0 high u after before =
    let parts =
    equal (times (minus (var high) (var x0)) (var u.x))
    (minus (times (var high) (var u.x)) (times (var x0) (var u.x))) (omega arith)
    in
    let other = mul_comm u.x high in
    omega (arith, ints)

-- a depth above a whole one lies at a position above
position_above : (x0 low x : ℤ) (u : Arrow) → IsRational u → low ≤ℤ x
    → IsBelow (rational (x -ℤ x0) (pos 1)) u → IsBelow (rational low (pos 1)) (moved_by x0 u)
unfolding cross
position_above x0 low x u u_in less above =
    let gap = weak_product (x -ℤ low) u.x (omega (arith, ints)) (omega (arith, ints, u_in)) in
    let parts =
    equal (times (minus (var x) (var low)) (var u.x))
    (minus (times (var x) (var u.x)) (times (var low) (var u.x))) (omega arith)
    in
    let moved =
    equal (times (minus (var x) (var x0)) (var u.x))
    (minus (times (var x) (var u.x)) (times (var x0) (var u.x))) (omega arith)
    in
    omega (arith, ints)

position_below : (x0 high y : ℤ) (u : Arrow) → IsRational u → y ≤ℤ high
    → IsBelow u (rational (y -ℤ x0) (pos 1)) → IsBelow (moved_by x0 u) (rational high (pos 1))
unfolding cross
position_below x0 high y u u_in less below =
    let gap = weak_product (high -ℤ y) u.x (omega (arith, ints)) (omega (arith, ints, u_in)) in
    let parts =
    equal (times (minus (var high) (var y)) (var u.x))
    (minus (times (var high) (var u.x)) (times (var y) (var u.x))) (omega arith)
    in
    let moved =
    equal (times (var u.x) (minus (var y) (var x0)))
    (minus (times (var y) (var u.x)) (times (var x0) (var u.x))) (omega arith)
    in
    let other = mul_comm u.x high in
    omega (arith, ints)

module _ (m : Building) (is_model : IsTrue (is_building m)) (r : Ray) (x0 x y : ℤ) (k : ℕ)
    (e : Element) (b : Break Label) (before : List (Break Label))
    (c : IsCrossing m r x0 x y k e b before) where
  -- inside the crossing the element is seen
  abbrev Inside : Arrow → Type 0
  Inside u = IsRational u × IsBelow b.start u × IsBelow u (rational (y -ℤ x0) (pos 1))

  seen_at : (u : Arrow) → IsRational u → IsBelow b.start u → IsBelow u (rational (y -ℤ x0) (pos 1))
      → (layer : ℕ) × (label_along m r u ≡ label.Element k layer)
      × (layer ≡ layer_at e.prism e.layering (at_depth r u))
      × (is_in_solid e.prism (at_depth r u) ≡ true)
  seen_at u u_in after to = by (coarse_element (label_along m r u) k (c.coarse_is u u_in after to))
    where
      by : (layer : ℕ) × (label_along m r u ≡ label.Element k layer)
          → (layer : ℕ) × (label_along m r u ≡ label.Element k layer)
          × (layer ≡ layer_at e.prism e.layering (at_depth r u))
          × (is_in_solid e.prism (at_depth r u) ≡ true)
      by (layer, is) =
          let at = element_is_at m is_model (at_depth r u) k layer is in
          let same : Some at.element ≡ Some e = sym at.numbered ∙ c.numbered in
          let one : at.element ≡ e = cc in (
            layer,
            is,
            subst (λ d. layer ≡ layer_at d.prism d.layering (at_depth r u)) one at.layer_is,
            subst (λ d. is_in_solid d.prism (at_depth r u) ≡ true) one at.inside,
          )

  start_in : IsRational b.start
  start_in = subst IsRational (sym c.from) (omega (arith, ints))

  -- the far position is above the near one
  wide : IsBelow b.start (rational (y -ℤ x0) (pos 1))
  wide =
      cutting_is_open (label_along m r) (Some b.start) (Some (rational (y -ℤ x0) (pos 1))) start_in
      (omega (arith, ints)) b.label before c.cut.cutting

  rising : x <ℤ y
  unfolding cross
  rising = by (subst (λ s. IsBelow s (rational (y -ℤ x0) (pos 1))) c.from wide)
    where
      by : IsBelow (rational (x -ℤ x0) (pos 1)) (rational (y -ℤ x0) (pos 1)) → x <ℤ y
      by below = omega (arith, ints)

  -- the crossing's labels are those of its element, from the first on
  pub labels_of : ((i : ℕ) × (b.label ≡ label.Element k i))
      × AllByRecursion (λ d. (i : ℕ) × (d.label ≡ label.Element k i)) before
  labels_of =
      labels_have (label_along m r) (λ d. (i : ℕ) × (d ≡ label.Element k i))
      (Some (rational (y -ℤ x0) (pos 1))) (omega (arith, ints)) (Some b.start) start_in
      (λ u u_in after to. let at = seen_at u u_in after to in (at.0, at.1)) b.label before
      c.cut.cutting

-- the crossing lies within the extent of its element
pub record IsWithinExtent (e : Element) (n : Vector) (x y : ℤ) : Type 0 where
  pub low : low_along e.prism n ≤ℤ x
  pub high : y ≤ℤ high_along e.prism n

module _ (m : Building) (is_model : IsTrue (is_building m)) (r : Ray) (x0 x y : ℤ)
    (some : pos 0 <ℤ inner r.normal r.normal) (start : IsSpot r.start) (starts : StartsAt r x0)
    (k : ℕ) (e : Element) (b : Break Label) (before : List (Break Label))
    (c : IsCrossing m r x0 x y k e b before) (in_extent : IsWithinExtent e r.normal x y) where
  -- the element's layers stand right
  layering_right : is_layering e.layering ≡ true
  layering_right = element_layering m is_model e c.stands

  -- the crossing's items, by the element's layering
  items_by_layering : (layering : Layering) → e.layering ≡ layering → (items : List Item)
      → AreItemsBy layering e r (piece_to b before (Some (rational (y -ℤ x0) (pos 1))))
      (rational (y -ℤ x0) (pos 1)) items ↔ (items ≡ items_by layering e r.normal x y)
  items_by_layering Plain same items =
      subst
      (λ s.
      IsPlainItem e (unit_along r) (length_between s (rational (y -ℤ x0) (pos 1))) items
      ↔ (items ≡ items_by Plain e r.normal x y)) (sym c.from)
      (plain_items e (unit_along r) x0 x y some items)
  items_by_layering (Single material) same items =
      subst
      (λ s.
      IsPlainItem e (unit_along r) (length_between s (rational (y -ℤ x0) (pos 1))) items
      ↔ (items ≡ items_by (Single material) e r.normal x y)) (sym c.from)
      (plain_items e (unit_along r) x0 x y some items)
  items_by_layering (Layered [] axis) same items =
      absurd (false≢true (ap is_layering (sym same) ∙ layering_right))
  items_by_layering (Layered (l ∷ ls) axis) same items =
      by
      (has_one_cutting ℕ (λ u. layer_on e.prism (l ∷ ls) axis r.normal (moved_by x0 u))
      (Some b.start) (Some (rational (y -ℤ x0) (pos 1))) (start_in m is_model r x0 x y k e b before c) (omega (arith, ints))
      (layer_of b.label) bands.first (map_labels layer_of before)
      (moved_breaks (neg_ℤ x0) bands.rest) of_passages of_bands)
    where
      bands : Fine ℕ
      bands =
          cut_between (rational x (pos 1)) (rational y (pos 1))
          (bands_along e.prism (l ∷ ls) axis r.normal)

      right : is_layering (Layered (l ∷ ls) axis) ≡ true
      right = ap is_layering (sym same) ∙ layering_right

      axis_right : (is_level_axis axis || is_upright_axis axis) ≡ true
      axis_right = (and_parts _ (is_level_axis axis || is_upright_axis axis) right).1

      layers_right : are_layers 0 (l ∷ ls) ≡ true
      layers_right =
          (and_parts _ (are_layers 0 (l ∷ ls))
          (and_parts _ (is_level_axis axis || is_upright_axis axis) right).0).1

      parallel : is_parallel (axis_vector axis) r.normal ≡ true
      parallel = ap (λ layering. lies_along layering r.normal) (sym same) ∙ c.passed

      some_extent : low_along e.prism r.normal <ℤ high_along e.prism r.normal
      some_extent =
          let low = in_extent.low in
          let high = in_extent.high in
          let less = rising m is_model r x0 x y k e b before c in
          omega (arith, ints)

      layer_there : (u : Arrow) → IsRational u → IsBelow b.start u
          → IsBelow u (rational (y -ℤ x0) (pos 1))
          → layer_of (label_along m r u)
          ≡ layer_on e.prism (l ∷ ls) axis r.normal (moved_by x0 u)
      layer_there u u_in after to =
          let at = seen_at m is_model r x0 x y k e b before c u u_in after to in
          ap layer_of at.1
          ∙ at.2
          ∙ ap (λ layering. layer_at e.prism layering (at_depth r u)) same
          ∙ layer_is_by_position e.prism (l ∷ ls) axis r.normal some parallel
          (not_across axis r.normal axis_right some parallel) (at_depth r u)
          ∙ ap (layer_on e.prism (l ∷ ls) axis r.normal) (reading_at_depth r x0 starts u)
          ∙ layer_on-scaled e.prism (l ∷ ls) axis r.normal (r.start.w *ℤ inner r.normal r.normal)
          (moved_by x0 u) (positive_product r.start.w (inner r.normal r.normal) start some)

      of_passages : IsReducedCutting
          (λ u. layer_on e.prism (l ∷ ls) axis r.normal (moved_by x0 u)) (Some b.start)
          (Some (rational (y -ℤ x0) (pos 1))) (layer_of b.label) (map_labels layer_of before)
      of_passages = record {
        cutting =
            of_equal (λ u. layer_of (label_along m r u))
            (λ u. layer_on e.prism (l ∷ ls) axis r.normal (moved_by x0 u))
            (Some (rational (y -ℤ x0) (pos 1))) (omega (arith, ints)) (Some b.start) (start_in m is_model r x0 x y k e b before c)
            layer_there (layer_of b.label) (map_labels layer_of before)
            (map_is (label_along m r) layer_of (Some (rational (y -ℤ x0) (pos 1))) (Some b.start)
            b.label before c.cut.cutting);
        different = layers_differ k b.label before (labels_of m is_model r x0 x y k e b before c).0
            (labels_of m is_model r x0 x y k e b before c).1 c.cut.different;
      }

      of_bands : IsReducedCutting
          (λ u. layer_on e.prism (l ∷ ls) axis r.normal (moved_by x0 u)) (Some b.start)
          (Some (rational (y -ℤ x0) (pos 1))) bands.first (moved_breaks (neg_ℤ x0) bands.rest)
      of_bands =
          subst
          (λ s.
          IsReducedCutting (λ u. layer_on e.prism (l ∷ ls) axis r.normal (moved_by x0 u)) (Some s)
          (Some (rational (y -ℤ x0) (pos 1))) bands.first (moved_breaks (neg_ℤ x0) bands.rest))
          (sym c.from)
          (bands_by_depth e.prism l ls axis r.normal layers_right some_extent x0 x y
          (rising m is_model r x0 x y k e b before c) in_extent.low in_extent.high)

      found_there : (u : Arrow) → IsRational u → IsBelow b.start u
          → IsBelow u (rational (y -ℤ x0) (pos 1))
          → IsFound (layer_of (label_along m r u)) (l ∷ ls)
      found_there u u_in after to =
          let at = seen_at m is_model r x0 x y k e b before c u u_in after to in
          subst (λ i. IsFound i (l ∷ ls)) (sym (layer_there u u_in after to))
          (layer_on_is_found e.prism l ls axis r.normal layers_right some_extent (moved_by x0 u)
          (position_above x0 (low_along e.prism r.normal) x u u_in in_extent.low
          (subst (λ s. IsBelow s u) c.from after))
          (position_below x0 (high_along e.prism r.normal) y u u_in in_extent.high to))

      all_found : IsFound (layer_of b.label) (l ∷ ls)
          × AllByRecursion (λ d. IsFound (layer_of d.label) (l ∷ ls)) before
      all_found =
          labels_have (label_along m r) (λ d. IsFound (layer_of d) (l ∷ ls))
          (Some (rational (y -ℤ x0) (pos 1))) (omega (arith, ints)) (Some b.start) (start_in m is_model r x0 x y k e b before c)
          found_there b.label before c.cut.cutting

      same_items : layer_of b.label ≡ bands.first
          → map_labels layer_of before ≡ moved_breaks (neg_ℤ x0) bands.rest
          → layer_items e (l ∷ ls) r.normal b.start (layer_of b.label) (map_labels layer_of before)
          (rational (y -ℤ x0) (pos 1))
          ≡ layer_items e (l ∷ ls) r.normal (rational x (pos 1)) bands.first bands.rest
          (rational y (pos 1))
      same_items first rest =
          ap₂ (λ i bs. layer_items e (l ∷ ls) r.normal b.start i bs (rational (y -ℤ x0) (pos 1)))
          first rest
          ∙ ap₂
          (λ s t.
          layer_items e (l ∷ ls) r.normal s bands.first (moved_breaks (neg_ℤ x0) bands.rest) t)
          (c.from ∙ sym (back_again x0 x)) (sym (back_again x0 y))
          ∙ items-moved e (l ∷ ls) r.normal (neg_ℤ x0) (rational x (pos 1)) (rational y (pos 1))
          bands.first bands.rest

      by : (layer_of b.label ≡ bands.first)
          × (map_labels layer_of before ≡ moved_breaks (neg_ℤ x0) bands.rest)
          → AreItemsBy (Layered (l ∷ ls) axis) e r
          (piece_to b before (Some (rational (y -ℤ x0) (pos 1)))) (rational (y -ℤ x0) (pos 1)) items
          ↔ (items ≡ items_by (Layered (l ∷ ls) axis) e r.normal x y)
      by one =
          let is =
          items_of_passages e (l ∷ ls) r.normal (rational (y -ℤ x0) (pos 1)) b before all_found.0
          all_found.1 items
          in
          (λ are. is.0 are ∙ same_items one.0 one.1, λ equal. is.1 (equal ∙ sym (same_items one.0 one.1)))

  -- the items of the crossing are those of the function
  pub items_within : (layer : ℕ) (items : List Item)
      → AreItemsOf m r (piece_to b before (Some (rational (y -ℤ x0) (pos 1))))
      (label.Element k layer) items
      ↔ (items ≡ items_between e r.normal x y)
  items_within layer items =
      rw (c.numbered, end-piece_to b before (Some (rational (y -ℤ x0) (pos 1))))
      (items_by_layering e.layering refl items)

  -- so they are what the definition asks of this piece of the ray
  pub items_of_piece : (items : List Item)
      → AreItems m r (piece_to b before (Some (rational (y -ℤ x0) (pos 1)))) items
      ↔ (items ≡ items_between e r.normal x y)
  items_of_piece items =
      let first = (labels_of m is_model r x0 x y k e b before c).0 in
      subst
      (λ l.
      AreItemsOf m r (piece_to b before (Some (rational (y -ℤ x0) (pos 1)))) l items
      ↔ (items ≡ items_between e r.normal x y)) (sym first.1) (items_within first.0 items)

module _ (m : Building) (r : Ray) (x0 : ℤ) (seen : IsSeen m r x0) (x y : ℤ) (k : ℕ) (e : Element)
    (b : Break Label) (before : List (Break Label)) (c : IsCrossing m r x0 x y k e b before) where
  -- the crossing lies within the extent of the element
  low_within : low_along e.prism r.normal ≤ℤ x
  low_within =
      by_lt_z x (low_along e.prism r.normal) (λ short. absurd (clash short)) (λ fits. fits)
    where
      clash : x <ℤ low_along e.prism r.normal → ⊥
      clash short =
          by
          (below_two_ends (Some b.start) (Some (rational (y -ℤ x0) (pos 1)))
          (Some (rational (low_along e.prism r.normal -ℤ x0) (pos 1))) (start_in m seen.model r x0 x y k e b before c) (omega (arith, ints))
          (omega (arith, ints)) (wide m seen.model r x0 x y k e b before c)
          (subst (λ s. IsBelow s (rational (low_along e.prism r.normal -ℤ x0) (pos 1))) (sym c.from)
          (whole_below (x -ℤ x0) (low_along e.prism r.normal -ℤ x0) (omega (arith, ints)))))
        where
          by : (u : Arrow)
              × (IsBetween (Some b.start) (Some (rational (y -ℤ x0) (pos 1))) u
              × IsBetween (Some b.start) (Some (rational (low_along e.prism r.normal -ℤ x0) (pos 1))) u)
              → ⊥
          by (u, is) =
              let at = seen_at m seen.model r x0 x y k e b before c u is.0.rational is.0.after is.0.before in
              let in_extent = seen.within e c.stands u is.0.rational at.3 in
              not_beyond_at x0 (low_along e.prism r.normal) u is.1.before in_extent.0

  high_within : y ≤ℤ high_along e.prism r.normal
  high_within =
      by_lt_z (high_along e.prism r.normal) y (λ short. absurd (clash short)) (λ fits. fits)
    where
      clash : high_along e.prism r.normal <ℤ y → ⊥
      clash short =
          by
          (above_two_ends (Some b.start) (Some (rational (high_along e.prism r.normal -ℤ x0) (pos 1)))
          (rational (y -ℤ x0) (pos 1)) (start_in m seen.model r x0 x y k e b before c) (omega (arith, ints)) (omega (arith, ints)) (wide m seen.model r x0 x y k e b before c)
          (whole_below (high_along e.prism r.normal -ℤ x0) (y -ℤ x0) (omega (arith, ints))))
        where
          by : (u : Arrow)
              × (IsBetween (Some b.start) (Some (rational (y -ℤ x0) (pos 1))) u
              × IsBetween (Some (rational (high_along e.prism r.normal -ℤ x0) (pos 1)))
              (Some (rational (y -ℤ x0) (pos 1))) u)
              → ⊥
          by (u, is) =
              let at = seen_at m seen.model r x0 x y k e b before c u is.0.rational is.0.after is.0.before in
              let in_extent = seen.within e c.stands u is.0.rational at.3 in
              not_short_at x0 (high_along e.prism r.normal) u is.1.after in_extent.1

  -- the items of a crossing that is seen are those of the function
  pub crossing_items : (layer : ℕ) (items : List Item)
      → AreItemsOf m r (piece_to b before (Some (rational (y -ℤ x0) (pos 1))))
      (label.Element k layer) items
      ↔ (items ≡ items_between e r.normal x y)
  crossing_items =
      items_within m seen.model r x0 x y seen.some seen.start seen.starts k e b before c
      (record { low = low_within; high = high_within })
