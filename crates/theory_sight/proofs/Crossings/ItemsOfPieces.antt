-- The items of a crossing are one list: what the definition asks of them, passage by passage, is what the
-- function of the two positions gives.
use Rattle.std.proofs.Common.{◌≡◌, refl, ap, ap₂, ◌∙◌, arith, ◌↔◌, ℕ, ◌==◌}
use Rattle.std.proofs.Common.{ℤ, pos, ◌+ℤ◌, ◌-ℤ◌, ◌*ℤ◌, ◌<ℤ◌}
use Rattle.std.proofs.Common.{List, [], ◌∷◌, Option, Some, None}
use Rattle.std.proofs.lemmas.Int.{ints}
use Rattle.std.specs.List.{AllByRecursion, find}
use Rattle.theory_numbers.specs.Arrows.{Arrow, arrow}
use Rattle.theory_numbers.specs.Rationals.{rational}
use Rattle.theory_numbers.specs.Fractions.{whole}
use Rattle.theory_numbers.proofs.Shapes.{var, plus, minus, times, equal}
use Rattle.theory_cuttings.specs.Cuttings.{Break}
use Rattle.theory_cuttings.specs.Changes.{map_labels, moved_by, moved_breaks}
use Rattle.sb_model.specs.declared.labels.label.Label.{Label}
use Rattle.sb_model.specs.declared.layers.Layer.{Layer}
use Rattle.sb_model.specs.declared.products.Element.{Element}
use Rattle.sb_model.specs.declared.walk.Item.{Item}
use Rattle.sb_fraction.specs.Spots.{Vector}
use Rattle.sb_model.specs.Passages.{Passage, passage}
use Rattle.sb_model.specs.Walks.{length_between, layer_item, layer_of, IsLayerItem, AreLayerItems}
use Rattle.sb_model.specs.Walks.{IsPlainItem, item}
use Rattle.theory_sight.specs.Bands.{item_of_layer, item_at, layer_items, rounded_thickness}
use Rattle.theory_sight.proofs.Crossings.Thickness.{thickness_is}
use Rattle.theory_sight.proofs.Crossings.BandsCut.{IsFound}
use Rattle.theory_sight.specs.Crossings.{passages_to}

-- ---- layers, one item for each passage

-- where its layer is found, an item is the one of its layer from one break to the next
one_item : (e : Element) (layers : List Layer) (n : Vector) (q : Passage) (index : ℕ) (to : Arrow) (i : Item)
    → IsFound index layers
    → IsLayerItem e layers n q (find (λ l. l.index == index) layers) (Some to) i
    ↔ (i ≡ item_at e layers n index q.from to)
one_item e layers n q index to i (l, found) =
    rw found (λ is. is, λ is. is)

-- the passages up to an end have the items of their breaks
pub items_of_passages : (e : Element) (layers : List Layer) (n : Vector) (to : Arrow)
    (b : Break Label) (bs : List (Break Label)) → IsFound (layer_of b.label) layers
    → AllByRecursion (λ c. IsFound (layer_of c.label) layers) bs → (items : List Item)
    → AreLayerItems e layers n (passages_to (b ∷ bs) (Some to)) items
    ↔ (items ≡ layer_items e layers n b.start (layer_of b.label) (map_labels layer_of bs) to)
items_of_passages e layers n to b [] found rest [] = (λ none. absurd none, λ same. absurd (clash same))
  where
    clash : [] ≡ item_at e layers n (layer_of b.label) b.start to ∷ [] → ⊥
    clash same = cc
items_of_passages e layers n to b [] found rest (i ∷ []) =
    let one = one_item e layers n (passage b.label b.start (Some to)) (layer_of b.label) to i found in (
      λ is. ap (λ x. x ∷ []) (one.0 is.0),
      λ same. let e : i ≡ item_at e layers n (layer_of b.label) b.start to = cc in (one.1 e, tt),
    )
items_of_passages e layers n to b [] found rest (i ∷ j ∷ items) =
    (λ is. absurd is.1, λ same. absurd (clash same))
  where
    clash : i ∷ j ∷ items ≡ item_at e layers n (layer_of b.label) b.start to ∷ [] → ⊥
    clash same = cc
items_of_passages e layers n to b (c ∷ bs) found rest [] = (λ none. absurd none, λ same. absurd (clash same))
  where
    clash : [] ≡ item_at e layers n (layer_of b.label) b.start c.start
        ∷ layer_items e layers n c.start (layer_of c.label) (map_labels layer_of bs) to → ⊥
    clash same = cc
items_of_passages e layers n to b (c ∷ bs) found rest (i ∷ items) =
    let one =
    one_item e layers n (passage b.label b.start (Some c.start)) (layer_of b.label) c.start i found
    in
    let later = items_of_passages e layers n to c bs rest.0 rest.1 items in (
      λ is. ap₂ (λ x xs. x ∷ xs) (one.0 is.0) (later.0 is.1),
      λ same.
          let first : i ≡ item_at e layers n (layer_of b.label) b.start c.start = cc in
          let others : items
          ≡ layer_items e layers n c.start (layer_of c.label) (map_labels layer_of bs) to = cc in
          (one.1 first, later.1 others),
    )

-- ---- items seen from another whole number

length-moved : (k : ℤ) (a b : Arrow)
    → length_between (moved_by k a) (moved_by k b) ≡ length_between a b
length-moved k a b = ap (arrow (a.x *ℤ b.x)) same
  where
    same : ((b.y +ℤ (k *ℤ b.x)) *ℤ a.x) -ℤ ((a.y +ℤ (k *ℤ a.x)) *ℤ b.x)
        ≡ (b.y *ℤ a.x) -ℤ (a.y *ℤ b.x)
    same =
        equal
        (minus (times (plus (var b.y) (times (var k) (var b.x))) (var a.x))
        (times (plus (var a.y) (times (var k) (var a.x))) (var b.x)))
        (minus (times (var b.y) (var a.x)) (times (var a.y) (var b.x))) (omega arith)

item-moved : (e : Element) (layers : List Layer) (n : Vector) (k : ℤ) (index : ℕ) (a b : Arrow)
    → item_at e layers n index (moved_by k a) (moved_by k b) ≡ item_at e layers n index a b
item-moved e layers n k index a b = by (find (λ l. l.index == index) layers)
  where
    by : (o : Option Layer)
        → item_of_layer e layers n index o (moved_by k a) (moved_by k b)
        ≡ item_of_layer e layers n index o a b
    by None = refl
    by (Some l) = ap (layer_item e layers n l) (length-moved k a b)

-- the items of pieces do not see from which whole number positions are counted
pub items-moved : (e : Element) (layers : List Layer) (n : Vector) (k : ℤ) (from to : Arrow)
    (index : ℕ) (bs : List (Break ℕ))
    → layer_items e layers n (moved_by k from) index (moved_breaks k bs) (moved_by k to)
    ≡ layer_items e layers n from index bs to
items-moved e layers n k from to index [] =
    ap (λ i. i ∷ []) (item-moved e layers n k index from to)
items-moved e layers n k from to index (b ∷ bs) =
    ap₂ (λ i is. i ∷ is) (item-moved e layers n k index from b.start)
    (items-moved e layers n k b.start to b.label bs)

-- ---- one item alone

-- the length between two whole positions, at depths from x0 on
pub whole_length : (x0 x y : ℤ)
    → length_between (rational (x -ℤ x0) (pos 1)) (rational (y -ℤ x0) (pos 1))
    ≡ rational (y -ℤ x) (pos 1)
whole_length x0 x y = ap₂ arrow refl same
  where
    same : ((y -ℤ x0) *ℤ pos 1) -ℤ ((x -ℤ x0) *ℤ pos 1) ≡ y -ℤ x
    same = omega (arith, ints)

-- the item of an element without layers along an axis
pub plain_items : (e : Element) (unit x0 x y : ℤ) → pos 0 <ℤ unit → (items : List Item)
    → IsPlainItem e unit
    (length_between (rational (x -ℤ x0) (pos 1)) (rational (y -ℤ x0) (pos 1))) items
    ↔ (items ≡ item e.number 0 (whole (pos (rounded_thickness unit (y -ℤ x)))) ∷ [])
plain_items e unit x0 x y unit_in items =
    rw (whole_length x0 x y) (by items)
  where
    by : (items : List Item) → IsPlainItem e unit (rational (y -ℤ x) (pos 1)) items
        ↔ (items ≡ item e.number 0 (whole (pos (rounded_thickness unit (y -ℤ x)))) ∷ [])
    by [] = (λ none. absurd none, λ same. absurd (clash same))
      where
        clash : [] ≡ item e.number 0 (whole (pos (rounded_thickness unit (y -ℤ x)))) ∷ [] → ⊥
        clash same = cc
    by (i ∷ []) = (to, from)
      where
        to : IsPlainItem e unit (rational (y -ℤ x) (pos 1)) (i ∷ [])
            → i ∷ [] ≡ item e.number 0 (whole (pos (rounded_thickness unit (y -ℤ x)))) ∷ []
        to (thickness, rounded, is) =
            ap (λ j. j ∷ []) is
            ∙ ap (λ m. item e.number 0 (whole (pos m)) ∷ [])
            ((thickness_is unit (y -ℤ x) unit_in thickness).0 rounded)

        from : i ∷ [] ≡ item e.number 0 (whole (pos (rounded_thickness unit (y -ℤ x)))) ∷ []
            → IsPlainItem e unit (rational (y -ℤ x) (pos 1)) (i ∷ [])
        from same =
            let one : i ≡ item e.number 0 (whole (pos (rounded_thickness unit (y -ℤ x)))) = cc in (
              rounded_thickness unit (y -ℤ x),
              (thickness_is unit (y -ℤ x) unit_in (rounded_thickness unit (y -ℤ x))).1 refl,
              one,
            )
    by (i ∷ j ∷ items) = (λ none. absurd none, λ same. absurd (clash same))
      where
        clash : i ∷ j ∷ items
            ≡ item e.number 0 (whole (pos (rounded_thickness unit (y -ℤ x)))) ∷ [] → ⊥
        clash same = cc
