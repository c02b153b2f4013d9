-- Two lists of items are compared item by item.
use Rattle.std.proofs.Common.{◌≡◌, refl, ap, ap₂, ℕ, suc, ◌<◌, Bool, true, false, ◌&&◌}
use Rattle.std.proofs.Common.{List, [], ◌∷◌, length, drop, get_or}
use Rattle.std.proofs.Math.Seq.{drop-cons}
use Rattle.sb_model.specs.declared.walk.Item.{Item}
use Rattle.theory_faces.specs.Strips.{is_same_item, are_same_items}

-- lists of two lengths are not the same
pub other_length : (is js : List Item) → (length is ≡ length js → ⊥) → are_same_items is js ≡ false
other_length [] [] other = absurd (other refl)
other_length [] (j ∷ js) other = refl
other_length (i ∷ is) [] other = refl
other_length (i ∷ is) (j ∷ js) other =
    from (is_same_item i j) (other_length is js (λ same. other (ap suc same)))
  where
    from : (b : Bool) → are_same_items is js ≡ false → (b && are_same_items is js) ≡ false
    from true none = none
    from false none = refl

-- from a place on: the items there, and those behind
pub items_from : (is js : List Item) (at : ℕ) (d e : Item) → at < length is → at < length js
    → are_same_items (drop at is) (drop at js)
    ≡ (is_same_item (get_or is at d) (get_or js at e)
    && are_same_items (drop (suc at) is) (drop (suc at) js))
items_from is js at d e within within_too =
    ap₂ are_same_items (drop-cons is at d within) (drop-cons js at e within_too)
