-- One item more.
use Rattle.std.proofs.Common.{◌≡◌, ℕ, ◌+◌, ◌<◌, List, [], ◌∷◌, ◌++◌, length, map, take, get_or, sym, ap, ◌∙◌}
use Rattle.std.proofs.lemmas.List.{take_more, map-append}
use Rattle.sb_idf_out.specs.FirstUse.{with_new, with_all, number_in}
use Rattle.sb_idf_out.specs.Materials.{Material, is_same_material}
use Rattle.sb_idf_out.specs.Steps.Tables.{used_numbers}
use Rattle.sb_idf_out.proofs.NumbersStay.{all_push, used_push}

module _ {X : Type 0} (f : X → Material) (ms : List Material) (xs : List X) (i : ℕ) (x : X)
    (within : i < length xs) (is : x ≡ get_or xs i x) where
  one_more : map f (take (i + 1) xs) ≡ map f (take i xs) ++ f x ∷ []
  one_more =
      ap (map f) (take_more xs i x within ∙ ap (λ y. take i xs ++ y ∷ []) (sym is))
      ∙ map-append f (take i xs) (x ∷ [])

  pub all_more : with_all is_same_material ms (map f (take (i + 1) xs))
      ≡ with_new is_same_material (with_all is_same_material ms (map f (take i xs))) (f x)
  all_more =
      ap (with_all is_same_material ms) one_more
      ∙ all_push is_same_material ms (map f (take i xs)) (f x)

  pub used_more : used_numbers is_same_material ms (map f (take (i + 1) xs))
      ≡ used_numbers is_same_material ms (map f (take i xs))
      ++ number_in is_same_material (with_all is_same_material ms (map f (take i xs))) (f x) ∷ []
  used_more =
      ap (used_numbers is_same_material ms) one_more
      ∙ used_push is_same_material ms (map f (take i xs)) (f x)
