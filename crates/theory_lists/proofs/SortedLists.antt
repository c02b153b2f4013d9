-- A list that is sorted strictly is the only such list of its items.

use Rattle.std.proofs.Common.{◌≡◌, inl, inr, refl, sym, ap₂, ◌∙◌, subst}
use Rattle.std.proofs.Common.{List, [], ◌∷◌, IsPermutation}
use Rattle.std.specs.List.{AllByRecursion}
use Rattle.std.proofs.lemmas.List.Sorted.{IsPermutation-sym}
use Rattle.theory_lists.specs.Members.{Stands, AllOfTwo}
use Rattle.theory_lists.proofs.Members.{all_stands}
use Rattle.theory_lists.proofs.InAnyOrder.{stands_permuted}

module _ {X : Type 0} (R : X → X → Type 0) where
  -- no two items of the list stand in the relation both ways
  abbrev pub IsOneWay : List X → Type 0
  IsOneWay xs = (x y : X) → Stands x xs → Stands y xs → R x y → R y x → ⊥

  same_head : (x y : X) (xs ys : List X) → AllByRecursion (R x) xs → AllByRecursion (R y) ys
      → Stands x (y ∷ ys) → Stands y (x ∷ xs)
      → IsOneWay (x ∷ xs) → x ≡ y
  same_head x y xs ys before_x before_y (inl same) at_y one_way = same
  same_head x y xs ys before_x before_y (inr later) (inl same) one_way = sym same
  same_head x y xs ys before_x before_y (inr later) (inr later_y) one_way =
      absurd (one_way x y (inl refl) (inr later_y) (all_stands (R x) y xs before_x later_y)
      (all_stands (R y) x ys before_y later))

  in_tail : (x y z : X) (xs ys : List X) → x ≡ y → AllByRecursion (R x) xs
      → IsOneWay (x ∷ xs) → Stands z xs → Stands z (y ∷ ys) → Stands z ys
  in_tail x y z xs ys same before one_way at (inr later) = later
  in_tail x y z xs ys same before one_way at (inl first) =
      let loop = subst (R x) (first ∙ sym same) (all_stands (R x) z xs before at) in
      absurd (one_way x x (inl refl) (inl refl) loop loop)

  -- two lists sorted strictly with the same members are one list
  pub one_sorted_list : (xs ys : List X) → AllOfTwo R xs → AllOfTwo R ys
      → ((z : X) → Stands z xs → Stands z ys) → ((z : X) → Stands z ys → Stands z xs)
      → IsOneWay xs → xs ≡ ys
  one_sorted_list [] [] sorted sorted_y there back one_way = refl
  one_sorted_list [] (y ∷ ys) sorted sorted_y there back one_way = absurd (back y (inl refl))
  one_sorted_list (x ∷ xs) [] sorted sorted_y there back one_way = absurd (there x (inl refl))
  one_sorted_list (x ∷ xs) (y ∷ ys) sorted sorted_y there back one_way =
      let head = same_head x y xs ys sorted.0 sorted_y.0 (there x (inl refl)) (back y (inl refl))
      one_way in
      let tail = one_sorted_list xs ys sorted.1 sorted_y.1
      (λ z at. in_tail x y z xs ys head sorted.0 one_way at (there z (inr at)))
      (λ z at. in_tail y x z ys xs (sym head) sorted_y.0
      (λ a b at_a at_b. one_way a b (back a at_a) (back b at_b)) at (back z (inr at)))
      (λ a b at_a at_b. one_way a b (inr at_a) (inr at_b)) in
      ap₂ (λ z zs. z ∷ zs) head tail

  -- so two orders of one list that are sorted strictly are one
  pub one_sorted_order : (xs ys zs : List X) → IsPermutation xs zs → IsPermutation ys zs
      → AllOfTwo R xs → AllOfTwo R ys → IsOneWay zs → xs ≡ ys
  one_sorted_order xs ys zs of_xs of_ys sorted sorted_y one_way =
      one_sorted_list xs ys sorted sorted_y
      (λ z at. stands_permuted z zs ys (IsPermutation-sym ys zs of_ys) (stands_permuted z xs zs of_xs at))
      (λ z at. stands_permuted z zs xs (IsPermutation-sym xs zs of_xs) (stands_permuted z ys zs of_ys at))
      (λ a b at_a at_b.
      one_way a b (stands_permuted a xs zs of_xs at_a) (stands_permuted b xs zs of_xs at_b))
