-- The label behind a position is told by the numbers of the products that are present.

use Rattle.std.proofs.Common.{◌≡◌, refl, sym, ap, ap₂, ◌∙◌, subst, arith, inl, inr, ℕ, ◌<◌, ◌≤◌, ◌==◌, ℤ}
use Rattle.std.proofs.Common.{Bool, true, false, cond, ◌&&◌, IsTrue, nat_le, List, [], ◌∷◌, Option, Some, None}
use Rattle.std.specs.List.{find}
use Rattle.std.specs.Option.{option_map}
use Rattle.std.proofs.lemmas.Bool.{and_parts, and_from, eq-eqb, eqb-true, ne_eqb, false≢true, leb-true, leb-false}
use Rattle.std.proofs.lemmas.Option.{none-some}
use Rattle.theory_lists.specs.Members.{Stands, AllOfTwo}
use Rattle.theory_lists.proofs.Members.{all_stands, any_stands, one_of_any}
use Rattle.sb_fraction.specs.Spots.{Vector}
use Rattle.sb_model.specs.declared.labels.label.Label.{Label}
use Rattle.sb_model.specs.declared.products.Space.{Space}
use Rattle.sb_model.specs.declared.products.Element.{Element}
use Rattle.sb_model.specs.Building.{Building, is_building}
use Rattle.sb_model.specs.Labels.{lowest, lower_of}
use Rattle.sb_model.specs.PlanEdges.{PlanEdge}
use Rattle.theory_models.proofs.NumbersApart.{own_numbers}
use Rattle.theory_sight.specs.Coarse.{space_or, element_or}
use Rattle.theory_gaps.specs.Gaps.{is_present}
use Rattle.theory_gaps.specs.Borders.{reaches_on, open_behind, label_behind}
use Rattle.sb_walk.specs.Present.{Rise, is_one_of, ArePresent}
use Rattle.sb_walk.specs.Behind.{is_space_on, is_element_on, label_of, label_on}

-- ---- the first of rising numbers

-- it passes, and of all that pass it is the least
abbrev IsLeast : (ℕ → Bool) → List ℕ → Option ℕ → Type 0
IsLeast test list (Some k) =
    (Stands k list × (test k ≡ true)) × ((j : ℕ) → Stands j list → test j ≡ true → k ≤ j)
IsLeast test list None = (j : ℕ) → Stands j list → test j ≡ true → ⊥

least_found : (test : ℕ → Bool) (list : List ℕ) → Rise list → IsLeast test list (find test list)
least_found test [] rise = λ j at passes. at
least_found test (k ∷ list) rise = by (test k) refl (find test list) (least_found test list rise.1)
  where
    not_here : test k ≡ false → (j : ℕ) → j ≡ k → test j ≡ true → ⊥
    not_here fails j same passes = false≢true (sym fails ∙ sym (ap test same) ∙ passes)

    least : (j : ℕ) → Stands j (k ∷ list) → k ≤ j
    least j (inl same) = omega (arith, same)
    least j (inr later) = let less = all_stands (λ x. k < x) j list rise.0 later in omega arith

    by : (b : Bool) → test k ≡ b → (o : Option ℕ) → IsLeast test list o
        → IsLeast test (k ∷ list) (cond b (Some k) o)
    by true passes o rest = ((inl refl, passes), λ j at j_passes. least j at)
    by false fails (Some i) rest = ((inr rest.0.0, rest.0.1), others)
      where
        others : (j : ℕ) → Stands j (k ∷ list) → test j ≡ true → i ≤ j
        others j (inl same) passes = absurd (not_here fails j same passes)
        others j (inr later) passes = rest.1 j later passes
    by false fails None rest = none
      where
        none : (j : ℕ) → Stands j (k ∷ list) → test j ≡ true → ⊥
        none j (inl same) passes = not_here fails j same passes
        none j (inr later) passes = rest j later passes

-- ---- the lowest-numbered item

module _ {X : Type 0} (number : X → ℕ) where
  abbrev IsLowest : (X → Bool) → List X → Option X → Type 0
  IsLowest test xs (Some x) =
      (Stands x xs × (test x ≡ true)) × ((y : X) → Stands y xs → test y ≡ true → number x ≤ number y)
  IsLowest test xs None = (y : X) → Stands y xs → test y ≡ true → ⊥

  lowest_is : (test : X → Bool) (xs : List X) → IsLowest test xs (lowest number test xs)
  lowest_is test [] = λ y at passes. at
  lowest_is test (x ∷ xs) = by (test x) refl (lowest number test xs) (lowest_is test xs)
    where
      not_here : test x ≡ false → (y : X) → y ≡ x → test y ≡ true → ⊥
      not_here fails y same passes = false≢true (sym fails ∙ sym (ap test same) ∙ passes)

      by : (b : Bool) → test x ≡ b → (o : Option X) → IsLowest test xs o
          → IsLowest test (x ∷ xs) (cond b (Some (lower_of number x o)) o)
      by true passes None rest = ((inl refl, passes), least)
        where
          least : (y : X) → Stands y (x ∷ xs) → test y ≡ true → number x ≤ number y
          least y (inl same) y_passes = let n = ap number same in omega arith
          least y (inr later) y_passes = absurd (rest y later y_passes)
      by true passes (Some z) rest = of_two (nat_le (number x) (number z)) refl
        where
          of_two : (b : Bool) → nat_le (number x) (number z) ≡ b
              → IsLowest test (x ∷ xs) (Some (cond b x z))
          of_two true less = ((inl refl, passes), least)
            where
              least : (y : X) → Stands y (x ∷ xs) → test y ≡ true → number x ≤ number y
              least y (inl same) y_passes = let n = ap number same in omega arith
              least y (inr later) y_passes =
                  let first = leb-true (number x) (number z) less in
                  let second = rest.1 y later y_passes in
                  omega arith
          of_two false more = ((inr rest.0.0, rest.0.1), least)
            where
              least : (y : X) → Stands y (x ∷ xs) → test y ≡ true → number z ≤ number y
              least y (inl same) y_passes =
                  let n = ap number same in
                  let first = leb-false (number x) (number z) more in
                  omega arith
              least y (inr later) y_passes = rest.1 y later y_passes
      by false fails (Some z) rest = ((inr rest.0.0, rest.0.1), others)
        where
          others : (y : X) → Stands y (x ∷ xs) → test y ≡ true → number z ≤ number y
          others y (inl same) passes = absurd (not_here fails y same passes)
          others y (inr later) passes = rest.1 y later passes
      by false fails None rest = none
        where
          none : (y : X) → Stands y (x ∷ xs) → test y ≡ true → ⊥
          none y (inl same) passes = not_here fails y same passes
          none y (inr later) passes = rest y later passes

  -- ---- by numbers

  -- of items by rising numbers the one that stands there is found
  pub found_there : (x : X) (xs : List X) → AllOfTwo (λ y z. number y < number z) xs → Stands x xs
      → find (λ y. number y == number x) xs ≡ Some x
  found_there x [] rise there = absurd there
  found_there x (y ∷ ys) rise (inl here) =
      ap (λ b. cond b (Some y) (find (λ z. number z == number x) ys))
      (eq-eqb (number y) (number x) (ap number (sym here)))
      ∙ ap Some (sym here)
  found_there x (y ∷ ys) rise (inr later) =
      let less = all_stands (λ z. number y < number z) x ys rise.0 later in
      ap (λ b. cond b (Some y) (find (λ z. number z == number x) ys))
      (ne_eqb (number y) (number x) (λ same. omega arith))
      ∙ found_there x ys rise.1 later

  -- what is found stands there and has the number
  found_is : (k : ℕ) (xs : List X) (x : X) → find (λ y. number y == k) xs ≡ Some x
      → Stands x xs × (number x ≡ k)
  found_is k [] x found = absurd (none-some x found)
  found_is k (y ∷ ys) x found = by (number y == k) refl (found_is k ys x) found
    where
      by : (b : Bool) → (number y == k) ≡ b
          → (find (λ z. number z == k) ys ≡ Some x → Stands x ys × (number x ≡ k))
          → cond b (Some y) (find (λ z. number z == k) ys) ≡ Some x
          → Stands x (y ∷ ys) × (number x ≡ k)
      by true is later same =
          let one : y ≡ x = cc in (inl (sym one), ap number (sym one) ∙ eqb-true (number y) k is)
      by false is later same = let rest = later same in (inr rest.0, rest.1)

  module _ (test : X → Bool) (on : Option X → Bool) (on_none : on None ≡ false)
      (on_some : (x : X) → on (Some x) ≡ test x) (xs : List X)
      (rise : AllOfTwo (λ y z. number y < number z) xs) (there : ℕ → Bool) (present : List ℕ)
      (present_rise : Rise present) (each : (k : ℕ) → is_one_of present k ≡ there k) where
    found : ℕ → Option X
    found k = find (λ y. number y == k) xs

    abbrev passes : X → Bool
    passes x = there (number x) && test x

    -- a number that passes is that of an item
    of_number : (k : ℕ) → Stands k present → on (find (λ y. number y == k) xs) ≡ true
        → (x : X) × (Stands x xs × ((number x ≡ k) × (passes x ≡ true)))
    of_number k k_in is = by (find (λ y. number y == k) xs) refl is
      where
        here : there k ≡ true
        here = sym (each k) ∙ any_stands (λ j. j == k) k present k_in (eq-eqb k k refl)

        by : (o : Option X) → find (λ y. number y == k) xs ≡ o → on o ≡ true
            → (x : X) × (Stands x xs × ((number x ≡ k) × (passes x ≡ true)))
        by None none answer = absurd (false≢true (sym on_none ∙ answer))
        by (Some x) some answer =
            let at = found_is k xs x some in (
              x,
              (
                at.0,
                (
                  at.1,
                  and_from (there (number x)) (test x) (ap there at.1 ∙ here) (sym (on_some x) ∙ answer),
                ),
              ),
            )

    -- and an item that passes has such a number
    of_item : (x : X) → Stands x xs → passes x ≡ true
        → Stands (number x) present × (on (find (λ y. number y == number x) xs) ≡ true)
    of_item x x_in is =
        let parts = and_parts (there (number x)) (test x) is in (
          stands (one_of_any (λ j. j == number x) present (each (number x) ∙ parts.0)),
          ap on (found_there x xs rise x_in) ∙ on_some x ∙ parts.1,
        )
      where
        stands : (j : ℕ) × (Stands j present × ((j == number x) ≡ true)) → Stands (number x) present
        stands (j, (j_in, same)) = subst (λ i. Stands i present) (eqb-true j (number x) same) j_in

    first_is_lowest : find (λ k. on (find (λ y. number y == k) xs)) present
        ≡ option_map number (lowest number passes xs)
    first_is_lowest =
        by (find (λ k. on (find (λ y. number y == k) xs)) present)
        (least_found (λ k. on (find (λ y. number y == k) xs)) present present_rise)
        (lowest number passes xs) (lowest_is passes xs)
      where
        test_on : ℕ → Bool
        test_on k = on (find (λ y. number y == k) xs)

        by : (o : Option ℕ) → IsLeast (λ k. on (find (λ y. number y == k) xs)) present o
            → (r : Option X) → IsLowest passes xs r → o ≡ option_map number r
        by (Some k) least (Some x) low =
            let of = of_number k least.0.0 least.0.1 in
            let back = of_item x low.0.0 low.0.1 in
            let up = least.1 (number x) back.0 back.1 in
            let down = low.1 of.0 of.1.0 of.1.1.1 in
            let same = of.1.1.0 in
            ap Some (omega arith)
        by (Some k) least None low =
            let of = of_number k least.0.0 least.0.1 in absurd (low of.0 of.1.0 of.1.1.1)
        by None least (Some x) low =
            let back = of_item x low.0.0 low.0.1 in absurd (least (number x) back.0 back.1)
        by None least None low = refl

-- ---- labels

label_of_both : (s : Option Space) (e : Option Element) (bare : Label)
    → label_of (option_map (λ (x : Space). x.number) s) (option_map (λ (x : Element). x.number) e) bare
    ≡ space_or (element_or bare e) s
label_of_both (Some s) e bare = refl
label_of_both None (Some e) bare = refl
label_of_both None None bare = refl

-- the label by the numbers is that of the gap
pub label_is : (m : Building) → IsTrue (is_building m) → (n : Vector) (passed : List PlanEdge)
    (present : List ℕ) → ArePresent passed present → (z : ℤ)
    → label_on m n present z ≡ label_behind m n passed z
label_is m valid n passed present are z =
    ap₂ (λ s e. label_of s e (open_behind n m.ground_height z))
    (first_is_lowest (λ (s : Space). s.number) (λ s. reaches_on n z s.prism) (is_space_on n z) refl
    (λ s. refl) m.spaces ((own_numbers m valid).spaces.rise) (is_present passed) present are.rise
    are.each)
    (first_is_lowest (λ (e : Element). e.number) (λ e. reaches_on n z e.prism) (is_element_on n z) refl
    (λ e. refl) m.elements ((own_numbers m valid).elements.rise) (is_present passed) present are.rise
    are.each)
    ∙ label_of_both
    (lowest (λ s. s.number) (λ s. is_present passed s.number && reaches_on n z s.prism) m.spaces)
    (lowest (λ e. e.number) (λ e. is_present passed e.number && reaches_on n z e.prism) m.elements)
    (open_behind n m.ground_height z)
