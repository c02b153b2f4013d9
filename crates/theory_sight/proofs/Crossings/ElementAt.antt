-- A point with the label of an element: the element has this number, the point lies inside it, and the
-- layer is the one that contains the point.
use Rattle.std.proofs.Common.{◌≡◌, inl, inr, refl, sym, ap, ◌∙◌, arith, ℕ, ◌<◌, ◌==◌, Bool, true, false, cond}
use Rattle.std.proofs.Common.{IsTrue, nat_le, List, [], ◌∷◌, Option, Some, None}
use Rattle.std.proofs.lemmas.Bool.{eq-eqb, ne_eqb}
use Rattle.std.proofs.lemmas.Option.{none-some}
use Rattle.std.specs.List.{find}
use Rattle.theory_lists.specs.Members.{Stands, AllOfTwo}
use Rattle.theory_lists.proofs.Members.{all_stands}
use Rattle.sb_fraction.specs.Spots.{Spot}
use Rattle.sb_model.specs.declared.labels.label.Label.{Label}
use Rattle.sb_model.specs.declared.labels.label.Label.TheVariants as label
use Rattle.sb_model.specs.declared.products.Space.{Space}
use Rattle.sb_model.specs.declared.products.Element.{Element}
use Rattle.sb_model.specs.Solids.{is_in_solid}
use Rattle.sb_model.specs.Building.{Building, is_building}
use Rattle.sb_model.specs.Labels.{lower_of, lowest, layer_at, label_at, space_at, element_at}
use Rattle.sb_model.specs.Labels.{space_label, element_label, open_label}
use Rattle.sb_model.specs.Walks.{element_numbered}
use Rattle.theory_models.proofs.NumbersApart.{own_numbers}
use Rattle.theory_sight.specs.Coarse.{coarse, IsOpen}
use Rattle.theory_sight.proofs.Stacked.{open_is_open}

-- the lowest item stands in the list and passes
lowest_stands : {X : Type 0} (number : X → ℕ) (test : X → Bool) (xs : List X) (x : X)
    → lowest number test xs ≡ Some x → Stands x xs × (test x ≡ true)
lowest_stands number test [] x found = absurd (none-some x found)
lowest_stands {X} number test (y ∷ ys) x found =
    by (test y) (lowest number test ys) refl (lowest_stands number test ys) found
  where
    of_two : (o : Option X) → test y ≡ true
        → ((z : X) → o ≡ Some z → Stands z ys × (test z ≡ true))
        → Some (lower_of number y o) ≡ Some x → Stands x (y ∷ ys) × (test x ≡ true)
    of_two None passes later same = let e : y ≡ x = cc in (inl (sym e), rw (sym e) passes)
    of_two (Some z) passes later same = by_order (nat_le (number y) (number z)) same
      where
        by_order : (b : Bool) → Some (cond b y z) ≡ Some x → Stands x (y ∷ ys) × (test x ≡ true)
        by_order true same = let e : y ≡ x = cc in (inl (sym e), rw (sym e) passes)
        by_order false same =
            let e : z ≡ x = cc in
            let at = later x (ap Some e) in (inr at.0, at.1)

    by : (b : Bool) (o : Option X) → test y ≡ b
        → ((z : X) → o ≡ Some z → Stands z ys × (test z ≡ true))
        → cond b (Some (lower_of number y o)) o ≡ Some x → Stands x (y ∷ ys) × (test x ≡ true)
    by true o passes later same = of_two o passes later same
    by false o fails later same = let at = later x same in (inr at.0, at.1)

-- of items in order of number the one that stands there is found by its number
found_by_number : {X : Type 0} (number : X → ℕ) (x : X) (xs : List X)
    → AllOfTwo (λ y z. number y < number z) xs → Stands x xs
    → find (λ y. number y == number x) xs ≡ Some x
found_by_number number x [] rise stands = absurd stands
found_by_number number x (y ∷ ys) rise (inl here) =
    ap (λ b. cond b (Some y) (find (λ z. number z == number x) ys))
    (eq-eqb (number y) (number x) (ap number (sym here)))
    ∙ ap Some (sym here)
found_by_number number x (y ∷ ys) rise (inr later) =
    let less = all_stands (λ z. number y < number z) x ys rise.0 later in
    ap (λ b. cond b (Some y) (find (λ z. number z == number x) ys))
    (ne_eqb (number y) (number x) (λ same. omega arith))
    ∙ found_by_number number x ys rise.1 later

-- the element at a point
pub record IsElementAt (m : Building) (p : Spot) (k layer : ℕ) : Type 0 where
  pub element : Element
  pub numbered : element_numbered m k ≡ Some element
  pub number_is : element.number ≡ k
  pub stands : Stands element m.elements
  pub inside : is_in_solid element.prism p ≡ true
  pub layer_is : layer ≡ layer_at element.prism element.layering p

-- a label of an element says that it is there
pub element_is_at : (m : Building) → IsTrue (is_building m) → (p : Spot) (k layer : ℕ)
    → label_at m p ≡ label.Element k layer → IsElementAt m p k layer
element_is_at m is p k layer found = of_space (space_at m p) found
  where
    not_open : (l : Label) → IsOpen l → l ≡ label.Element k layer → ⊥
    not_open label.Earth l_is same = cc
    not_open label.Void l_is same = cc
    not_open (label.Space n) l_is same = l_is
    not_open (label.Element n other) l_is same = l_is

    numbered : (e : Element) → Stands e m.elements → e.number ≡ k → element_numbered m k ≡ Some e
    numbered e stands same =
        ap (λ n. find (λ x. x.number == n) m.elements) (sym same)
        ∙ found_by_number (λ x. x.number) e m.elements ((own_numbers m is).elements.rise) stands

    of_element : (o : Option Element) → element_at m p ≡ o
        → element_label m.ground_height p o ≡ label.Element k layer → IsElementAt m p k layer
    of_element None none same =
        absurd
        (not_open (open_label m.ground_height p) (open_is_open m.ground_height p) same)
    of_element (Some e) there same =
        let number : e.number ≡ k = cc in
        let layer_is : layer_at e.prism e.layering p ≡ layer = cc in
        let at =
        lowest_stands (λ x. x.number) (λ x. is_in_solid x.prism p) m.elements e there
        in
        record {
          element = e;
          numbered = numbered e at.0 number;
          number_is = number;
          stands = at.0;
          inside = at.1;
          layer_is = sym layer_is;
        }

    of_space : (o : Option Space) → space_label m p o ≡ label.Element k layer
        → IsElementAt m p k layer
    of_space None same = of_element (element_at m p) refl same
    of_space (Some s) same = absurd (clash same)
      where
        clash : label.Space s.number ≡ label.Element k layer → ⊥
        clash same = cc

-- a coarse label of an element is that of one of its layers
pub coarse_element : (l : Label) (k : ℕ) → coarse l ≡ label.Element k 0
    → (layer : ℕ) × (l ≡ label.Element k layer)
coarse_element (label.Space n) k same = absurd (clash same)
  where
    clash : label.Space n ≡ label.Element k 0 → ⊥
    clash same = cc
coarse_element (label.Element n layer) k same =
    let number : n ≡ k = cc in (layer, ap (λ j. label.Element j layer) number)
coarse_element label.Earth k same = absurd (clash same)
  where
    clash : label.Earth ≡ label.Element k 0 → ⊥
    clash same = cc
coarse_element label.Void k same = absurd (clash same)
  where
    clash : label.Void ≡ label.Element k 0 → ⊥
    clash same = cc
