-- The numbers of a model are apart: in each list they rise from 1 on, no number stands in two lists,
-- and the products in order of number rise strictly.

use Rattle.std.proofs.Common.{◌≡◌, ◌⊎◌, inl, inr, refl, ap, sym, ◌∙◌, arith, ℕ}
use Rattle.std.proofs.Common.{◌<◌, ◌≤◌, ◌==◌, Bool, true, false, not, ◌||◌, IsTrue, List, [], ◌∷◌}
use Rattle.std.proofs.Common.{◌++◌, map, nat_lt, nat_le, Option, Some, None, is_none}
use Rattle.std.proofs.Common.{if◌then◌else◌}
use Rattle.std.specs.List.{AllByRecursion}
use Rattle.std.proofs.lemmas.Bool.{and_parts, or_parts, ltb-true}
use Rattle.std.proofs.lemmas.Bool.{false≢true, eq-eqb, leb-true, leb-false}
use Rattle.std.proofs.lemmas.Option.{none-some}
use Rattle.theory_lists.specs.Members.{Stands, AllOfTwo}
use Rattle.theory_lists.proofs.Members.{all_follow, all_images, one_or_two}
use Rattle.theory_lists.proofs.Blocks.{stands_before, stands_behind, all-append, two-append}
use Rattle.sb_model.specs.declared.products.Space.{Space}
use Rattle.sb_model.specs.declared.products.Element.{Element}
use Rattle.sb_model.specs.declared.products.Opening.{Opening}
use Rattle.sb_model.specs.Building.{Building, is_building, is_in_range, first_bad, first_wrong}
use Rattle.sb_model.specs.Building.{or_else, has_number, is_space, is_element, is_opening}
use Rattle.sb_model.specs.Building.{is_filling}
use Rattle.sb_model.specs.PlanEdges.{Product, product, placed, in_order, products_of}

-- ---- one list

-- a list without a wrong number: they rise from a number on, and no item is wrong otherwise
pub record AreRight {X : Type 0} (number : X → ℕ) (is_wrong : X → Bool) (before : ℕ) (xs : List X)
    : Type 0 where
  pub above : AllByRecursion (λ x. before < number x) xs
  pub rise : AllOfTwo (λ x y. number x < number y) xs
  pub right : AllByRecursion (λ x. is_wrong x ≡ false) xs

first_is_right : (wrong : Bool) (n : ℕ) (rest : Option ℕ)
    → (if wrong then Some n else rest) ≡ None → (wrong ≡ false) × (rest ≡ None)
first_is_right true n rest none = absurd (none-some n (sym none))
first_is_right false n rest none = (refl, none)

not_false : (b : Bool) → not b ≡ false → b ≡ true
not_false true is = refl
not_false false is = absurd (false≢true (sym is))

-- where the first wrong number is none
pub are_right : {X : Type 0} (number : X → ℕ) (is_wrong : X → Bool) (before : ℕ) (xs : List X)
    → first_wrong number is_wrong before xs ≡ None → AreRight number is_wrong before xs
are_right number is_wrong before [] none = record { above = tt; rise = tt; right = tt }
are_right number is_wrong before (x ∷ xs) none =
    let parts = first_is_right (not (nat_lt before (number x)) || is_wrong x) (number x)
    (first_wrong number is_wrong (number x) xs) none in
    let both = or_parts (not (nat_lt before (number x))) (is_wrong x) parts.0 in
    let less : before < number x = ltb-true _ _ (not_false _ both.0) in
    let later = are_right number is_wrong (number x) xs parts.1 in
    record {
      above = (less, all_follow (λ y more. trans less more) xs later.above);
      rise = (later.above, later.rise);
      right = (both.1, later.right);
    }
  where
    trans : {k l n : ℕ} → k < l → l < n → k < n
    trans first second = omega arith

-- ---- the lists of a model

neither : (a b : Option ℕ) → or_else a b ≡ None → (a ≡ None) × (b ≡ None)
neither None b none = (refl, none)
neither (Some n) b none = absurd (none-some n (sym none))

none_from : (o : Option ℕ) → is_none o ≡ true → o ≡ None
none_from None is = refl
none_from (Some n) is = absurd (false≢true is)

-- what the test of the numbers of a model says of its four lists
pub record HasOwnNumbers (m : Building) : Type 0 where
  pub spaces : AreRight (λ s. s.number)
      (λ s. is_element m s.number || is_opening m s.number || is_filling m s.number) 0 m.spaces
  pub elements : AreRight (λ e. e.number)
      (λ e. is_space m e.number || is_opening m e.number || is_filling m e.number) 0 m.elements
  pub openings : AreRight (λ o. o.number)
      (λ o. is_space m o.number || is_element m o.number || is_filling m o.number
      || not (is_element m o.element)) 0 m.openings
  pub fillings : AreRight (λ f. f.number)
      (λ f. is_space m f.number || is_element m f.number || is_opening m f.number
      || not (is_opening m f.opening)) 0 m.fillings

-- in a model the numbers of each list rise from 1 on, none stands in two lists, and what an opening
-- or a filling names is there
pub own_numbers : (m : Building) → IsTrue (is_building m) → HasOwnNumbers m
own_numbers m is =
    let none = none_from (first_bad m) (and_parts (is_in_range m) (is_none (first_bad m)) is).1 in
    let first = neither (first_wrong (λ s. s.number)
    (λ s. is_element m s.number || is_opening m s.number || is_filling m s.number) 0 m.spaces) _
    none in
    let second = neither (first_wrong (λ e. e.number)
    (λ e. is_space m e.number || is_opening m e.number || is_filling m e.number) 0 m.elements) _
    first.1 in
    let third = neither (first_wrong (λ o. o.number)
    (λ o. is_space m o.number || is_element m o.number || is_filling m o.number
    || not (is_element m o.element)) 0 m.openings) _ second.1 in
    record {
      spaces = are_right _ _ 0 m.spaces first.0;
      elements = are_right _ _ 0 m.elements second.0;
      openings = are_right _ _ 0 m.openings third.0;
      fillings = are_right _ _ 0 m.fillings third.1;
    }

-- ---- products

-- the two have different numbers
abbrev pub AreOther : Product → Product → Type 0
AreOther p q = p.number ≡ q.number → ⊥

-- the first has the lesser number
abbrev pub IsLesser : Product → Product → Type 0
IsLesser p q = p.number < q.number

-- no item has the number
none_numbered : {X : Type 0} (number : X → ℕ) (xs : List X) (n : ℕ)
    → has_number number xs n ≡ false → AllByRecursion (λ x. n ≡ number x → ⊥) xs
none_numbered number [] n none = tt
none_numbered number (x ∷ xs) n none =
    let parts = or_parts (number x == n) (has_number number xs n) none in (
      λ same. false≢true (sym parts.0 ∙ eq-eqb (number x) n (sym same)),
      none_numbered number xs n parts.1,
    )

-- rising items give products with different numbers
others_made : {X : Type 0} (made : X → Product) (xs : List X)
    → AllOfTwo (λ x y. (made x).number < (made y).number) xs → AllOfTwo AreOther (map made xs)
others_made made [] rise = tt
others_made {X} made (x ∷ xs) rise = (from xs rise.0, others_made made xs rise.1)
  where
    apart : {k l : ℕ} → k < l → k ≡ l → ⊥
    apart less same = omega arith

    from : (ys : List X) → AllByRecursion (λ y. (made x).number < (made y).number) ys
        → AllByRecursion (AreOther (made x)) (map made ys)
    from ys less =
        all_images (AreOther (made x)) made ys (all_follow (λ y more. apart more) ys less)

-- and so do items whose numbers do not stand in the other list
others_across : {X Y : Type 0} (made : X → Product) (to : Y → Product) (xs : List X) (ys : List Y)
    → AllByRecursion (λ x. has_number (λ y. (to y).number) ys (made x).number ≡ false) xs
    → AllByRecursion (λ p. AllByRecursion (AreOther p) (map to ys)) (map made xs)
others_across made to xs ys none =
    all_images (λ p. AllByRecursion (AreOther p) (map to ys)) made xs
    (all_follow (λ x absent. all_images (AreOther (made x)) to ys
    (none_numbered (λ y. (to y).number) ys (made x).number absent)) xs none)

-- the three kinds of products
abbrev pub of_space : Space → Product
of_space s = product s.number s.prism

-- an element
abbrev pub of_element : Element → Product
of_element e = product e.number e.prism

-- an opening
abbrev pub of_opening : Opening → Product
of_opening o = product o.number o.prism

first_of : (a b c : Bool) → (a || b || c) ≡ false → a ≡ false
first_of a b c none = (or_parts a b (or_parts (a || b) c none).0).0

second_of : (a b c : Bool) → (a || b || c) ≡ false → b ≡ false
second_of a b c none = (or_parts a b (or_parts (a || b) c none).0).1

-- the products of the three lists, one after another, have different numbers
others_in_lists : (m : Building) → HasOwnNumbers m
    → AllOfTwo AreOther (map of_space m.spaces ++ map of_element m.elements
    ++ map of_opening m.openings)
others_in_lists m own =
    let spaces = map of_space m.spaces in
    let elements = map of_element m.elements in
    let openings = map of_opening m.openings in
    two-append AreOther (spaces ++ elements) openings
    (two-append AreOther spaces elements (others_made of_space m.spaces own.spaces.rise)
    (others_made of_element m.elements own.elements.rise)
    (others_across of_space of_element m.spaces m.elements
    (all_follow (λ s none. first_of _ _ _ none) m.spaces own.spaces.right)))
    (others_made of_opening m.openings own.openings.rise)
    (all-append (λ p. AllByRecursion (AreOther p) openings) spaces elements
    (others_across of_space of_opening m.spaces m.openings
    (all_follow (λ s none. second_of _ _ _ none) m.spaces own.spaces.right))
    (others_across of_element of_opening m.elements m.openings
    (all_follow (λ e none. second_of _ _ _ none) m.elements own.elements.right)))

-- ---- the order of products

-- what holds of a product and of a list holds of the list with the product in it
pub all_placed : (P : Product → Type 0) (p : Product) (qs : List Product) → P p
    → AllByRecursion P qs → AllByRecursion P (placed p qs)
all_placed P p [] holds all = (holds, tt)
all_placed P p (q ∷ qs) holds all =
    from (nat_le p.number q.number) (all_placed P p qs holds all.1)
  where
    from : (b : Bool) → AllByRecursion P (placed p qs)
        → AllByRecursion P (if b then p ∷ q ∷ qs else q ∷ placed p qs)
    from true rest = (holds, all)
    from false rest = (all.0, rest)

-- what holds of all products holds of them in order
pub all_in_order : (P : Product → Type 0) (ps : List Product) → AllByRecursion P ps
    → AllByRecursion P (in_order ps)
all_in_order P [] all = tt
all_in_order P (p ∷ ps) all = all_placed P p (in_order ps) all.0 (all_in_order P ps all.1)

rise_placed : (p : Product) (qs : List Product) → AllByRecursion (AreOther p) qs
    → AllOfTwo IsLesser qs → AllOfTwo IsLesser (placed p qs)
rise_placed p [] others rise = (tt, tt)
rise_placed p (q ∷ qs) others rise =
    from (nat_le p.number q.number) refl (rise_placed p qs others.1 rise.1)
  where
    lesser : {k l : ℕ} → k ≤ l → (k ≡ l → ⊥) → k < l
    lesser most other = omega arith

    trans : {k l n : ℕ} → k < l → l < n → k < n
    trans first second = omega arith

    from : (b : Bool) → nat_le p.number q.number ≡ b → AllOfTwo IsLesser (placed p qs)
        → AllOfTwo IsLesser (if b then p ∷ q ∷ qs else q ∷ placed p qs)
    from true test rest =
        let less : p.number < q.number = lesser (leb-true _ _ test) others.0 in
        ((less, all_follow (λ r more. trans less more) qs rise.0), rise)
    from false test rest =
        (all_placed (IsLesser q) p qs (leb-false p.number q.number test) rise.0, rest)

rise_in_order : (ps : List Product) → AllOfTwo AreOther ps → AllOfTwo IsLesser (in_order ps)
rise_in_order [] others = tt
rise_in_order (p ∷ ps) others =
    rise_placed p (in_order ps) (all_in_order (AreOther p) ps others.0)
    (rise_in_order ps others.1)

-- the numbers of the products of a model, in order, rise strictly
pub products_rise : (m : Building) → IsTrue (is_building m) → AllOfTwo IsLesser (products_of m)
products_rise m is = rise_in_order _ (others_in_lists m (own_numbers m is))

lesser_are_other : (ps : List Product) → AllOfTwo IsLesser ps → AllOfTwo AreOther ps
lesser_are_other [] rise = tt
lesser_are_other (p ∷ ps) rise =
    (all_follow (λ q less. apart less) ps rise.0, lesser_are_other ps rise.1)
  where
    apart : {k l : ℕ} → k < l → k ≡ l → ⊥
    apart less same = omega arith

-- so no two products of a model have one number
pub numbers_are_apart : (m : Building) → IsTrue (is_building m) → AllOfTwo AreOther (products_of m)
numbers_are_apart m is = lesser_are_other (products_of m) (products_rise m is)

-- products of one number are one product
pub one_product : (m : Building) → IsTrue (is_building m) → (p q : Product)
    → Stands p (products_of m) → Stands q (products_of m) → p.number ≡ q.number → p ≡ q
one_product m is p q at_p at_q same =
    from (one_or_two AreOther p q (products_of m) (numbers_are_apart m is) at_p at_q)
  where
    from : (p ≡ q) ⊎ (AreOther p q ⊎ AreOther q p) → p ≡ q
    from (inl one) = one
    from (inr (inl other)) = absurd (other same)
    from (inr (inr other)) = absurd (other (sym same))

-- ---- where products stand

stands_placed : (x p : Product) (qs : List Product) → Stands x (p ∷ qs) → Stands x (placed p qs)
stands_placed x p [] stands = stands
stands_placed x p (q ∷ qs) stands =
    from (nat_le p.number q.number) (behind stands (stands_placed x p qs)) stands
  where
    behind : (x ≡ p) ⊎ ((x ≡ q) ⊎ Stands x qs) → (Stands x (p ∷ qs) → Stands x (placed p qs))
        → (x ≡ q) ⊎ Stands x (placed p qs)
    behind (inl same) later_is = inr (later_is (inl same))
    behind (inr (inl same)) later_is = inl same
    behind (inr (inr later)) later_is = inr (later_is (inr later))

    from : (b : Bool) → (x ≡ q) ⊎ Stands x (placed p qs) → Stands x (p ∷ q ∷ qs)
        → Stands x (if b then p ∷ q ∷ qs else q ∷ placed p qs)
    from true moved here = here
    from false moved here = moved

-- a product stands among the products in order
pub stands_in_order : (x : Product) (ps : List Product) → Stands x ps → Stands x (in_order ps)
stands_in_order x [] stands = absurd stands
stands_in_order x (p ∷ ps) (inl same) = stands_placed x p (in_order ps) (inl same)
stands_in_order x (p ∷ ps) (inr later) =
    stands_placed x p (in_order ps) (inr (stands_in_order x ps later))

stands_made : {X Y : Type 0} (f : X → Y) (x : X) (xs : List X) → Stands x xs
    → Stands (f x) (map f xs)
stands_made f x [] stands = absurd stands
stands_made f x (y ∷ xs) (inl same) = inl (ap f same)
stands_made f x (y ∷ xs) (inr later) = inr (stands_made f x xs later)

-- each space is a product of the model
pub space_stands : (m : Building) (s : Space) → Stands s m.spaces
    → Stands (of_space s) (products_of m)
space_stands m s at =
    stands_in_order (of_space s) _
    (stands_before (of_space s) (map of_space m.spaces ++ map of_element m.elements) _
    (stands_before (of_space s) (map of_space m.spaces) _ (stands_made of_space s m.spaces at)))

-- each element is
pub element_stands : (m : Building) (e : Element) → Stands e m.elements
    → Stands (of_element e) (products_of m)
element_stands m e at =
    stands_in_order (of_element e) _
    (stands_before (of_element e) (map of_space m.spaces ++ map of_element m.elements) _
    (stands_behind (of_element e) (map of_space m.spaces) _
    (stands_made of_element e m.elements at)))

-- and each opening
pub opening_stands : (m : Building) (o : Opening) → Stands o m.openings
    → Stands (of_opening o) (products_of m)
opening_stands m o at =
    stands_in_order (of_opening o) _
    (stands_behind (of_opening o) (map of_space m.spaces ++ map of_element m.elements) _
    (stands_made of_opening o m.openings at))
