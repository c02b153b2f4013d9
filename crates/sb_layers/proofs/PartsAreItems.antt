-- The crossed parts of the bands, one after another, are the items of the crossing.

use Rattle.std.proofs.Common.{◌≡◌, refl, sym, ap, ap₂, ◌∙◌, arith, subst, subst₂, ℕ, ◌+◌, ◌<◌, ◌≤◌, ◌==◌}
use Rattle.std.proofs.Common.{ℤ, pos, ◌+ℤ◌, ◌-ℤ◌, ◌*ℤ◌, ◌<ℤ◌, ◌≤ℤ◌, Bool, true, false, cond, int_lt, IsTrue}
use Rattle.std.proofs.Common.{List, [], ◌∷◌, ◌++◌, Option, Some, None, nat_le, nat_lt, ◌&&◌, ◌||◌}
use Rattle.std.proofs.lemmas.Int.{ints}
use Rattle.std.proofs.lemmas.Bool.{and_parts, eq-eqb, ne_eqb, ltb-true, leb-true}
use Rattle.std.specs.Int.{int_min, int_max}
use Rattle.std.specs.List.{AllByRecursion, find}
use Rattle.theory_numbers.specs.Arrows.{Arrow, cross}
use Rattle.theory_numbers.specs.Rationals.{IsRational, is_below, rational}
use Rattle.theory_numbers.specs.Fractions.{reduced}
use Rattle.theory_numbers.proofs.Shapes.{var, plus, minus, times, equal}
use Rattle.theory_numbers.proofs.Signs.{test_less, test_not_less, less_from, not_less_from}
use Rattle.theory_numbers.proofs.Products.{positive_product, positive_factor, scale_less, scale_at_most}
use Rattle.theory_numbers.proofs.Fractions.LowestTerms.{reduced_is_same, reduced_is_lowest, lowest_is_reduced}
use Rattle.theory_cuttings.specs.Cuttings.{Break}
use Rattle.theory_cuttings.specs.Changes.{label_after, breaks_after, breaks_before, break_at}
use Rattle.sb_fraction.specs.Spots.{Vector}
use Rattle.sb_model.specs.declared.layers.Layer.{Layer}
use Rattle.sb_model.specs.declared.products.Element.{Element}
use Rattle.sb_model.specs.declared.walk.Item.{Item}
use Rattle.sb_model.specs.Building.{are_layers, greatest_thickness}
use Rattle.sb_model.specs.Labels.{low_along, high_along, total_of}
use Rattle.sb_model.specs.Walks.{item, length_between, layer_item}
use Rattle.theory_sight.specs.Bands.{fraction, band_ends, layer_items, item_at, item_of_layer}
use Rattle.theory_sight.proofs.Crossings.BandsCut.{fraction_is_same, fraction_is_reduced, layer_is}
use Rattle.sb_layers.specs.declared.parts.Way.{Way}
use Rattle.sb_layers.specs.Parts.{end_behind, item_between, part_of, parts_of, way_of, parts_along}
use Rattle.sb_layers.proofs.SameFractions.{reduced_alike}

-- ---- layers are found by their index

-- each layer of the second list is the one that the first finds by its index
abbrev AllFound : List Layer → List Layer → Type 0
AllFound all ls = AllByRecursion (λ l. find (λ k. k.index == l.index) all ≡ Some l) ls

later_found : (l : Layer) (all ls : List Layer) (before : ℕ) → l.index ≤ before
    → are_layers before ls ≡ true → AllFound all ls → AllFound (l ∷ all) ls
later_found l all [] before above right found = tt
later_found l all (m ∷ ls) before above right found =
    let is = layer_is before m ls right in (
      ap (λ b. cond b (Some l) (find (λ k. k.index == m.index) all))
          (ne_eqb l.index m.index (λ same. omega (arith, same)))
          ∙ found.0,
      later_found l all ls m.index (omega arith) is.1 found.1,
    )

pub layers_found : (before : ℕ) (ls : List Layer) → are_layers before ls ≡ true → AllFound ls ls
layers_found before [] right = tt
layers_found before (l ∷ ls) right =
    let is = layer_is before l ls right in (
      ap (λ b. cond b (Some l) (find (λ k. k.index == l.index) ls)) (eq-eqb l.index l.index refl),
      later_found l ls ls l.index (omega arith) is.1 (layers_found l.index ls is.1),
    )

-- ---- places and positions

-- the greater and the lesser of two
greater_is_second : (a b : ℤ) → a ≤ℤ b → int_max a b ≡ b
greater_is_second a b less = grind (arith, ints)

greater_is_first : (a b : ℤ) → b ≤ℤ a → int_max a b ≡ a
greater_is_first a b less = grind (arith, ints)

lesser_is_second : (a b : ℤ) → b ≤ℤ a → int_min a b ≡ b
lesser_is_second a b less = grind (arith, ints)

lesser_is_first : (a b : ℤ) → a ≤ℤ b → int_min a b ≡ a
lesser_is_first a b less = grind (arith, ints)

at_most_greater : (a b : ℤ) → b ≤ℤ int_max a b
at_most_greater a b = grind (arith, ints)

module _ (e : Element) (n : Vector) (all : List Layer)
    (wide : low_along e.prism n <ℤ high_along e.prism n) (some : 0 < total_of all) (x y : ℤ)
    (rising : x <ℤ y) (high_in : y ≤ℤ high_along e.prism n) where
  abbrev low : ℤ
  low = low_along e.prism n

  abbrev extent : ℤ
  extent = high_along e.prism n -ℤ low_along e.prism n

  abbrev total : ℤ
  total = pos (total_of all)

  abbrev w : Way
  w = way_of e.number extent low (total_of all) x y

  total_in : pos 0 <ℤ total
  total_in = omega (arith, ints, some)

  extent_in : pos 0 <ℤ extent
  extent_in = omega (arith, ints, wide)

  -- the position is this place, which is T times as great
  record IsAt (s : Arrow) (place : ℤ) : Type 0 where
    is_rational : IsRational s
    same : s.y *ℤ total ≡ place *ℤ s.x

  whole_at : (z : ℤ) → IsAt (rational z (pos 1)) (z *ℤ total)
  whole_at z = record {
    is_rational = omega (arith, ints);
    same = sym (one (z *ℤ total));
  }
    where
      one : (a : ℤ) → a *ℤ pos 1 ≡ a
      one a = omega (arith, ints)

  end_at : (before : ℕ)
      → IsAt (fraction ((low *ℤ total) +ℤ (extent *ℤ pos before)) total) (end_behind w before)
  end_at before =
      let same = reduced_is_same ((low *ℤ total) +ℤ (extent *ℤ pos before)) total total_in in record {
        is_rational =
            (fraction_is_reduced ((low *ℤ total) +ℤ (extent *ℤ pos before)) total total_in).positive;
        same = same;
      }

  -- how two positions lie is how their places lie
  places_cross : (s t : Arrow) (p q : ℤ) → IsAt s p → IsAt t q
      → total *ℤ cross s t ≡ (s.x *ℤ t.x) *ℤ (q -ℤ p)
  unfolding cross
  places_cross s t p q s_at t_at =
      equal (times (var total) (minus (times (var s.x) (var t.y)) (times (var s.y) (var t.x))))
      (minus (times (times (var t.y) (var total)) (var s.x)) (times (times (var s.y) (var total)) (var t.x)))
      (omega arith)
      ∙ ap₂ (λ a b. (a *ℤ s.x) -ℤ (b *ℤ t.x)) t_at.same s_at.same
      ∙ equal
      (minus (times (times (var q) (var t.x)) (var s.x)) (times (times (var p) (var s.x)) (var t.x)))
      (times (times (var s.x) (var t.x)) (minus (var q) (var p))) (omega arith)

  below_places : (s t : Arrow) (p q : ℤ) → IsAt s p → IsAt t q → is_below s t ≡ int_lt p q
  below_places s t p q s_at t_at = by (int_lt p q) refl
    where
      both : pos 0 <ℤ (s.x *ℤ t.x)
      both = positive_product s.x t.x s_at.is_rational t_at.is_rational

      by : (b : Bool) → int_lt p q ≡ b → is_below s t ≡ b
      by true is =
          test_less (pos 0) (cross s t)
          (positive_factor total (cross s t) total_in
          (subst (λ z. pos 0 <ℤ z) (sym (places_cross s t p q s_at t_at))
          (positive_product (s.x *ℤ t.x) (q -ℤ p) both (up p q (less_from p q is)))))
        where
          up : (a b : ℤ) → a <ℤ b → pos 0 <ℤ (b -ℤ a)
          up a b less = omega (arith, ints)
      by false is =
          test_not_less (pos 0) (cross s t)
          (not_up (cross s t) (λ more.
          back p q (not_less_from p q is)
          (positive_factor (s.x *ℤ t.x) (q -ℤ p) both
          (subst (λ z. pos 0 <ℤ z) (places_cross s t p q s_at t_at)
          (positive_product total (cross s t) total_in more)))))
        where
          back : (a b : ℤ) → b ≤ℤ a → pos 0 <ℤ (b -ℤ a) → ⊥
          back a b less more = omega (arith, ints)

          not_up : (c : ℤ) → (pos 0 <ℤ c → ⊥) → c ≤ℤ pos 0
          not_up c none = grind (arith, ints)

  -- ---- one item

  thickness_is : (l : Layer) (s t : Arrow) (p q : ℤ) → 0 < l.micro → IsAt s p → IsAt t q
      → layer_item e all n l (length_between s t) ≡ item e.number l.index (reduced (q -ℤ p) extent)
  thickness_is l s t p q thick s_at t_at =
      ap (item e.number l.index)
      (reduced_alike (pos l.micro *ℤ (k.y *ℤ total)) (k.x *ℤ (extent *ℤ pos l.micro)) (q -ℤ p) extent
      (positive_product k.x (extent *ℤ pos l.micro) both
      (positive_product extent (pos l.micro) extent_in (positive_micro l.micro thick))) extent_in crossed)
    where
      k : Arrow
      k = length_between s t

      both : pos 0 <ℤ k.x
      both = positive_product s.x t.x s_at.is_rational t_at.is_rational

      positive_micro : (m : ℕ) → 0 < m → pos 0 <ℤ pos m
      positive_micro m more = omega (arith, ints)

      shared : k.y *ℤ total ≡ k.x *ℤ (q -ℤ p)
      shared =
          equal (times (minus (times (var t.y) (var s.x)) (times (var s.y) (var t.x))) (var total))
          (minus (times (times (var t.y) (var total)) (var s.x)) (times (times (var s.y) (var total)) (var t.x)))
          (omega arith)
          ∙ ap₂ (λ a b. (a *ℤ s.x) -ℤ (b *ℤ t.x)) t_at.same s_at.same
          ∙ equal
          (minus (times (times (var q) (var t.x)) (var s.x)) (times (times (var p) (var s.x)) (var t.x)))
          (times (times (var s.x) (var t.x)) (minus (var q) (var p))) (omega arith)

      crossed : (pos l.micro *ℤ (k.y *ℤ total)) *ℤ extent
          ≡ (q -ℤ p) *ℤ (k.x *ℤ (extent *ℤ pos l.micro))
      crossed =
          ap (λ z. (pos l.micro *ℤ z) *ℤ extent) shared
          ∙ equal
          (times (times (var (pos l.micro)) (times (var k.x) (minus (var q) (var p)))) (var extent))
          (times (minus (var q) (var p)) (times (var k.x) (times (var extent) (var (pos l.micro)))))
          (omega arith)

  item_is : (l : Layer) (s t : Arrow) (p q : ℤ) → 0 < l.micro
      → find (λ k. k.index == l.index) all ≡ Some l → IsAt s p → IsAt t q → p <ℤ q
      → item_at e all n l.index s t ∷ [] ≡ item_between w l p q
  item_is l s t p q thick found s_at t_at less =
      ap (λ o. item_of_layer e all n l.index o s t ∷ []) found
      ∙ ap (λ i. i ∷ []) (thickness_is l s t p q thick s_at t_at)
      ∙ sym (ap (λ b. cond b (item e.number l.index (reduced (q -ℤ p) extent) ∷ []) []) (test_less p q less))

  -- ---- bands beyond the way

  abbrev stop : ℤ
  stop = y *ℤ total

  no_item : (l : Layer) (p q : ℤ) → q ≤ℤ p → item_between w l p q ≡ []
  no_item l p q less =
      ap (λ b. cond b (item e.number l.index (reduced (q -ℤ p) extent) ∷ []) []) (test_not_less p q less)

  part_beyond : (before : ℕ) (l : Layer) → stop ≤ℤ end_behind w before → part_of w before l ≡ []
  part_beyond before l less =
      no_item l _ _
      (through (int_min stop (end_behind w (before + l.micro))) stop (end_behind w before)
      (int_max (x *ℤ total) (end_behind w before)) (at_most_lesser stop (end_behind w (before + l.micro)))
      less (at_most_greater (x *ℤ total) (end_behind w before)))
    where
      through : (a b c d : ℤ) → a ≤ℤ b → b ≤ℤ c → c ≤ℤ d → a ≤ℤ d
      through a b c d one two three = omega (arith, ints)

      at_most_lesser : (a b : ℤ) → int_min a b ≤ℤ a
      at_most_lesser a b = grind (arith, ints)

  grows : (before more : ℕ) → end_behind w before ≤ℤ end_behind w (before + more)
  grows before more =
      sum (low *ℤ total) (extent *ℤ pos before) (extent *ℤ pos (before + more))
      (scale_at_most extent (pos before) (pos (before + more)) (weak extent extent_in)
      (omega (arith, ints)))
    where
      weak : (a : ℤ) → pos 0 <ℤ a → pos 0 ≤ℤ a
      weak a some = omega (arith, ints)

      sum : (a b c : ℤ) → b ≤ℤ c → (a +ℤ b) ≤ℤ (a +ℤ c)
      sum a b c less = omega (arith, ints)

  grows_strictly : (before more : ℕ) → 0 < more → end_behind w before <ℤ end_behind w (before + more)
  grows_strictly before more some =
      sum (low *ℤ total) (extent *ℤ pos before) (extent *ℤ pos (before + more))
      (scale_less extent (pos before) (pos (before + more)) extent_in (omega (arith, ints, some)))
    where
      sum : (a b c : ℤ) → b <ℤ c → (a +ℤ b) <ℤ (a +ℤ c)
      sum a b c less = omega (arith, ints)

  parts_beyond : (before : ℕ) (ls : List Layer) → stop ≤ℤ end_behind w before
      → parts_of w before ls ≡ []
  parts_beyond before [] less = refl
  parts_beyond before (l ∷ ls) less =
      ap₂ (λ a b. a ++ b) (part_beyond before l less)
      (parts_beyond (before + l.micro) ls
      (through stop (end_behind w before) (end_behind w (before + l.micro)) less (grows before l.micro)))
    where
      through : (a b c : ℤ) → a ≤ℤ b → b ≤ℤ c → a ≤ℤ c
      through a b c one two = omega (arith, ints)

  -- the end of the last band is the extent's, which is not before the end of the way
  last_end : (before : ℕ) → before ≡ total_of all → stop ≤ℤ end_behind w before
  last_end before same =
      subst (λ k. stop ≤ℤ end_behind w k) (sym same)
      (subst (λ z. stop ≤ℤ z) (sym whole)
      (turn (scale_at_most total y (high_along e.prism n) (weak total total_in) high_in)))
    where
      weak : (a : ℤ) → pos 0 <ℤ a → pos 0 ≤ℤ a
      weak a some = omega (arith, ints)

      whole : (low *ℤ total) +ℤ (extent *ℤ total) ≡ total *ℤ high_along e.prism n
      whole =
          equal
          (plus (times (var low) (var total))
          (times (minus (var (high_along e.prism n)) (var low)) (var total)))
          (times (var total) (var (high_along e.prism n))) (omega arith)

      turn : (total *ℤ y) ≤ℤ (total *ℤ high_along e.prism n) → stop ≤ℤ (total *ℤ high_along e.prism n)
      turn less =
          subst (λ z. z ≤ℤ (total *ℤ high_along e.prism n))
          (equal (times (var total) (var y)) (times (var y) (var total)) (omega arith)) less

  -- ---- from inside a band

  -- the way has come to a position in the band of the first of these layers
  record IsInside (before : ℕ) (l : Layer) (ls : List Layer) (s : Arrow) (p : ℤ) : Type 0 where
    at : IsAt s p
    place : p ≡ int_max (x *ℤ total) (end_behind w before)
    short : p <ℤ end_behind w (before + l.micro)
    goes_on : p <ℤ stop
    sum : before + total_of (l ∷ ls) ≡ total_of all

  from_inside : (index before : ℕ) (l : Layer) (ls : List Layer) (s : Arrow) (p : ℤ)
      → are_layers index (l ∷ ls) ≡ true → AllFound all (l ∷ ls) → IsInside before l ls s p
      → layer_items e all n s l.index
      (breaks_before (rational y (pos 1)) (band_ends low extent (total_of all) before (l ∷ ls)))
      (rational y (pos 1)) ≡ parts_of w before (l ∷ ls)
  from_inside index before l [] s p right found is =
      item_is l s (rational y (pos 1)) p stop (layer_is index l [] right).0 found.0 is.at (whole_at y)
      is.goes_on
      ∙ ends (item_between w l p stop)
      ∙ ap (λ a. a ++ [])
      (ap₂ (item_between w l) is.place
      (sym (lesser_is_first stop (end_behind w (before + l.micro))
      (last_end (before + l.micro) (nothing before l.micro (total_of all) is.sum)))))
    where
      nothing : (a b c : ℕ) → a + (b + 0) ≡ c → a + b ≡ c
      nothing a b c same = omega (arith, same)

      ends : (xs : List Item) → xs ≡ xs ++ []
      ends [] = refl
      ends (i ∷ xs) = ap (λ t. i ∷ t) (ends xs)
  from_inside index before l (m ∷ ls) s p right found is =
      by (int_lt (end_behind w (before + l.micro)) stop) refl
      (λ less.
      from_inside l.index (before + l.micro) m ls b (end_behind w (before + l.micro)) first.1 found.1
      (on less))
    where
      b : Arrow
      b = fraction ((low *ℤ total) +ℤ (extent *ℤ pos (before + l.micro))) total

      b_at : IsAt b (end_behind w (before + l.micro))
      b_at = end_at (before + l.micro)

      first : (0 < l.micro) × (are_layers l.index (m ∷ ls) ≡ true) × (index < l.index)
      first = layer_is index l (m ∷ ls) right

      later : List (Break ℕ)
      later = breaks_before (rational y (pos 1)) (band_ends low extent (total_of all) (before + l.micro) (m ∷ ls))

      on : int_lt (end_behind w (before + l.micro)) stop ≡ true
          → IsInside (before + l.micro) m ls b (end_behind w (before + l.micro))
      on less = record {
        at = b_at;
        place =
            sym (greater_is_second (x *ℤ total) (end_behind w (before + l.micro))
            (behind (x *ℤ total) (end_behind w before) p (end_behind w (before + l.micro)) is.place is.short));
        short = grows_strictly (before + l.micro) m.micro (layer_is l.index m ls first.1).0;
        goes_on = less_from _ _ less;
        sum = assoc before l.micro (total_of (m ∷ ls)) (total_of all) is.sum;
      }
        where
          behind : (a c q d : ℤ) → q ≡ int_max a c → q <ℤ d → a ≤ℤ d
          behind a c q d same less = grind (arith, ints)

          assoc : (a c d t : ℕ) → a + (c + d) ≡ t → (a + c) + d ≡ t
          assoc a c d t same = omega (arith, same)

      by : (t : Bool) → int_lt (end_behind w (before + l.micro)) stop ≡ t
          → (int_lt (end_behind w (before + l.micro)) stop ≡ true
          → layer_items e all n b m.index later (rational y (pos 1))
          ≡ parts_of w (before + l.micro) (m ∷ ls))
          → layer_items e all n s l.index
          (breaks_before (rational y (pos 1))
          (break_at b m.index ∷ band_ends low extent (total_of all) (before + l.micro) (m ∷ ls)))
          (rational y (pos 1)) ≡ parts_of w before (l ∷ m ∷ ls)
      by true less goes_on =
          ap
          (λ t. layer_items e all n s l.index (cond t (break_at b m.index ∷ later) []) (rational y (pos 1)))
          (below_places b (rational y (pos 1)) (end_behind w (before + l.micro)) stop b_at (whole_at y) ∙ less)
          ∙ ap₂ (λ a c. a ++ c)
          (item_is l s b p (end_behind w (before + l.micro)) first.0 found.0 is.at b_at is.short
          ∙ ap₂ (item_between w l) is.place
          (sym (lesser_is_second stop (end_behind w (before + l.micro)) (weak _ _ (less_from _ _ less)))))
          (goes_on less)
        where
          weak : (a c : ℤ) → a <ℤ c → a ≤ℤ c
          weak a c less = omega (arith, ints)
      by false less goes_on =
          ap
          (λ t. layer_items e all n s l.index (cond t (break_at b m.index ∷ later) []) (rational y (pos 1)))
          (below_places b (rational y (pos 1)) (end_behind w (before + l.micro)) stop b_at (whole_at y) ∙ less)
          ∙ item_is l s (rational y (pos 1)) p stop first.0 found.0 is.at (whole_at y) is.goes_on
          ∙ ap₂ (item_between w l) is.place
          (sym (lesser_is_first stop (end_behind w (before + l.micro)) (not_less_from _ _ less)))
          ∙ ends (part_of w before l)
          ∙ ap (λ c. part_of w before l ++ c)
          (sym (parts_beyond (before + l.micro) (m ∷ ls) (not_less_from _ _ less)))
        where
          ends : (xs : List Item) → xs ≡ xs ++ []
          ends [] = refl
          ends (i ∷ xs) = ap (λ t. i ∷ t) (ends xs)

  -- ---- from the beginning

  start_less : (x *ℤ total) <ℤ stop
  start_less =
      turn (scale_less total x y total_in rising)
    where
      turn : (total *ℤ x) <ℤ (total *ℤ y) → (x *ℤ total) <ℤ (y *ℤ total)
      turn less =
          subst₂ (λ a c. a <ℤ c)
          (equal (times (var total) (var x)) (times (var x) (var total)) (omega arith))
          (equal (times (var total) (var y)) (times (var y) (var total)) (omega arith)) less

  pub from_start : (index before : ℕ) (l : Layer) (ls : List Layer) → are_layers index (l ∷ ls) ≡ true
      → AllFound all (l ∷ ls) → end_behind w before ≤ℤ (x *ℤ total)
      → before + total_of (l ∷ ls) ≡ total_of all
      → layer_items e all n (rational x (pos 1))
      (label_after (rational x (pos 1)) l.index (band_ends low extent (total_of all) before (l ∷ ls)))
      (breaks_before (rational y (pos 1))
      (breaks_after (rational x (pos 1)) (band_ends low extent (total_of all) before (l ∷ ls))))
      (rational y (pos 1)) ≡ parts_of w before (l ∷ ls)
  from_start index before l [] right found behind sum =
      from_inside index before l [] (rational x (pos 1)) (x *ℤ total) right found
      (record {
        at = whole_at x;
        place = sym (greater_is_first (x *ℤ total) (end_behind w before) behind);
        short =
            through (x *ℤ total) stop (end_behind w (before + l.micro)) start_less
            (last_end (before + l.micro) (nothing before l.micro (total_of all) sum));
        goes_on = start_less;
        sum = sum;
      })
    where
      nothing : (a b c : ℕ) → a + (b + 0) ≡ c → a + b ≡ c
      nothing a b c same = omega (arith, same)

      through : (a b c : ℤ) → a <ℤ b → b ≤ℤ c → a <ℤ c
      through a b c one two = omega (arith, ints)
  from_start index before l (m ∷ ls) right found behind sum =
      by (int_lt (x *ℤ total) (end_behind w (before + l.micro))) refl
      (λ less.
      from_start l.index (before + l.micro) m ls (layer_is index l (m ∷ ls) right).1 found.1
      (not_less_from _ _ less) (assoc before l.micro (total_of (m ∷ ls)) (total_of all) sum))
    where
      assoc : (a c d t : ℕ) → a + (c + d) ≡ t → (a + c) + d ≡ t
      assoc a c d t same = omega (arith, same)

      b : Arrow
      b = fraction ((low *ℤ total) +ℤ (extent *ℤ pos (before + l.micro))) total

      later : List (Break ℕ)
      later = band_ends low extent (total_of all) (before + l.micro) (m ∷ ls)

      seen : (t : Bool) → int_lt (x *ℤ total) (end_behind w (before + l.micro)) ≡ t
          → layer_items e all n (rational x (pos 1))
          (label_after (rational x (pos 1)) l.index (break_at b m.index ∷ later))
          (breaks_before (rational y (pos 1)) (breaks_after (rational x (pos 1)) (break_at b m.index ∷ later)))
          (rational y (pos 1))
          ≡ layer_items e all n (rational x (pos 1))
          (cond t l.index (label_after (rational x (pos 1)) m.index later))
          (breaks_before (rational y (pos 1))
          (cond t (break_at b m.index ∷ later) (breaks_after (rational x (pos 1)) later)))
          (rational y (pos 1))
      seen t is =
          ap
          (λ c. layer_items e all n (rational x (pos 1))
          (cond c l.index (label_after (rational x (pos 1)) m.index later))
          (breaks_before (rational y (pos 1))
          (cond c (break_at b m.index ∷ later) (breaks_after (rational x (pos 1)) later)))
          (rational y (pos 1)))
          (below_places (rational x (pos 1)) b (x *ℤ total) (end_behind w (before + l.micro)) (whole_at x)
          (end_at (before + l.micro)) ∙ is)

      by : (t : Bool) → int_lt (x *ℤ total) (end_behind w (before + l.micro)) ≡ t
          → (int_lt (x *ℤ total) (end_behind w (before + l.micro)) ≡ false
          → layer_items e all n (rational x (pos 1)) (label_after (rational x (pos 1)) m.index later)
          (breaks_before (rational y (pos 1)) (breaks_after (rational x (pos 1)) later))
          (rational y (pos 1)) ≡ parts_of w (before + l.micro) (m ∷ ls))
          → layer_items e all n (rational x (pos 1))
          (label_after (rational x (pos 1)) l.index (break_at b m.index ∷ later))
          (breaks_before (rational y (pos 1)) (breaks_after (rational x (pos 1)) (break_at b m.index ∷ later)))
          (rational y (pos 1)) ≡ parts_of w before (l ∷ m ∷ ls)
      by true less goes_on =
          seen true less
          ∙ from_inside index before l (m ∷ ls) (rational x (pos 1)) (x *ℤ total) right found
          (record {
            at = whole_at x;
            place = sym (greater_is_first (x *ℤ total) (end_behind w before) behind);
            short = less_from _ _ less;
            goes_on = start_less;
            sum = sum;
          })
      by false less goes_on =
          seen false less
          ∙ goes_on less
          ∙ sym
          (ap (λ a. a ++ parts_of w (before + l.micro) (m ∷ ls))
          (no_item l _ _
          (through (int_min stop (end_behind w (before + l.micro))) (end_behind w (before + l.micro)) (x *ℤ total)
          (int_max (x *ℤ total) (end_behind w before)) (at_most_lesser stop (end_behind w (before + l.micro)))
          (not_less_from _ _ less) (at_most_first (x *ℤ total) (end_behind w before)))))
        where
          through : (a c d f : ℤ) → a ≤ℤ c → c ≤ℤ d → d ≤ℤ f → a ≤ℤ f
          through a c d f one two three = omega (arith, ints)

          at_most_lesser : (a c : ℤ) → int_min a c ≤ℤ c
          at_most_lesser a c = grind (arith, ints)

          at_most_first : (a c : ℤ) → a ≤ℤ int_max a c
          at_most_first a c = grind (arith, ints)
