-- Position after position, a walk up or down is read.

use Rattle.std.proofs.Common.{◌≡◌, refl, sym, ap, ◌∙◌, subst, arith, ℕ, zero, suc, ◌*◌, ◌+◌, ◌<◌, ℤ, pos, negsuc}
use Rattle.std.proofs.Common.{◌-ℤ◌, ◌*ℤ◌, Bool, true, false, not, ◌&&◌, cond, List, [], ◌∷◌, ◌++◌, Option, Some, None}
use Rattle.std.proofs.Common.{length, unsigned_abs, ◌==◌, inl, inr}
use Rattle.std.specs.List.{find}
use Rattle.std.proofs.Common.{◌≤◌, ◌≤ℤ◌, ◌<ℤ◌, ◌⊎◌, nat_le}
use Rattle.std.proofs.lemmas.Bool.{and_from, eqb-true, false≢true, cases_lt, le-leb, lt-leb}
use Rattle.std.proofs.lemmas.Nat.{mul-le}
use Rattle.std.proofs.lemmas.Int.{ints}
use Rattle.std.proofs.lemmas.List.{append_assoc, append-nil}
use Rattle.std.proofs.lemmas.Option.{none-some}
use Rattle.theory_lists.specs.Members.{Stands}
use Rattle.theory_lists.proofs.Members.{all_stands}
use Rattle.theory_numbers.specs.Fractions.{whole}
use Rattle.theory_numbers.specs.Rationals.{rational}
use Rattle.theory_numbers.proofs.Signs.{test_at_most, test_not_at_most}
use Rattle.sb_fraction.specs.Spots.{inner}
use Rattle.sb_model.specs.declared.labels.label.Label.{Label}
use Rattle.sb_model.specs.declared.labels.label.Label.TheVariants as label
use Rattle.sb_model.specs.declared.layers.Layering.{Layering}
use Rattle.sb_model.specs.declared.layers.Layering.TheVariants.{Plain, Single, Layered}
use Rattle.sb_model.specs.declared.products.Element.{Element}
use Rattle.sb_model.specs.declared.walk.End.TheVariants as end
use Rattle.sb_model.specs.declared.walk.Item.{Item}
use Rattle.sb_model.specs.Building.{Building}
use Rattle.sb_model.specs.Walks.{Course, course, item, lies_along, is_in_reach, is_reached_by, element_numbered}
use Rattle.theory_sight.specs.Bands.{rounded_thickness, items_by, items_between}
use Rattle.theory_sight.specs.Coarse.{same_label}
use Rattle.theory_sight.specs.Reading.{square, never, read, read_element, read_stretch, is_passed_over}
use Rattle.theory_sight.specs.Reading.{behind, ends_at, stretch}
use Rattle.theory_sight.proofs.Crossings.Thickness.{thickness_is}
use Rattle.sb_walk.specs.declared.way.Way.{Way}
use Rattle.sb_walk.specs.declared.way.Way.TheVariants as way
use Rattle.sb_walk.specs.Ways.{normal_of}
use Rattle.sb_walk.specs.Behind.{label_on, has_no_axis, HaveNoLayers, stretches_on, read_on}
use Rattle.sb_walk.specs.Ended.{item_through, item_over, end_of, course_to}

-- ---- thickness

square_abs : (k : ℤ) → pos (unsigned_abs k * unsigned_abs k) ≡ k *ℤ k
square_abs (pos n) = refl
square_abs (negsuc n) = refl

-- a length of l millimetres is 1000·l micrometres
reached : (m l : ℕ) (k : ℤ) → m ≡ 1000 * l → pos (l * l) ≡ k *ℤ k
    → is_reached_by m (pos 1) (rational k (pos 1)) ≡ true
reached zero l k is same = refl
reached (suc j) zero k is same = absurd (omega (arith, is))
reached (suc j) (suc i) k is same =
    subst (λ x. is_reached_by (suc x) (pos 1) (rational k (pos 1)) ≡ true) (sym less)
    (test_at_most
    ((pos ((2 * (1000 * i + 999) + 1) * (2 * (1000 * i + 999) + 1)) *ℤ pos 1) *ℤ (pos 1 *ℤ pos 1))
    (pos 4000000 *ℤ (k *ℤ k)) (raise i (k *ℤ k) same))
  where
    less : j ≡ 1000 * i + 999
    less = omega (arith, is)

    raise : (i : ℕ) (q : ℤ) → pos (suc i * suc i) ≡ q
        → ((pos ((2 * (1000 * i + 999) + 1) * (2 * (1000 * i + 999) + 1)) *ℤ pos 1) *ℤ (pos 1 *ℤ pos 1))
        ≤ℤ (pos 4000000 *ℤ q)
    raise i q square_is = omega (arith, ints, square_is)

not_reached : (l : ℕ) (k : ℤ) → pos (l * l) ≡ k *ℤ k
    → is_reached_by (suc (1000 * l)) (pos 1) (rational k (pos 1)) ≡ false
not_reached l k same =
    test_not_at_most
    ((pos ((2 * (1000 * l) + 1) * (2 * (1000 * l) + 1)) *ℤ pos 1) *ℤ (pos 1 *ℤ pos 1))
    (pos 4000000 *ℤ (k *ℤ k)) (raise l (k *ℤ k) same)
  where
    raise : (l : ℕ) (q : ℤ) → pos (l * l) ≡ q
        → (pos 4000000 *ℤ q)
        <ℤ ((pos ((2 * (1000 * l) + 1) * (2 * (1000 * l) + 1)) *ℤ pos 1) *ℤ (pos 1 *ℤ pos 1))
    raise l q square_is = omega (arith, ints, square_is)

-- a length is within reach by its size
pub within_is : (r : ℕ) (k : ℤ)
    → nat_le (unsigned_abs k) r ≡ is_in_reach r (pos 1) (rational k (pos 1))
within_is r k = by (cases_lt r (unsigned_abs k))
  where
    more : (l : ℕ) (q : ℤ) → pos (l * l) ≡ q → r < l
        → (((pos r *ℤ pos r) *ℤ pos 1) *ℤ (pos 1 *ℤ pos 1)) <ℤ q
    more l q same less =
        let wide = mul-lt r l less in omega (arith, ints, same, wide)
      where
        mul-lt : (a b : ℕ) → a < b → a * a < b * b
        mul-lt a b less =
            let wide = mul-le (suc a) (suc a) b b (omega arith) (omega arith) in omega (arith, wide)

    not_more : (l : ℕ) (q : ℤ) → pos (l * l) ≡ q → l ≤ r
        → q ≤ℤ (((pos r *ℤ pos r) *ℤ pos 1) *ℤ (pos 1 *ℤ pos 1))
    not_more l q same less =
        let wide = mul-le l l r r less less in omega (arith, ints, same, wide)

    by : (r < unsigned_abs k) ⊎ (unsigned_abs k ≤ r)
        → nat_le (unsigned_abs k) r ≡ is_in_reach r (pos 1) (rational k (pos 1))
    by (inl less) =
        lt-leb (unsigned_abs k) r less
        ∙ sym (test_not_at_most (k *ℤ k) (((pos r *ℤ pos r) *ℤ pos 1) *ℤ (pos 1 *ℤ pos 1))
        (more (unsigned_abs k) (k *ℤ k) (square_abs k) less))
    by (inr less) =
        le-leb (unsigned_abs k) r less
        ∙ sym (test_at_most (k *ℤ k) (((pos r *ℤ pos r) *ℤ pos 1) *ℤ (pos 1 *ℤ pos 1))
        (not_more (unsigned_abs k) (k *ℤ k) (square_abs k) less))

pub thickness_up : (k : ℤ) → rounded_thickness (pos 1) k ≡ 1000 * unsigned_abs k
thickness_up k =
    sym
    ((thickness_is (pos 1) k (omega (arith, ints)) (1000 * unsigned_abs k)).0
    (and_from (is_reached_by (1000 * unsigned_abs k) (pos 1) (rational k (pos 1))) _
    (reached (1000 * unsigned_abs k) (unsigned_abs k) k refl (square_abs k))
    (ap not (not_reached (unsigned_abs k) k (square_abs k)))))

-- ---- elements by their numbers

number_found : (k : ℕ) (es : List Element) (e : Element) → find (λ x. x.number == k) es ≡ Some e
    → Stands e es × ((e.number == k) ≡ true)
number_found k [] e found = absurd (none-some e found)
number_found k (x ∷ es) e found = by (x.number == k) refl (number_found k es e) found
  where
    by : (b : Bool) → (x.number == k) ≡ b
        → (find (λ y. y.number == k) es ≡ Some e → Stands e es × ((e.number == k) ≡ true))
        → cond b (Some x) (find (λ y. y.number == k) es) ≡ Some e
        → Stands e (x ∷ es) × ((e.number == k) ≡ true)
    by true is later same =
        let one : x ≡ e = cc in
        (inl (sym one), ap (λ (y : Element). y.number == k) (sym one) ∙ is)
    by false is later same = let rest = later same in (inr rest.0, rest.1)

unit_is : (w : Way) → inner (normal_of w) (normal_of w) ≡ pos 1
unit_is way.Down = refl
unit_is way.Up = refl

-- ---- one crossing

-- the walk goes on behind an item, or it ends
abbrev after_item : Option Item → Course → Course → Course
after_item (Some i) further ended = behind (i ∷ []) further
after_item None further ended = ended

module _ (m : Building) (none : HaveNoLayers m) (w : Way) where
  -- without layers an element is passed within reach alone, and gives one item
  record IsBare (e : Element) (x y : ℤ) : Type 0 where
    passed : is_passed_over m (normal_of w) e x y
        ≡ is_in_reach m.reach (pos 1) (rational (y -ℤ x) (pos 1))
    items : items_between e (normal_of w) x y
        ≡ item e.number 0 (whole (pos (1000 * unsigned_abs (y -ℤ x)))) ∷ []

  bare : (e : Element) → Stands e m.elements → (x y : ℤ) → IsBare e x y
  bare e e_in x y =
      let parts = of_layering e.layering
      (all_stands (λ f. has_no_axis f.layering ≡ true) e m.elements none e_in) in
      record { passed = parts.0; items = parts.1 }
    where
      thickness : rounded_thickness (inner (normal_of w) (normal_of w)) (y -ℤ x)
          ≡ 1000 * unsigned_abs (y -ℤ x)
      thickness = ap (λ u. rounded_thickness u (y -ℤ x)) (unit_is w) ∙ thickness_up (y -ℤ x)

      within : is_in_reach m.reach (inner (normal_of w) (normal_of w)) (rational (y -ℤ x) (pos 1))
          ≡ is_in_reach m.reach (pos 1) (rational (y -ℤ x) (pos 1))
      within = ap (λ u. is_in_reach m.reach u (rational (y -ℤ x) (pos 1))) (unit_is w)

      one : item e.number 0
          (whole (pos (rounded_thickness (inner (normal_of w) (normal_of w)) (y -ℤ x)))) ∷ []
          ≡ item e.number 0 (whole (pos (1000 * unsigned_abs (y -ℤ x)))) ∷ []
      one = ap (λ t. item e.number 0 (whole (pos t)) ∷ []) thickness

      of_layering : (l : Layering) → has_no_axis l ≡ true
          → ((lies_along l (normal_of w)
          && is_in_reach m.reach (inner (normal_of w) (normal_of w)) (rational (y -ℤ x) (pos 1)))
          ≡ is_in_reach m.reach (pos 1) (rational (y -ℤ x) (pos 1)))
          × (items_by l e (normal_of w) x y
          ≡ item e.number 0 (whole (pos (1000 * unsigned_abs (y -ℤ x)))) ∷ [])
      of_layering Plain no_axis = (within, one)
      of_layering (Single material) no_axis = (within, one)
      of_layering (Layered layers axis) no_axis = absurd (false≢true no_axis)

  at_element : (k : ℕ) (x0 at y : ℤ) (goes_on : ℤ → Course) (o : Option Element)
      → element_numbered m k ≡ o
      → read_element m (normal_of w) x0 at k o (square y) goes_on
      ≡ after_item (item_through m o at y) (goes_on y) (ends_at x0 at (end.Solid k))
  at_element k x0 at y goes_on None found = refl
  at_element k x0 at y goes_on (Some e) found =
      let there = number_found k m.elements e found in
      let is = bare e there.0 at y in
      ap (λ b. cond b (behind (items_between e (normal_of w) at y) (goes_on y))
      (ends_at x0 at (end.Solid e.number))) is.passed
      ∙ by (is_in_reach m.reach (pos 1) (rational (y -ℤ at) (pos 1))) is.items
      (eqb-true e.number k there.1)
    where
      by : (b : Bool)
          → items_between e (normal_of w) at y
          ≡ item e.number 0 (whole (pos (1000 * unsigned_abs (y -ℤ at)))) ∷ []
          → e.number ≡ k
          → cond b (behind (items_between e (normal_of w) at y) (goes_on y))
          (ends_at x0 at (end.Solid e.number))
          ≡ after_item
          (cond b (Some (item e.number 0 (whole (pos (1000 * unsigned_abs (y -ℤ at)))))) None)
          (goes_on y) (ends_at x0 at (end.Solid k))
      by true items number = ap (λ is. behind is (goes_on y)) items
      by false items number = ap (λ j. ends_at x0 at (end.Solid j)) number

  at_stretch : (l : Label) (x0 at y : ℤ) (goes_on : ℤ → Course)
      → read_stretch m (normal_of w) x0 at l (square y) goes_on
      ≡ after_item (item_over m l at y) (goes_on y) (ends_at x0 at (end_of l))
  at_stretch (label.Space k) x0 at y goes_on = refl
  at_stretch label.Void x0 at y goes_on = refl
  at_stretch label.Earth x0 at y goes_on = refl
  at_stretch (label.Element k layer) x0 at y goes_on =
      at_element k x0 at y goes_on (element_numbered m k) refl

  at_end : (l : Label) (x0 at : ℤ) (goes_on : ℤ → Course)
      → read_stretch m (normal_of w) x0 at l never goes_on ≡ ends_at x0 at (end_of l)
  at_end (label.Space k) x0 at goes_on = refl
  at_end label.Void x0 at goes_on = refl
  at_end label.Earth x0 at goes_on = refl
  at_end (label.Element k layer) x0 at goes_on = by (element_numbered m k) refl
    where
      by : (o : Option Element) → element_numbered m k ≡ o
          → read_element m (normal_of w) x0 at k o never goes_on ≡ ends_at x0 at (end.Solid k)
      by None found = refl
      by (Some e) found =
          ap (λ j. ends_at x0 at (end.Solid j))
          (eqb-true e.number k (number_found k m.elements e found).1)

  -- ---- position after position

  module _ (present : List ℕ) (x0 : ℤ) where
    -- what is read from a position on, behind these items
    abbrev pub read_behind : List Item → ℤ → Label → List ℤ → Course
    read_behind items at l heights =
        behind items
        (read m (normal_of w) x0 at (stretches_on m (normal_of w) present l heights))

    -- where the label stays
    pub stays : (items : List Item) (at : ℤ) (l : Label) (z : ℤ) (heights : List ℤ)
        → same_label l (label_on m (normal_of w) present z) ≡ true
        → read_behind items at l (z ∷ heights) ≡ read_behind items at l heights
    stays items at l z heights same =
        ap (λ b. behind items (read m (normal_of w) x0 at
        (cond b (stretches_on m (normal_of w) present l heights)
        (stretch l (square z)
        ∷ stretches_on m (normal_of w) present (label_on m (normal_of w) present z) heights)))) same

    changed : (items : List Item) (at : ℤ) (l : Label) (z : ℤ) (heights : List ℤ)
        → same_label l (label_on m (normal_of w) present z) ≡ false
        → read_behind items at l (z ∷ heights)
        ≡ behind items
        (after_item (item_over m l at z)
        (read m (normal_of w) x0 z
        (stretches_on m (normal_of w) present (label_on m (normal_of w) present z) heights))
        (ends_at x0 at (end_of l)))
    changed items at l z heights other =
        ap (λ b. behind items (read m (normal_of w) x0 at
        (cond b (stretches_on m (normal_of w) present l heights)
        (stretch l (square z)
        ∷ stretches_on m (normal_of w) present (label_on m (normal_of w) present z) heights)))) other
        ∙ ap (behind items)
        (at_stretch l x0 at z
        (λ y. read m (normal_of w) x0 y
        (stretches_on m (normal_of w) present (label_on m (normal_of w) present z) heights)))

    -- where it is passed
    pub passes : (items : List Item) (at : ℤ) (l : Label) (z : ℤ) (heights : List ℤ) (i : Item)
        → same_label l (label_on m (normal_of w) present z) ≡ false → item_over m l at z ≡ Some i
        → read_behind items at l (z ∷ heights)
        ≡ read_behind (items ++ i ∷ []) z (label_on m (normal_of w) present z) heights
    passes items at l z heights i other is =
        changed items at l z heights other
        ∙ ap (λ o. behind items
        (after_item o
        (read m (normal_of w) x0 z
        (stretches_on m (normal_of w) present (label_on m (normal_of w) present z) heights))
        (ends_at x0 at (end_of l)))) is
        ∙ joined
        (read m (normal_of w) x0 z
        (stretches_on m (normal_of w) present (label_on m (normal_of w) present z) heights))
      where
        joined : (c : Course) → behind items (behind (i ∷ []) c) ≡ behind (items ++ i ∷ []) c
        joined c =
            ap (λ is. course is c.depth c.end) (sym (append_assoc items (i ∷ []) c.items))

    no_more : (items : List Item) (at : ℤ) (l : Label)
        → behind items (ends_at x0 at (end_of l)) ≡ course_to items x0 at l
    no_more items at l =
        ap (λ is. course is (rational (at -ℤ x0) (pos 1)) (end_of l)) (append-nil items)

    -- where it ends the walk
    pub ends_here : (items : List Item) (at : ℤ) (l : Label) (z : ℤ) (heights : List ℤ)
        → same_label l (label_on m (normal_of w) present z) ≡ false → item_over m l at z ≡ None
        → course_to items x0 at l ≡ read_behind items at l (z ∷ heights)
    ends_here items at l z heights other is =
        sym
        (changed items at l z heights other
        ∙ ap (λ o. behind items
        (after_item o
        (read m (normal_of w) x0 z
        (stretches_on m (normal_of w) present (label_on m (normal_of w) present z) heights))
        (ends_at x0 at (end_of l)))) is
        ∙ no_more items at l)

    -- where there is no further position
    pub ends_at_last : (items : List Item) (at : ℤ) (l : Label)
        → course_to items x0 at l ≡ read_behind items at l []
    ends_at_last items at l =
        sym
        (ap (behind items) (at_end l x0 at (λ y. read m (normal_of w) x0 y [])) ∙ no_more items at l)

    -- at the beginning
    pub begins : (heights : List ℤ)
        → read_behind [] x0 (label_on m (normal_of w) present x0) heights
        ≡ read_on m (normal_of w) present x0 heights
    begins heights = refl

-- ---- a turn of the loop

module _ (m : Building) (none : HaveNoLayers m) (w : Way) (present : List ℕ) (x0 : ℤ) (items : List Item)
    (at : ℤ) (l : Label) (rest : List ℤ) (whole_walk : Course)
    (before : read_behind m none w present x0 items at l rest ≡ whole_walk) where
  -- there is no further position
  pub ended_at_last : length rest ≡ 0 → (answer : Course) → answer ≡ course_to items x0 at l
      → answer ≡ whole_walk
  ended_at_last none_left answer is =
      is ∙ ends_at_last m none w present x0 items at l
      ∙ ap (read_behind m none w present x0 items at l) (sym (no_items rest none_left)) ∙ before
    where
      no_items : (zs : List ℤ) → length zs ≡ 0 → zs ≡ []
      no_items [] is_none = refl
      no_items (z ∷ zs) is_none = absurd (omega (arith, is_none))

  module _ (z : ℤ) (others : List ℤ) (parted : rest ≡ z ∷ others) (b : Label)
      (b_is : b ≡ label_on m (normal_of w) present z) (one : Bool) (one_is : one ≡ same_label l b)
    where
      from_here : read_behind m none w present x0 items at l (z ∷ others) ≡ whole_walk
      from_here = ap (read_behind m none w present x0 items at l) (sym parted) ∙ before

      other_label : one ≡ false → same_label l (label_on m (normal_of w) present z) ≡ false
      other_label other = ap (same_label l) (sym b_is) ∙ sym one_is ∙ other

      -- the walk ends in front of it
      pub ended_here : one ≡ false → item_over m l at z ≡ None → (answer : Course)
          → answer ≡ course_to items x0 at l → answer ≡ whole_walk
      ended_here other is answer answer_is =
          answer_is ∙ ends_here m none w present x0 items at l z others (other_label other) is
          ∙ from_here

      -- it goes on behind an item
      pub passed_here : one ≡ false → (i : Item) → item_over m l at z ≡ Some i → (more : List Item)
          → more ≡ items ++ i ∷ [] → read_behind m none w present x0 more z b others ≡ whole_walk
      passed_here other i is more more_is =
          ap (λ is. read_behind m none w present x0 is z b others) more_is
          ∙ ap (λ k. read_behind m none w present x0 (items ++ i ∷ []) z k others) b_is
          ∙ sym (passes m none w present x0 items at l z others i (other_label other) is) ∙ from_here
