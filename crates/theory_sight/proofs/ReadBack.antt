-- Reading back gives the walk back: over the same crossings, seen from the other end, the items come in
-- reverse, the depth is the same, and the walk ends where it began.
use Rattle.std.proofs.Common.{◌≡◌, refl, sym, ap, ap₂, ◌∙◌, arith, ℕ, ℤ, pos, neg_ℤ, ◌-ℤ◌, ◌*ℤ◌}
use Rattle.std.proofs.Common.{true, cond, ◌&&◌, List, [], ◌∷◌, ◌++◌, reverse, append_assoc}
use Rattle.std.proofs.Common.{Some, append-nil}
use Rattle.std.specs.Prelude.{⊤}
use Rattle.std.proofs.lemmas.Int.{ints}
use Rattle.std.proofs.lemmas.List.{reverse-append}
use Rattle.std.specs.Ordering.{int_eq}
use Rattle.std.proofs.lemmas.Bool.Decides.{Decides-int_eq}
use Rattle.theory_numbers.specs.Rationals.{rational}
use Rattle.theory_numbers.proofs.Shapes.{var, times, negated, equal}
use Rattle.theory_numbers.proofs.Signs.{same_tests}
use Rattle.sb_fraction.specs.Spots.{Vector, opposite}
use Rattle.sb_model.specs.declared.labels.label.Label.TheVariants as label
use Rattle.sb_model.specs.declared.layers.Layering.{Layering}
use Rattle.sb_model.specs.declared.layers.Layering.TheVariants.{Plain, Single, Layered}
use Rattle.sb_model.specs.declared.products.Element.{Element}
use Rattle.sb_model.specs.declared.walk.End.TheVariants as end
use Rattle.sb_model.specs.declared.walk.Item.{Item}
use Rattle.sb_model.specs.Building.{Building}
use Rattle.sb_model.specs.Labels.{axis_vector}
use Rattle.sb_model.specs.Walks.{Course, course, lies_along, is_parallel, is_in_reach, element_numbered}
use Rattle.theory_sight.specs.Bands.{items_between}
use Rattle.theory_sight.specs.Reading.{FarEnd, square, Stretch, stretch, is_passed_over, ends_at, behind}
use Rattle.theory_sight.specs.Reading.{read_element, read, Crossing, end_position, AllPassed, items_of}
use Rattle.theory_sight.specs.Reading.{all_items, there, back}
use Rattle.theory_sight.proofs.ItemsReversed.{LiesWithin, items_reversed, unit-opposite}

-- ---- the other way an element is passed too

turned_equal : (s t : ℤ) → int_eq (neg_ℤ s) (neg_ℤ t) ≡ int_eq s t
turned_equal s t =
    same_tests (int_eq (neg_ℤ s) (neg_ℤ t)) (int_eq s t)
    (λ same. (Decides-int_eq s t).1 (back_from ((Decides-int_eq (neg_ℤ s) (neg_ℤ t)).0 same)))
    (λ same.
    (Decides-int_eq (neg_ℤ s) (neg_ℤ t)).1 (ap neg_ℤ ((Decides-int_eq s t).0 same)))
  where
    back_from : neg_ℤ s ≡ neg_ℤ t → s ≡ t
    back_from same = omega (arith, ints)

parallel_back : (a n : Vector) → is_parallel a (opposite n) ≡ is_parallel a n
parallel_back a n =
    ap₂ (λ p q. p && q) (one a.y n.z a.z n.y)
    (ap₂ (λ p q. p && q) (one a.z n.x a.x n.z) (one a.x n.y a.y n.x))
  where
    one : (b k c l : ℤ)
        → int_eq (b *ℤ neg_ℤ k) (c *ℤ neg_ℤ l) ≡ int_eq (b *ℤ k) (c *ℤ l)
    one b k c l =
        ap₂ int_eq (turned b k) (turned c l) ∙ turned_equal (b *ℤ k) (c *ℤ l)
      where
        turned : (b k : ℤ) → b *ℤ neg_ℤ k ≡ neg_ℤ (b *ℤ k)
        turned b k = equal (times (var b) (negated (var k))) (negated (times (var b) (var k))) (omega arith)

along_back : (layering : Layering) (n : Vector) → lies_along layering (opposite n) ≡ lies_along layering n
along_back Plain n = refl
along_back (Single material) n = refl
along_back (Layered layers axis) n = parallel_back (axis_vector axis) n

-- in both senses an element is passed, or in none
pub passed_back : (m : Building) (n : Vector) (e : Element) (x y : ℤ)
    → is_passed_over m (opposite n) e (neg_ℤ y) (neg_ℤ x) ≡ is_passed_over m n e x y
passed_back m n e x y =
    ap₂ (λ p q. p && q) (along_back e.layering n)
    (ap₂ (λ unit k. is_in_reach m.reach unit (rational k (pos 1))) (unit-opposite n) (turned x y))
  where
    turned : (x y : ℤ) → neg_ℤ x -ℤ neg_ℤ y ≡ y -ℤ x
    turned x y = omega (arith, ints)

-- ---- over several crossings

behind-append : (is js : List Item) (w : Course) → behind is (behind js w) ≡ behind (is ++ js) w
behind-append is js w = ap (λ items. course items w.depth w.end) (sym (append_assoc is js w.items))

behind-nothing : (w : Course) → w ≡ behind [] w
behind-nothing w = refl

-- one crossing that is passed
one_passed : (m : Building) (n : Vector) (x0 at y : ℤ) (k : ℕ) (e : Element) (further : List Stretch)
    → element_numbered m k ≡ Some e → is_passed_over m n e at y ≡ true
    → read m n x0 at (stretch (label.Element k 0) (square y) ∷ further)
    ≡ behind (items_between e n at y) (read m n x0 y further)
one_passed m n x0 at y k e further numbered passes =
    ap (λ o. read_element m n x0 at k o (square y) (λ z. read m n x0 z further)) numbered
    ∙ ap
    (λ t.
    cond t (behind (items_between e n at y) (read m n x0 y further))
    (ends_at x0 at (end.Solid e.number))) passes

module _ (m : Building) (n : Vector) where
  -- on the way there: the items of all crossings, and then what is read behind them
  read_there : (x0 at : ℤ) (cs : List Crossing) (further : List Stretch) → AllPassed m n at cs
      → read m n x0 at (there cs further)
      ≡ behind (all_items m n at cs) (read m n x0 (end_position at cs) further)
  read_there x0 at [] further passed = behind-nothing (read m n x0 at further)
  read_there x0 at (c ∷ cs) further (e, numbered, passes, rest) =
      one_passed m n x0 at c.to c.element e (there cs further) numbered passes
      ∙ ap (behind (items_between e n at c.to)) (read_there x0 c.to cs further rest)
      ∙ behind-append (items_between e n at c.to) (all_items m n c.to cs)
      (read m n x0 (end_position c.to cs) further)
      ∙ ap
      (λ is. behind (is ++ all_items m n c.to cs) (read m n x0 (end_position c.to cs) further))
      (ap (λ o. items_of o n at c.to) (sym numbered))

  -- each crossing lies within the extent of its element
  abbrev pub AllWithin : ℤ → List Crossing → Type 0
  AllWithin at [] = ⊤
  AllWithin at (c ∷ cs) =
      ((e : Element) → element_numbered m c.element ≡ Some e → LiesWithin e n at c.to)
      × AllWithin c.to cs

  -- on the way back: the items reversed
  read_home : (z at : ℤ) (cs : List Crossing) (further : List Stretch) → AllPassed m n at cs
      → AllWithin at cs
      → read m (opposite n) z (neg_ℤ (end_position at cs)) (back at cs further)
      ≡ behind (reverse (all_items m n at cs)) (read m (opposite n) z (neg_ℤ at) further)
  read_home z at [] further passed within =
      behind-nothing (read m (opposite n) z (neg_ℤ at) further)
  read_home z at (c ∷ cs) further (e, numbered, passes, rest) within =
      read_home z c.to cs (stretch (label.Element c.element 0) (square (neg_ℤ at)) ∷ further) rest
      within.1
      ∙ ap (behind (reverse (all_items m n c.to cs)))
      (one_passed m (opposite n) z (neg_ℤ c.to) (neg_ℤ at) c.element e further numbered
      (passed_back m n e at c.to ∙ passes))
      ∙ behind-append (reverse (all_items m n c.to cs))
      (items_between e (opposite n) (neg_ℤ c.to) (neg_ℤ at))
      (read m (opposite n) z (neg_ℤ at) further)
      ∙ ap (λ is. behind is (read m (opposite n) z (neg_ℤ at) further))
      (ap (λ is. reverse (all_items m n c.to cs) ++ is)
      (items_reversed e n at c.to (within.0 e numbered)
      ∙ ap (λ o. reverse (items_of o n at c.to)) (sym numbered))
      ∙ sym (reverse-append (items_of (element_numbered m c.element) n at c.to) (all_items m n c.to cs)))

  -- a walk from space s over these crossings to space t, and back
  pub there_and_back : (x0 : ℤ) (cs : List Crossing) (s t : ℕ) (far near : FarEnd)
      (beyond before : List Stretch) → AllPassed m n x0 cs → AllWithin x0 cs
      → (read m n x0 x0 (there cs (stretch (label.Space t) far ∷ beyond))
      ≡ course (all_items m n x0 cs) (rational (end_position x0 cs -ℤ x0) (pos 1)) (end.Space t))
      × (read m (opposite n) (neg_ℤ (end_position x0 cs)) (neg_ℤ (end_position x0 cs))
      (back x0 cs (stretch (label.Space s) near ∷ before))
      ≡ course (reverse (all_items m n x0 cs)) (rational (end_position x0 cs -ℤ x0) (pos 1))
      (end.Space s))
  there_and_back x0 cs s t far near beyond before passed within = (
    read_there x0 x0 cs (stretch (label.Space t) far ∷ beyond) passed
        ∙ ap
        (λ is. course is (rational (end_position x0 cs -ℤ x0) (pos 1)) (end.Space t))
        (append-nil (all_items m n x0 cs)),
    read_home (neg_ℤ (end_position x0 cs)) x0 cs (stretch (label.Space s) near ∷ before) passed
        within
        ∙ ap₂ (λ is k. course is (rational k (pos 1)) (end.Space s))
        (append-nil (reverse (all_items m n x0 cs))) (turned (end_position x0 cs) x0),
  )
    where
      turned : (y x : ℤ) → neg_ℤ x -ℤ neg_ℤ y ≡ y -ℤ x
      turned y x = omega (arith, ints)
