-- The walk as a function of what a ray meets, stretch by stretch. It looks at labels, at numbers and at
-- whole positions, and at nothing else.
use Rattle.std.specs.Prelude.{◌≡◌, ℕ, ℤ, pos, ◌-ℤ◌, Bool, true, false, ◌&&◌, List, [], ◌∷◌, ◌++◌}
use Rattle.std.specs.Prelude.{Option, Some, None, neg_ℤ, if◌then◌else◌, ⊤}
use Rattle.theory_numbers.specs.Arrows.{Arrow}
use Rattle.theory_numbers.specs.Rationals.{rational}
use Rattle.theory_cuttings.specs.Cuttings.{Break}
use Rattle.sb_fraction.specs.Spots.{Vector, inner}
use Rattle.sb_model.specs.declared.labels.label.Label.{Label}
use Rattle.sb_model.specs.declared.labels.label.Label.TheVariants as label
use Rattle.sb_model.specs.declared.products.Element.{Element}
use Rattle.sb_model.specs.declared.walk.End.{End}
use Rattle.sb_model.specs.declared.walk.End.TheVariants as end
use Rattle.sb_model.specs.declared.walk.Item.{Item}
use Rattle.sb_model.specs.Building.{Building}
use Rattle.sb_model.specs.Passages.{Ray, at_depth}
use Rattle.sb_model.specs.Walks.{Course, course, is_square, lies_along, is_in_reach, element_numbered}
use Rattle.theory_sight.specs.Bands.{items_between}

-- how a stretch ends: square, at a whole position; not square; or never
pub data FarEnd : Type 0 where
  square : ℤ → FarEnd
  slanted : FarEnd
  never : FarEnd

-- a part of a ray with one coarse label
pub record Stretch : Type 0 where
  pub label : Label
  pub far : FarEnd

-- a label up to a far end
abbrev pub stretch : Label → FarEnd → Stretch
stretch l far = record { label = l; far = far }

-- an element is passed from one position to another: it has no axis that is not parallel to the
-- normal, and the crossing is within reach
abbrev pub is_passed_over : Building → Vector → Element → ℤ → ℤ → Bool
is_passed_over m n e x y =
    lies_along e.layering n && is_in_reach m.reach (inner n n) (rational (y -ℤ x) (pos 1))

-- a walk from position x0 that ends at position `at`
abbrev pub ends_at : ℤ → ℤ → End → Course
ends_at x0 at found = course [] (rational (at -ℤ x0) (pos 1)) found

-- the items of a crossing, and then what follows
abbrev pub behind : List Item → Course → Course
behind items rest = course (items ++ rest.items) rest.depth rest.end

-- at an element: it is passed, and the walk goes on behind it, or it ends the walk
abbrev pub read_element : Building → Vector → ℤ → ℤ → ℕ → Option Element → FarEnd → (ℤ → Course)
    → Course
read_element m n x0 at k None far goes_on = ends_at x0 at (end.Solid k)
read_element m n x0 at k (Some e) (square y) goes_on =
    if is_passed_over m n e at y
    then behind (items_between e n at y) (goes_on y)
    else ends_at x0 at (end.Solid e.number)
read_element m n x0 at k (Some e) slanted goes_on = ends_at x0 at (end.Solid e.number)
read_element m n x0 at k (Some e) never goes_on = ends_at x0 at (end.Solid e.number)

-- at a stretch, by its label
abbrev pub read_stretch : Building → Vector → ℤ → ℤ → Label → FarEnd → (ℤ → Course) → Course
read_stretch m n x0 at (label.Space k) far goes_on = ends_at x0 at (end.Space k)
read_stretch m n x0 at label.Void far goes_on = ends_at x0 at end.Outside
read_stretch m n x0 at label.Earth far goes_on = ends_at x0 at end.Earth
read_stretch m n x0 at (label.Element k layer) far goes_on =
    read_element m n x0 at k (element_numbered m k) far goes_on

-- the walk from position x0 over these stretches, the first of which begins at `at`: spaces, air and
-- earth end it, elements are passed or end it. A ray has a stretch that never ends, so the list does
-- not run out
abbrev pub read : Building → Vector → ℤ → ℤ → List Stretch → Course
read m n x0 at [] = ends_at x0 at end.Outside
read m n x0 at (s ∷ ss) = read_stretch m n x0 at s.label s.far (λ y. read m n x0 y ss)

-- ---- the stretches of a ray

-- at this depth the stretch ends so
abbrev pub IsFarEnd : Building → Ray → ℤ → Arrow → FarEnd → Type 0
IsFarEnd m r x0 depth (square y) =
    (depth ≡ rational (y -ℤ x0) (pos 1)) × (is_square m r (at_depth r depth) ≡ true)
IsFarEnd m r x0 depth slanted = is_square m r (at_depth r depth) ≡ false
IsFarEnd m r x0 depth never = ⊥

-- the stretches of a ray that begin at these depths, each with its label
abbrev pub AreStretches : Building → Ray → ℤ → List (Break Label) → List Stretch → Type 0
AreStretches m r x0 [] ss = ⊥
AreStretches m r x0 (b ∷ bs) [] = ⊥
AreStretches m r x0 (b ∷ []) (s ∷ []) = (s.label ≡ b.label) × (s.far ≡ never)
AreStretches m r x0 (b ∷ []) (s ∷ t ∷ ss) = ⊥
AreStretches m r x0 (b ∷ c ∷ bs) (s ∷ ss) =
    (s.label ≡ b.label) × IsFarEnd m r x0 c.start s.far × AreStretches m r x0 (c ∷ bs) ss

-- ---- how far is read, and back

-- at an element the walk ends, or goes on behind it
abbrev pub ends_in_element : Building → Vector → ℤ → Option Element → FarEnd → (ℤ → Bool) → Bool
ends_in_element m n at (Some e) (square y) goes_on =
    if is_passed_over m n e at y then goes_on y else true
ends_in_element m n at _ far goes_on = true

-- at a stretch, by its label
abbrev pub ends_in_stretch : Building → Vector → ℤ → Label → FarEnd → (ℤ → Bool) → Bool
ends_in_stretch m n at (label.Element k layer) far goes_on =
    ends_in_element m n at (element_numbered m k) far goes_on
ends_in_stretch m n at _ far goes_on = true

-- the walk ends in these stretches
abbrev pub ends_in : Building → Vector → ℤ → List Stretch → Bool
ends_in m n at [] = false
ends_in m n at (s ∷ ss) = ends_in_stretch m n at s.label s.far (λ y. ends_in m n y ss)

-- an element that a walk passes: its number, and the position behind it
pub record Crossing : Type 0 where
  pub element : ℕ
  pub to : ℤ

-- the position behind all of them
abbrev pub end_position : ℤ → List Crossing → ℤ
end_position at [] = at
end_position at (c ∷ cs) = end_position c.to cs

-- each is an element of the model and is passed
abbrev pub AllPassed : Building → Vector → ℤ → List Crossing → Type 0
AllPassed m n at [] = ⊤
AllPassed m n at (c ∷ cs) =
    (e : Element) × (element_numbered m c.element ≡ Some e)
    × (is_passed_over m n e at c.to ≡ true) × AllPassed m n c.to cs

-- the items of a crossing of the element, if there is one
abbrev pub items_of : Option Element → Vector → ℤ → ℤ → List Item
items_of None n x y = []
items_of (Some e) n x y = items_between e n x y

-- the items of all of them, in order
abbrev pub all_items : Building → Vector → ℤ → List Crossing → List Item
all_items m n at [] = []
all_items m n at (c ∷ cs) =
    items_of (element_numbered m c.element) n at c.to ++ all_items m n c.to cs

-- their stretches on the way there, and then further ones
abbrev pub there : List Crossing → List Stretch → List Stretch
there [] further = further
there (c ∷ cs) further = stretch (label.Element c.element 0) (square c.to) ∷ there cs further

-- and on the way back, where positions are counted the other way: each ends where it began
abbrev pub back : ℤ → List Crossing → List Stretch → List Stretch
back at [] further = further
back at (c ∷ cs) further =
    back c.to cs (stretch (label.Element c.element 0) (square (neg_ℤ at)) ∷ further)
