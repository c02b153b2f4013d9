-- The walk through a layered wall between two rooms: plaster, brick and gypsum, depth 100, and the
-- other room at the end.

use Rattle.std.proofs.Common.{◌≡◌, refl, ap, ◌∙◌, arith, ℕ, ◌+◌, ◌*◌, ◌<◌, ◌≤◌, ℤ, pos, negsuc}
use Rattle.std.proofs.Common.{◌<ℤ◌, ◌-ℤ◌, Bool, true, false, ◌&&◌, List, [], ◌∷◌, nat_lt}
use Rattle.std.proofs.lemmas.Int.{ints}
use Rattle.std.proofs.lemmas.Bool.{lt-ltb, le-ltb, and_from, and_left, and_right}
use Rattle.theory_numbers.specs.Divisors.{greatest_divisor, divisor_within}
use Rattle.theory_numbers.specs.Fractions.{reduced, whole}
use Rattle.theory_numbers.proofs.Fractions.LowestTerms.{lowest_is_reduced}
use Rattle.theory_numbers.proofs.Fractions.Reduced.{whole_is_reduced}
use Rattle.theory_numbers.specs.Arrows.{Arrow, arrow, cross, dot}
use Rattle.theory_numbers.specs.Reduced.{IsReduced}
use Rattle.theory_numbers.proofs.Signs.{test_less, test_not_less, test_at_most}
use Rattle.theory_numbers.specs.Rationals.{rational}
use Rattle.theory_cuttings.specs.Cuttings.{Break}
use Rattle.theory_cuttings.specs.Changes.{break_at}
use Rattle.theory_cuttings.specs.Passages.{ray_start}
use Rattle.sb_model.specs.declared.labels.label.Label.{Label}
use Rattle.sb_model.specs.declared.labels.label.Label.TheVariants as label
use Rattle.sb_model.specs.declared.walk.End.TheVariants as end
use Rattle.sb_model.specs.declared.walk.Item.{Item}
use Rattle.sb_model.specs.declared.walk.Walk.{Walk}
use Rattle.sb_fraction.specs.Spots.{Spot, spot, vector}
use Rattle.sb_model.specs.Solids.{is_in_solid, is_between_heights}
use Rattle.sb_model.specs.Labels.{label_at}
use Rattle.sb_model.specs.Passages.{Ray, ray_from, at_depth, ArePassages}
use Rattle.sb_model.specs.Walks.{item, course, IsWalkOf}
use Rattle.theory_models.proofs.ExampleModels.{block, layered_wall_between_rooms}
use Rattle.theory_plans.proofs.InsideRectangle.{inside_rectangle}

-- the ray from (4000, 1500, 1000) on Side(1) of space #20, along x
abbrev through_the_wall : Ray
through_the_wall =
    ray_from (spot (pos 4000) (pos 1500) (pos 1000) (pos 1)) (vector (pos 1) (pos 0) (pos 0))

-- its point at depth k/n
abbrev point : ℕ → ℕ → Spot
point n k = spot (pos (4000 * n + k)) (pos (1500 * n)) (pos (1000 * n)) (pos n)

same_spot : {a b c d e f g h : ℕ} → a ≡ e → b ≡ f → c ≡ g → d ≡ h
    → spot (pos a) (pos b) (pos c) (pos d) ≡ spot (pos e) (pos f) (pos g) (pos h)
same_spot {a} {b} {c} {d} {e} {f} {g} {h} p q r s =
    ap (λ t. spot (pos t) (pos b) (pos c) (pos d)) p
    ∙ ap (λ t. spot (pos e) (pos t) (pos c) (pos d)) q
    ∙ ap (λ t. spot (pos e) (pos f) (pos t) (pos d)) r
    ∙ ap (λ t. spot (pos e) (pos f) (pos g) (pos t)) s

point_at : (n k : ℕ) → at_depth through_the_wall (arrow (pos n) (pos k)) ≡ point n k
point_at n k = same_spot (omega arith) (omega arith) (omega arith) (omega arith)

-- the point lies between the sides along y and between the heights
between : (n : ℕ) (t : Bool) → 0 < n
    → ((t && (nat_lt (0 * n) (1500 * n) && nat_lt (1500 * n) (3000 * n)))
    && (nat_lt (0 * n) (1000 * n) && nat_lt (1000 * n) (2500 * n))) ≡ t
between n true some =
    rw (
      lt-ltb (0 * n) (1500 * n) (omega arith),
      lt-ltb (1500 * n) (3000 * n) (omega arith),
      lt-ltb (0 * n) (1000 * n) (omega arith),
      lt-ltb (1000 * n) (2500 * n) (omega arith),
    ) refl
between n false some = refl

-- it is inside a block of the row where it lies between its sides along x
in_block : (x0 x1 n k : ℕ) → x0 < x1 → 0 < n
    → is_in_solid (block x0 x1 0 3000 2500) (point n k)
    ≡ (nat_lt (x0 * n) (4000 * n + k) && nat_lt (4000 * n + k) (x1 * n))
in_block x0 x1 n k wide some =
    ap (λ b. b && is_between_heights (pos 0) (pos 2500) (point n k))
    (inside_rectangle (pos x0) (pos x1) (pos 0) (pos 3000) (point n k)
    (omega (arith, ints)) (omega (arith, ints)) (omega (arith, ints)))
    ∙ between n (nat_lt (x0 * n) (4000 * n + k) && nat_lt (4000 * n + k) (x1 * n)) some

-- ---- the labels on the ray, at depth k/n

-- what the two rooms, the wall and the layers say of the point
record IsSeen (n k : ℕ) (first second wall : Bool) : Type 0 where
  first_is : is_in_solid (block 0 4000 0 3000 2500) (point n k) ≡ first
  second_is : is_in_solid (block 4100 8100 0 3000 2500) (point n k) ≡ second
  wall_is : is_in_solid (block 4000 4100 0 3000 2500) (point n k) ≡ wall

-- a block that ends short of the point does not contain it, nor does one that begins behind it
ends_before : (x0 x1 n k : ℕ) → x0 < x1 → 0 < n → x1 * n ≤ 4000 * n + k
    → is_in_solid (block x0 x1 0 3000 2500) (point n k) ≡ false
ends_before x0 x1 n k wide some short =
    in_block x0 x1 n k wide some
    ∙ and_right (nat_lt (x0 * n) (4000 * n + k)) _ (le-ltb (4000 * n + k) (x1 * n) short)

begins_behind : (x0 x1 n k : ℕ) → x0 < x1 → 0 < n → 4000 * n + k ≤ x0 * n
    → is_in_solid (block x0 x1 0 3000 2500) (point n k) ≡ false
begins_behind x0 x1 n k wide some short =
    in_block x0 x1 n k wide some
    ∙ and_left _ (nat_lt (4000 * n + k) (x1 * n)) (le-ltb (x0 * n) (4000 * n + k) short)

-- one that begins before it and ends behind it does
reaches_over : (x0 x1 n k : ℕ) → x0 < x1 → 0 < n → x0 * n < 4000 * n + k → 4000 * n + k < x1 * n
    → is_in_solid (block x0 x1 0 3000 2500) (point n k) ≡ true
reaches_over x0 x1 n k wide some left right =
    in_block x0 x1 n k wide some
    ∙ and_from _ _ (lt-ltb (x0 * n) (4000 * n + k) left) (lt-ltb (4000 * n + k) (x1 * n) right)

-- in the wall
seen_in_wall : (n k : ℕ) → 0 < n → 0 < k → k < 100 * n → IsSeen n k false false true
seen_in_wall n k some after before = record {
  first_is = ends_before 0 4000 n k (omega arith) some (omega arith);
  second_is = begins_behind 4100 8100 n k (omega arith) some (omega arith);
  wall_is = reaches_over 4000 4100 n k (omega arith) some (omega arith) (omega arith);
}

-- in the other room
seen_in_room : (n k : ℕ) → 0 < n → 100 * n < k → k < 4100 * n → IsSeen n k false true false
seen_in_room n k some after before = record {
  first_is = ends_before 0 4000 n k (omega arith) some (omega arith);
  second_is = reaches_over 4100 8100 n k (omega arith) some (omega arith) (omega arith);
  wall_is = ends_before 4000 4100 n k (omega arith) some (omega arith);
}

-- behind it
seen_behind : (n k : ℕ) → 0 < n → 4100 * n < k → IsSeen n k false false false
seen_behind n k some after = record {
  first_is = ends_before 0 4000 n k (omega arith) some (omega arith);
  second_is = ends_before 4100 8100 n k (omega arith) some (omega arith);
  wall_is = ends_before 4000 4100 n k (omega arith) some (omega arith);
}

-- the label by what is seen
label_in_room : (n k : ℕ) → IsSeen n k false true false
    → label_at layered_wall_between_rooms (point n k) ≡ label.Space 21
label_in_room n k seen = rw (seen.first_is, seen.second_is) refl

label_behind : (n k : ℕ) → IsSeen n k false false false
    → label_at layered_wall_between_rooms (point n k) ≡ label.Void
label_behind n k seen =
    rw (seen.first_is, seen.second_is, seen.wall_is, le-ltb (1000 * n) (0 * n) (omega arith)) refl

-- the reading of the point along x, from the wall's near end on
depth_in_wall : (n k : ℕ)
    → (pos ((4000 * n + k) * 1 + 1500 * n * 0 + 1000 * n * 0) -ℤ pos (4000 * n)) ≡ pos k
depth_in_wall n k = omega (arith, ints)

-- up to 12.5, up to 87.5 and from there on
label_in_first : (n k : ℕ) → 2 * k < 25 * n → IsSeen n k false false true
    → label_at layered_wall_between_rooms (point n k) ≡ label.Element 30 1
label_in_first n k before seen =
    rw (
      seen.first_is,
      seen.second_is,
      seen.wall_is,
      depth_in_wall n k,
      test_at_most (pos (100 * n * 0)) (pos (k * 100000)) (omega (arith, ints)),
      test_less (pos (k * 100000)) (pos (100 * n * 12500)) (omega (arith, ints)),
    ) refl

label_in_second : (n k : ℕ) → 25 * n < 2 * k → 2 * k < 175 * n → IsSeen n k false false true
    → label_at layered_wall_between_rooms (point n k) ≡ label.Element 30 2
label_in_second n k after before seen =
    rw (
      seen.first_is,
      seen.second_is,
      seen.wall_is,
      depth_in_wall n k,
      test_at_most (pos (100 * n * 0)) (pos (k * 100000)) (omega (arith, ints)),
      test_not_less (pos (k * 100000)) (pos (100 * n * 12500)) (omega (arith, ints)),
      test_at_most (pos (100 * n * 12500)) (pos (k * 100000)) (omega (arith, ints)),
      test_less (pos (k * 100000)) (pos (100 * n * 87500)) (omega (arith, ints)),
    ) refl

label_in_third : (n k : ℕ) → 175 * n < 2 * k → k < 100 * n → IsSeen n k false false true
    → label_at layered_wall_between_rooms (point n k) ≡ label.Element 30 3
label_in_third n k after before seen =
    rw (
      seen.first_is,
      seen.second_is,
      seen.wall_is,
      depth_in_wall n k,
      test_at_most (pos (100 * n * 0)) (pos (k * 100000)) (omega (arith, ints)),
      test_not_less (pos (k * 100000)) (pos (100 * n * 12500)) (omega (arith, ints)),
      test_at_most (pos (100 * n * 12500)) (pos (k * 100000)) (omega (arith, ints)),
      test_not_less (pos (k * 100000)) (pos (100 * n * 87500)) (omega (arith, ints)),
      test_at_most (pos (100 * n * 87500)) (pos (k * 100000)) (omega (arith, ints)),
      test_at_most (pos (k * 100000)) (pos (100 * n * 100000)) (omega (arith, ints)),
    ) refl

-- ---- the passages

-- the label at a depth y/x
abbrev label_along : Arrow → Label
label_along depth = label_at layered_wall_between_rooms (at_depth through_the_wall depth)

-- a fact about a depth y/x after 0 is one about whole numbers above 0
by_numbers : (P : ℤ → ℤ → Type 0) → ((n k : ℕ) → 0 < n → P (pos n) (pos k))
    → ((n k : ℕ) → 0 < n → P (pos n) (negsuc k)) → (x y : ℤ) → pos 0 <ℤ x → P x y
by_numbers P all none (pos n) (pos k) some = all n k (omega (arith, ints))
by_numbers P all none (pos n) (negsuc k) some = none n k (omega (arith, ints))
by_numbers P all none (negsuc n) y some = absurd (omega (arith, ints))

-- the fractions at which the label changes are reduced
first_break_reduced : IsReduced (pos 25) (pos 2)
unfolding greatest_divisor divisor_within
first_break_reduced = lowest_is_reduced (record { num = pos 25; den = pos 2 }) refl

second_break_reduced : IsReduced (pos 175) (pos 2)
unfolding greatest_divisor divisor_within
second_break_reduced = lowest_is_reduced (record { num = pos 175; den = pos 2 }) refl

-- the breaks: 0, 12.5, 87.5, 100 and 4100
abbrev later_breaks : List (Break Label)
later_breaks =
    break_at (rational (pos 25) (pos 2)) (label.Element 30 2)
    ∷ break_at (rational (pos 175) (pos 2)) (label.Element 30 3)
    ∷ break_at (rational (pos 100) (pos 1)) (label.Space 21)
    ∷ break_at (rational (pos 4100) (pos 1)) label.Void ∷ []

abbrev wall_breaks : List (Break Label)
wall_breaks = break_at ray_start (label.Element 30 1) ∷ later_breaks

-- the label is l at all depths strictly between two
abbrev IsLabelBetween : Arrow → Arrow → Label → ℤ → ℤ → Type 0
IsLabelBetween low high l x y =
    pos 0 <ℤ cross low (arrow x y) → pos 0 <ℤ cross (arrow x y) high → label_along (arrow x y) ≡ l

-- it is where the points between them have this label, and no depth below 0 is between them
between_depths : (low high : Arrow) (l : Label)
    → ((n k : ℕ) → 0 < n → pos 0 <ℤ cross low (arrow (pos n) (pos k))
    → pos 0 <ℤ cross (arrow (pos n) (pos k)) high
    → label_at layered_wall_between_rooms (point n k) ≡ l)
    → ((n k : ℕ) → 0 < n → pos 0 <ℤ cross low (arrow (pos n) (negsuc k)) → ⊥)
    → (x y : ℤ) → pos 0 <ℤ x → IsLabelBetween low high l x y
between_depths low high l here none =
    by_numbers (IsLabelBetween low high l)
    (λ n k some after before. ap (label_at layered_wall_between_rooms) (point_at n k)
    ∙ here n k some after before)
    (λ n k some after before. absurd (none n k some after))

in_first : (x y : ℤ) → pos 0 <ℤ x
    → IsLabelBetween ray_start (rational (pos 25) (pos 2)) (label.Element 30 1) x y
unfolding cross
in_first =
    between_depths ray_start (rational (pos 25) (pos 2)) (label.Element 30 1)
    (λ n k some after before.
    let more : 0 < k = omega (arith, ints) in
    let less : 2 * k < 25 * n = omega (arith, ints) in
    label_in_first n k less (seen_in_wall n k some more (omega arith)))
    (λ n k some after. omega (arith, ints))

in_second : (x y : ℤ) → pos 0 <ℤ x
    → IsLabelBetween (rational (pos 25) (pos 2)) (rational (pos 175) (pos 2))
    (label.Element 30 2) x y
unfolding cross
in_second =
    between_depths (rational (pos 25) (pos 2)) (rational (pos 175) (pos 2)) (label.Element 30 2)
    (λ n k some after before.
    let more : 25 * n < 2 * k = omega (arith, ints) in
    let less : 2 * k < 175 * n = omega (arith, ints) in
    label_in_second n k more less (seen_in_wall n k some (omega arith) (omega arith)))
    (λ n k some after. omega (arith, ints))

in_third : (x y : ℤ) → pos 0 <ℤ x
    → IsLabelBetween (rational (pos 175) (pos 2)) (rational (pos 100) (pos 1))
    (label.Element 30 3) x y
unfolding cross
in_third =
    between_depths (rational (pos 175) (pos 2)) (rational (pos 100) (pos 1)) (label.Element 30 3)
    (λ n k some after before.
    let more : 175 * n < 2 * k = omega (arith, ints) in
    let less : k < 100 * n = omega (arith, ints) in
    label_in_third n k more less (seen_in_wall n k some (omega arith) less))
    (λ n k some after. omega (arith, ints))

in_room : (x y : ℤ) → pos 0 <ℤ x
    → IsLabelBetween (rational (pos 100) (pos 1)) (rational (pos 4100) (pos 1)) (label.Space 21) x y
unfolding cross
in_room =
    between_depths (rational (pos 100) (pos 1)) (rational (pos 4100) (pos 1)) (label.Space 21)
    (λ n k some after before.
    let more : 100 * n < k = omega (arith, ints) in
    let less : k < 4100 * n = omega (arith, ints) in
    label_in_room n k (seen_in_room n k some more less))
    (λ n k some after. omega (arith, ints))

-- and at all depths after the last break
abbrev IsLabelAfter : Arrow → Label → ℤ → ℤ → Type 0
IsLabelAfter low l x y = pos 0 <ℤ cross low (arrow x y) → label_along (arrow x y) ≡ l

behind : (x y : ℤ) → pos 0 <ℤ x → IsLabelAfter (rational (pos 4100) (pos 1)) label.Void x y
unfolding cross
behind =
    by_numbers (IsLabelAfter (rational (pos 4100) (pos 1)) label.Void)
    (λ n k some after.
    let more : 4100 * n < k = omega (arith, ints) in
    ap (label_at layered_wall_between_rooms) (point_at n k)
    ∙ label_behind n k (seen_behind n k some more))
    (λ n k some after. absurd (omega (arith, ints)))

-- the passages of the ray
the_passages : ArePassages layered_wall_between_rooms through_the_wall wall_breaks
unfolding cross
the_passages = (
  refl,
  record {
    cutting = (
      first_break_reduced,
      omega (arith, ints),
      (λ u good low high. in_first u.x u.y good low high),
      (
        second_break_reduced,
        omega (arith, ints),
        (λ u good low high. in_second u.x u.y good low high),
        (
          whole_is_reduced (pos 100),
          omega (arith, ints),
          (λ u good low high. in_third u.x u.y good low high),
          (
            whole_is_reduced (pos 4100),
            omega (arith, ints),
            (λ u good low high. in_room u.x u.y good low high),
            (tt, λ u good low high. behind u.x u.y good low),
          ),
        ),
      ),
    );
    different = ((λ e. cc), ((λ e. cc), ((λ e. cc), ((λ e. cc), tt))));
  },
)

-- ---- the walk

abbrev the_items : List Item
the_items =
    item 30 1 (whole (pos 12500)) ∷ item 30 2 (whole (pos 75000)) ∷ item 30 3 (whole (pos 12500))
    ∷ []

abbrev the_walk : Walk
the_walk = record { items = the_items; depth = pos 100; end = end.Space 21 }

-- three items, depth 100, and space #21 at the end
pub walk_through_the_wall : IsWalkOf layered_wall_between_rooms through_the_wall the_walk
unfolding cross dot reduced greatest_divisor divisor_within
walk_through_the_wall = (
  wall_breaks,
  (
    the_passages,
    (
      the_items,
      (
        course [] (rational (pos 100) (pos 1)) (end.Space 21),
        ((refl, (refl, (refl, tt))), (refl, refl)),
      ),
    ),
  ),
)
