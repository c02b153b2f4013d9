-- Read from its least point, a loop whose points differ begins at a point that comes before all others.

use Rattle.std.proofs.Common.{◌≡◌, refl, sym, ap, ◌∙◌, subst, ◌⊎◌, inl, inr, arith}
use Rattle.std.proofs.Common.{◌<ℤ◌, Bool, true, false, not, ◌&&◌, int_lt, List, [], ◌∷◌, ◌++◌}
use Rattle.std.proofs.Common.{if◌then◌else◌, length}
use Rattle.std.specs.Ordering.{int_eq}
use Rattle.std.specs.List.{list_all, AllByRecursion}
use Rattle.std.proofs.lemmas.Int.{ints}
use Rattle.std.proofs.lemmas.Bool.{and_parts, and_from, or_cases, or_left, or_right, false≢true}
use Rattle.std.proofs.lemmas.Bool.{false_from_ne_true}
use Rattle.std.proofs.lemmas.Bool.Decides.{Decides-int_eq}
use Rattle.theory_lists.specs.Members.{Stands}
use Rattle.theory_lists.proofs.Blocks.{all-append}
use Rattle.theory_numbers.proofs.Signs.{less_from, test_less, order_cases}
use Rattle.sb_fraction.specs.declared.point.Point.{Point}
use Rattle.theory_plans.specs.Loops.{comes_before, is_least_first}
use Rattle.theory_plans.specs.Plans.{is_same_point, is_of_each_two}
use Rattle.theory_plans.proofs.Edges.EdgesOfPlans.{same_point}
use Rattle.theory_loops.specs.Normal.{first_of, least_of, read_from, from_least}
use Rattle.theory_loops.proofs.DropsKeep.{from_least_keeps}

-- ---- the order of points

abbrev IsBefore : Point → Point → Type 0
IsBefore a b = (a.x <ℤ b.x) ⊎ ((a.x ≡ b.x) × (a.y <ℤ b.y))

before_from : (a b : Point) → comes_before a b ≡ true → IsBefore a b
before_from a b before =
    from (or_cases (int_lt a.x b.x) (int_eq a.x b.x && int_lt a.y b.y) before)
  where
    from : (int_lt a.x b.x ≡ true) ⊎ ((int_eq a.x b.x && int_lt a.y b.y) ≡ true) → IsBefore a b
    from (inl less) = inl (less_from a.x b.x less)
    from (inr level) =
        let parts = and_parts (int_eq a.x b.x) (int_lt a.y b.y) level in
        inr ((Decides-int_eq a.x b.x).0 parts.0, less_from a.y b.y parts.1)

test_before : (a b : Point) → IsBefore a b → comes_before a b ≡ true
test_before a b (inl less) =
    or_left (int_lt a.x b.x) (int_eq a.x b.x && int_lt a.y b.y) (test_less a.x b.x less)
test_before a b (inr level) =
    or_right (int_lt a.x b.x) (int_eq a.x b.x && int_lt a.y b.y)
    (and_from (int_eq a.x b.x) (int_lt a.y b.y) ((Decides-int_eq a.x b.x).1 level.0)
    (test_less a.y b.y level.1))

through : (a b c : Point) → IsBefore a b → IsBefore b c → IsBefore a c
through a b c (inl first) (inl second) = inl (omega (arith, ints))
through a b c (inl first) (inr second) = let same = second.0 in inl (omega (arith, ints))
through a b c (inr first) (inl second) = let same = first.0 in inl (omega (arith, ints))
through a b c (inr first) (inr second) =
    let one = first.1 in
    let other = second.1 in
    inr (first.0 ∙ second.0, omega (arith, ints))

not_before_itself : (a : Point) → comes_before a a ≡ false
not_before_itself a = false_from_ne_true (comes_before a a) (λ before. from (before_from a a before))
  where
    from : IsBefore a a → ⊥
    from (inl less) = absurd (omega (arith, ints))
    from (inr level) = let less = level.1 in absurd (omega (arith, ints))

-- a point before another is not behind it
pub behind_is_not_before : (a b : Point) → comes_before a b ≡ true → comes_before b a ≡ false
behind_is_not_before a b before =
    false_from_ne_true (comes_before b a) (λ other.
    false≢true
    (sym (not_before_itself a)
    ∙ test_before a a (through a b a (before_from a b before) (before_from b a other))))

-- of two points of which the second is not before the first, and that differ, the first is before
pub before_or_same : (a b : Point) → comes_before b a ≡ false → not (is_same_point a b) ≡ true
    → comes_before a b ≡ true
before_or_same a b late other = test_before a b (by_x (order_cases a.x b.x))
  where
    never : IsBefore b a → ⊥
    never before = false≢true (sym late ∙ test_before b a before)

    by_y : a.x ≡ b.x → ((a.y <ℤ b.y) ⊎ (a.y ≡ b.y)) ⊎ (b.y <ℤ a.y) → IsBefore a b
    by_y same (inl (inl less)) = inr (same, less)
    by_y same (inl (inr level)) =
        absurd
        (false≢true
        (sym (ap not (and_from (int_eq a.x b.x) (int_eq a.y b.y)
        ((Decides-int_eq a.x b.x).1 same) ((Decides-int_eq a.y b.y).1 level))) ∙ other))
    by_y same (inr more) = absurd (never (inr (sym same, more)))

    by_x : ((a.x <ℤ b.x) ⊎ (a.x ≡ b.x)) ⊎ (b.x <ℤ a.x) → IsBefore a b
    by_x (inl (inl less)) = inl less
    by_x (inl (inr same)) = by_y same (order_cases a.y b.y)
    by_x (inr more) = absurd (never (inl more))

-- ---- the least point

abbrev pub IsNotBefore : Point → Point → Type 0
IsNotBefore m x = comes_before x m ≡ false

lesser_keeps : (x a b : Point) → IsNotBefore a x → IsNotBefore (if comes_before b a then b else a) x
lesser_keeps x a b late = by (comes_before b a) refl
  where
    by : (t : Bool) → comes_before b a ≡ t → IsNotBefore (if t then b else a) x
    by true before =
        false_from_ne_true (comes_before x b) (λ x_before.
        false≢true
        (sym late
        ∙ test_before x a (through x b a (before_from x b x_before) (before_from b a before))))
    by false behind = late

lesser_is_least : (a b : Point) → IsNotBefore (if comes_before b a then b else a) b
lesser_is_least a b = by (comes_before b a) refl
  where
    by : (t : Bool) → comes_before b a ≡ t → IsNotBefore (if t then b else a) b
    by true before = not_before_itself b
    by false behind = behind

not_before_least : (x a : Point) (points : List Point) → IsNotBefore a x
    → IsNotBefore (least_of a points) x
not_before_least x a [] late = late
not_before_least x a (b ∷ points) late =
    not_before_least x (if comes_before b a then b else a) points (lesser_keeps x a b late)

none_before_rest : (a : Point) (points : List Point)
    → AllByRecursion (IsNotBefore (least_of a points)) points
none_before_rest a [] = tt
none_before_rest a (b ∷ points) = (
  not_before_least b (if comes_before b a then b else a) points (lesser_is_least a b),
  none_before_rest (if comes_before b a then b else a) points,
)

-- no point of the loop comes before the least
none_before_least : (a : Point) (points : List Point)
    → AllByRecursion (IsNotBefore (least_of a points)) (a ∷ points)
none_before_least a points =
    (not_before_least a a points (not_before_itself a), none_before_rest a points)

least_stands : (a : Point) (points : List Point) → Stands (least_of a points) (a ∷ points)
least_stands a [] = inl refl
least_stands a (b ∷ points) =
    by (comes_before b a) (least_stands (if comes_before b a then b else a) points) refl
  where
    from_b : (m : Point) → Stands m (b ∷ points) → Stands m (a ∷ b ∷ points)
    from_b m stands = inr stands

    from_a : (m : Point) → Stands m (a ∷ points) → Stands m (a ∷ b ∷ points)
    from_a m (inl same) = inl same
    from_a m (inr later) = inr (inr later)

    by : (t : Bool) → Stands (least_of (if comes_before b a then b else a) points)
        ((if comes_before b a then b else a) ∷ points)
        → comes_before b a ≡ t
        → Stands (least_of (if comes_before b a then b else a) points) (a ∷ b ∷ points)
    by true stands before =
        from_b (least_of (if comes_before b a then b else a) points)
        (subst (λ l. Stands (least_of (if comes_before b a then b else a) points) (l ∷ points))
        (ap (λ t. if t then b else a) before) stands)
    by false stands behind =
        from_a (least_of (if comes_before b a then b else a) points)
        (subst (λ l. Stands (least_of (if comes_before b a then b else a) points) (l ∷ points))
        (ap (λ t. if t then b else a) behind) stands)

-- ---- begun at it

-- a point is one with itself
pub same_as_itself : (a : Point) → is_same_point a a ≡ true
same_as_itself a =
    and_from (int_eq a.x a.x) (int_eq a.y a.y) ((Decides-int_eq a.x a.x).1 refl)
    ((Decides-int_eq a.y a.y).1 refl)

begins : (m : Point) (passed points : List Point) → Stands m points
    → (rest : List Point) × (read_from m passed points ≡ m ∷ rest)
begins m passed [] stands = absurd stands
begins m passed (b ∷ points) stands =
    by (is_same_point b m) refl stands (begins m (passed ++ (b ∷ [])) points)
  where
    by : (t : Bool) → is_same_point b m ≡ t → (m ≡ b) ⊎ Stands m points
        → (Stands m points
        → (rest : List Point) × (read_from m (passed ++ (b ∷ [])) points ≡ m ∷ rest))
        → (rest : List Point)
        × ((if t then b ∷ (points ++ passed) else read_from m (passed ++ (b ∷ [])) points)
        ≡ m ∷ rest)
    by true same here later =
        (points ++ passed, ap (λ h. h ∷ (points ++ passed)) (same_point b m same))
    by false other (inl same) later =
        absurd (false≢true (sym other ∙ ap (λ h. is_same_point h m) (sym same)
        ∙ same_as_itself m))
    by false other (inr stands_later) later = later stands_later

next_of_all : (m : Point) (a : Point) (points : List Point)
    → AllByRecursion (IsNotBefore m) (a ∷ points)
    → AllByRecursion (IsNotBefore m) (points ++ (a ∷ []))
next_of_all m a points all = all-append (IsNotBefore m) points (a ∷ []) all.1 (all.0, tt)

all_behind : (m : Point) (points : List Point) → AllByRecursion (IsNotBefore m) points
    → list_all (λ b. not (is_same_point m b)) points ≡ true
    → list_all (comes_before m) points ≡ true
all_behind m [] late other = refl
all_behind m (b ∷ points) late other =
    let parts = and_parts (not (is_same_point m b))
    (list_all (λ c. not (is_same_point m c)) points) other in
    and_from (comes_before m b) (list_all (comes_before m) points)
    (before_or_same m b late.0 parts.0) (all_behind m points late.1 parts.1)

-- no point comes before the one at which it begins
pub none_before_head : (points : List Point) (c : Point) (rest : List Point)
    → from_least points ≡ c ∷ rest → AllByRecursion (IsNotBefore c) (c ∷ rest)
none_before_head [] c rest same = absurd (none (ap length same))
  where
    none : 0 ≡ length (c ∷ rest) → ⊥
    none size = absurd (omega (arith, size))
none_before_head (a ∷ points) c rest same =
    subst (AllByRecursion (IsNotBefore c)) same
    (subst (λ h. AllByRecursion (IsNotBefore h) (from_least (a ∷ points))) head_is
    (from_least_keeps (AllByRecursion (IsNotBefore m)) (next_of_all m) (a ∷ points)
    (none_before_least a points)))
  where
    m : Point
    m = least_of a points

    head_is : m ≡ c
    head_is =
        let at = begins m [] (a ∷ points) (least_stands a points) in
        ap (λ l. first_of l m) (sym at.1 ∙ same)

-- no point twice: it comes before all others
pub least_is_first : (points : List Point)
    → is_of_each_two (λ a b. not (is_same_point a b)) (from_least points) ≡ true
    → is_least_first (from_least points) ≡ true
least_is_first [] other = refl
least_is_first (a ∷ points) other =
    from (begins m [] (a ∷ points) (least_stands a points))
  where
    m : Point
    m = least_of a points

    late : AllByRecursion (IsNotBefore m) (from_least (a ∷ points))
    late =
        from_least_keeps (AllByRecursion (IsNotBefore m)) (next_of_all m) (a ∷ points)
        (none_before_least a points)

    from : (rest : List Point) × (from_least (a ∷ points) ≡ m ∷ rest)
        → is_least_first (from_least (a ∷ points)) ≡ true
    from (rest, same) =
        let behind : AllByRecursion (IsNotBefore m) (m ∷ rest) =
        subst (AllByRecursion (IsNotBefore m)) same late in
        let differ_all = subst (λ l. is_of_each_two (λ b c. not (is_same_point b c)) l ≡ true) same
        other in
        ap is_least_first same
        ∙ all_behind m rest behind.1
        (and_parts (list_all (λ c. not (is_same_point m c)) rest)
        (is_of_each_two (λ b c. not (is_same_point b c)) rest) differ_all).0
