-- Numbers that are moved together are all in range, and all near whole millimetres, where their span says so.
use Rattle.std.proofs.Common.{◌≡◌, ℕ, ℤ, pos, ◌≤◌, ◌≤ℤ◌, ◌<ℤ◌, ◌+ℤ◌, ◌-ℤ◌, ◌*ℤ◌, ◌+◌, ◌*◌, ◌/◌, ◌<◌, Bool, true, false, ◌&&◌, inl, inr, List, [], ◌∷◌, map, arith, refl, ap, ◌∙◌, subst}
use Rattle.std.specs.Prelude.{neg_ℤ, unsigned_abs, int_lt, if◌then◌else◌}
use Rattle.std.specs.List.{list_all}
use Rattle.std.proofs.lemmas.Int.{ints}
use Rattle.std.proofs.lemmas.Bool.{leb-true, le-leb, and_parts, and_from}
use Rattle.theory_lists.specs.Members.{Stands}
use Rattle.theory_numbers.proofs.Signs.{same_tests, less_from, not_less_from, test_at_most, at_most_from}
use Rattle.sb_solid.specs.Grid.{is_near, is_near_to, is_in_world, nearest_millimetre, farthest}
use Rattle.sb_solid.specs.Spans.{Reaches, rest_from, is_narrow}
use Rattle.sb_solid.proofs.Coordinates.NearIsNearest.{near_is_nearest}

-- ---- tests of all

pub all_of : {X : Type 0} (test : X → Bool) (ns : List X) (n : X) → list_all test ns ≡ true → Stands n ns → test n ≡ true
all_of test [] n all there = absurd there
all_of test (m ∷ ns) n all (inl same) = ap test same ∙ (and_parts (test m) (list_all test ns) all).0
all_of test (m ∷ ns) n all (inr later) = all_of test ns n (and_parts (test m) (list_all test ns) all).1 later

pub all_from : {X : Type 0} (test : X → Bool) (ns : List X) → ((n : X) → Stands n ns → test n ≡ true)
    → list_all test ns ≡ true
all_from test [] each = refl
all_from test (n ∷ ns) each =
    and_from (test n) (list_all test ns) (each n (inl refl)) (all_from test ns (λ m there. each m (inr there)))

pub image_stands : {X Y : Type 0} (f : X → Y) (xs : List X) (x : X) → Stands x xs → Stands (f x) (map f xs)
image_stands f [] x there = absurd there
image_stands f (y ∷ xs) x (inl same) = inl (ap f same)
image_stands f (y ∷ xs) x (inr later) = inr (image_stands f xs x later)

pub comes_from : {X Y : Type 0} (f : X → Y) (xs : List X) (y : Y) → Stands y (map f xs)
    → (x : X) × Stands x xs × (y ≡ f x)
comes_from f [] y there = absurd there
comes_from f (x ∷ xs) y (inl same) = (x, inl refl, same)
comes_from f (x ∷ xs) y (inr later) =
    let (z, there, is) = comes_from f xs y later in
    (z, inr there, is)

-- ---- the nearest whole millimetre

quotient : (n : ℕ) → (1000000 * (n / 1000000) ≤ n) × (n < 1000000 * (n / 1000000) + 1000000)
quotient n = (omega arith, omega arith)

below : (d : ℤ) → d <ℤ pos 0
    → unsigned_abs (d -ℤ (neg_ℤ (pos ((unsigned_abs d + 500000) / 1000000)) *ℤ pos 1000000)) ≤ 500000
below d less =
    let q = quotient (unsigned_abs d + 500000) in
    omega (arith, ints, less, q.0, q.1)

above : (d : ℤ) → pos 0 ≤ℤ d
    → unsigned_abs (d -ℤ (pos ((unsigned_abs d + 500000) / 1000000) *ℤ pos 1000000)) ≤ 500000
above d least =
    let q = quotient (unsigned_abs d + 500000) in
    omega (arith, ints, least, q.0, q.1)

-- it lies at most half a millimetre away
pub nearest_is_close : (d : ℤ) → unsigned_abs (d -ℤ (nearest_millimetre d *ℤ pos 1000000)) ≤ 500000
nearest_is_close d = by (int_lt d (pos 0)) refl
  where
    by : (b : Bool) → int_lt d (pos 0) ≡ b
        → unsigned_abs (d -ℤ ((if b then neg_ℤ (pos ((unsigned_abs d + 500000) / 1000000)) else pos ((unsigned_abs d + 500000) / 1000000)) *ℤ pos 1000000)) ≤ 500000
    by true less = below d (less_from d (pos 0) less)
    by false least = above d (not_less_from d (pos 0) least)

pub near_of : (n : ℤ) → is_near n ≡ true → unsigned_abs (n -ℤ (nearest_millimetre n *ℤ pos 1000000)) ≤ 10000
near_of n is = leb-true _ _ is

pub near_from : (n k : ℤ) → unsigned_abs (n -ℤ (k *ℤ pos 1000000)) ≤ 10000 → is_near n ≡ true
near_from n k less =
    let at : is_near_to n k ≡ true = le-leb _ _ less in
    subst (λ m. is_near_to n m ≡ true) (near_is_nearest n k at) at

-- ---- range

in_world_from : (n : ℤ) → unsigned_abs n ≤ 500000010000 → is_in_world n ≡ true
in_world_from n less = le-leb (unsigned_abs n) farthest less

pub world_of : (n : ℤ) → is_in_world n ≡ true → unsigned_abs n ≤ 500000010000
world_of n is = leb-true (unsigned_abs n) farthest is

between_ends : (low high n s : ℤ) → unsigned_abs (low +ℤ s) ≤ 500000010000 → unsigned_abs (high +ℤ s) ≤ 500000010000
    → low ≤ℤ n → n ≤ℤ high → unsigned_abs (n +ℤ s) ≤ 500000010000
between_ends low high n s first second over under = omega (arith, ints, first, second, over, under)

pub range_told : (ns : List ℤ) (low high s : ℤ) → Reaches ns low high
    → (is_in_world (low +ℤ s) && is_in_world (high +ℤ s)) ≡ list_all (λ n. is_in_world (n +ℤ s)) ns
range_told ns low high s is = same_tests _ _ whole each
  where
    whole : (is_in_world (low +ℤ s) && is_in_world (high +ℤ s)) ≡ true
        → list_all (λ n. is_in_world (n +ℤ s)) ns ≡ true
    whole ends =
        let parts = and_parts (is_in_world (low +ℤ s)) (is_in_world (high +ℤ s)) ends in
        all_from (λ n. is_in_world (n +ℤ s)) ns (λ n there.
        let between = is.within n there in
        in_world_from (n +ℤ s)
        (between_ends low high n s (world_of (low +ℤ s) parts.0) (world_of (high +ℤ s) parts.1) between.0 between.1))

    each : list_all (λ n. is_in_world (n +ℤ s)) ns ≡ true
        → (is_in_world (low +ℤ s) && is_in_world (high +ℤ s)) ≡ true
    each all =
        and_from (is_in_world (low +ℤ s)) (is_in_world (high +ℤ s))
        (all_of (λ n. is_in_world (n +ℤ s)) ns low all is.low_in)
        (all_of (λ n. is_in_world (n +ℤ s)) ns high all is.high_in)

-- ---- the grid

-- a number less whole millimetres is near where it is
near_less : (n b k m : ℤ) → unsigned_abs (n -ℤ (k *ℤ pos 1000000)) ≤ 10000 → b ≡ n -ℤ (m *ℤ pos 1000000)
    → is_near b ≡ true
near_less n b k m near is = near_from b (k -ℤ m) (omega (arith, ints, near, is))

-- what lies between two numbers that are near one millimetre is near it
between_near : (a b x j k n m : ℤ) → unsigned_abs (a -ℤ (j *ℤ pos 1000000)) ≤ 10000
    → unsigned_abs (b -ℤ (k *ℤ pos 1000000)) ≤ 10000 → a ≤ℤ x → x ≤ℤ b → (b -ℤ a) ≤ℤ pos 20000
    → n ≡ x +ℤ (m *ℤ pos 1000000) → is_near n ≡ true
between_near a b x j k n m low high over under close is =
    let same : j ≡ k = omega (arith, ints, low, high, over, under, close) in
    near_from n (j +ℤ m) (omega (arith, ints, low, high, over, under, same, is))

-- the rest of a number from another, where both are near, is how much nearer it lies
rest_is : (n first s j i m : ℤ) → unsigned_abs ((n +ℤ s) -ℤ (j *ℤ pos 1000000)) ≤ 10000
    → unsigned_abs ((first +ℤ s) -ℤ (i *ℤ pos 1000000)) ≤ 10000
    → unsigned_abs ((n -ℤ first) -ℤ (m *ℤ pos 1000000)) ≤ 500000
    → (n -ℤ first) -ℤ (m *ℤ pos 1000000)
    ≡ ((n +ℤ s) -ℤ (j *ℤ pos 1000000)) -ℤ ((first +ℤ s) -ℤ (i *ℤ pos 1000000))
rest_is n first s j i m near other small =
    let same : j ≡ i +ℤ m = omega (arith, ints, near, other, small) in
    omega (arith, ints, same)

module _ (ns : List ℤ) (first high low_rest high_rest s : ℤ) (reach : Reaches ns first high)
    (rest : Reaches (map (rest_from first) ns) low_rest high_rest)
  where
    abbrev all_near : Bool
    all_near = list_all (λ n. is_near (n +ℤ s)) ns

    each_is_near : (n : ℤ) → Stands n ns → is_narrow low_rest high_rest ≡ true
        → is_near ((first +ℤ low_rest) +ℤ s) ≡ true → is_near ((first +ℤ high_rest) +ℤ s) ≡ true
        → is_near (n +ℤ s) ≡ true
    each_is_near n there narrow low high =
        let within = rest.within (rest_from first n) (image_stands (rest_from first) ns n there) in
        let close = at_most_from (high_rest -ℤ low_rest) (pos 20000) narrow in
        between_near ((first +ℤ low_rest) +ℤ s) ((first +ℤ high_rest) +ℤ s) ((first +ℤ rest_from first n) +ℤ s)
        (nearest_millimetre ((first +ℤ low_rest) +ℤ s)) (nearest_millimetre ((first +ℤ high_rest) +ℤ s))
        (n +ℤ s) (nearest_millimetre (n -ℤ first)) (near_of ((first +ℤ low_rest) +ℤ s) low) (near_of ((first +ℤ high_rest) +ℤ s) high)
        (moved_at_most first low_rest (rest_from first n) s within.0)
        (moved_at_most first (rest_from first n) high_rest s within.1)
        (moved_close first low_rest high_rest s close) (put_together first n s (nearest_millimetre (n -ℤ first)))
      where
        moved_at_most : (f a b t : ℤ) → a ≤ℤ b → ((f +ℤ a) +ℤ t) ≤ℤ ((f +ℤ b) +ℤ t)
        moved_at_most f a b t order = omega (arith, ints, order)

        moved_close : (f a b t : ℤ) → (b -ℤ a) ≤ℤ pos 20000
            → (((f +ℤ b) +ℤ t) -ℤ ((f +ℤ a) +ℤ t)) ≤ℤ pos 20000
        moved_close f a b t order = omega (arith, ints, order)

        put_together : (f p t m : ℤ)
            → p +ℤ t ≡ ((f +ℤ ((p -ℤ f) -ℤ (m *ℤ pos 1000000))) +ℤ t) +ℤ (m *ℤ pos 1000000)
        put_together f p t m = omega (arith, ints)

    end_is_near : (r : ℤ) → Stands r (map (rest_from first) ns) → all_near ≡ true
        → is_near ((first +ℤ r) +ℤ s) ≡ true
    end_is_near r there near =
        let (n, stands, is) = comes_from (rest_from first) ns r there in
        near_less (n +ℤ s) ((first +ℤ r) +ℤ s) (nearest_millimetre (n +ℤ s)) (nearest_millimetre (n -ℤ first))
        (near_of (n +ℤ s) (all_of (λ m. is_near (m +ℤ s)) ns n near stands))
        (taken first n s r (nearest_millimetre (n -ℤ first)) is)
      where
        taken : (f p t q m : ℤ) → q ≡ (p -ℤ f) -ℤ (m *ℤ pos 1000000)
            → (f +ℤ q) +ℤ t ≡ (p +ℤ t) -ℤ (m *ℤ pos 1000000)
        taken f p t q m e = omega (arith, ints, e)

    rests_narrow : all_near ≡ true → is_narrow low_rest high_rest ≡ true
    rests_narrow near =
        let (n, there, low_is) = comes_from (rest_from first) ns low_rest rest.low_in in
        let (p, here, high_is) = comes_from (rest_from first) ns high_rest rest.high_in in
        let at = near_of (first +ℤ s) (all_of (λ m. is_near (m +ℤ s)) ns first near reach.low_in) in
        let one = near_of (n +ℤ s) (all_of (λ m. is_near (m +ℤ s)) ns n near there) in
        let other = near_of (p +ℤ s) (all_of (λ m. is_near (m +ℤ s)) ns p near here) in
        test_at_most (high_rest -ℤ low_rest) (pos 20000)
        (narrow low_rest high_rest ((n +ℤ s) -ℤ (nearest_millimetre (n +ℤ s) *ℤ pos 1000000))
        ((p +ℤ s) -ℤ (nearest_millimetre (p +ℤ s) *ℤ pos 1000000))
        ((first +ℤ s) -ℤ (nearest_millimetre (first +ℤ s) *ℤ pos 1000000)) one other
        (low_is
        ∙ rest_is n first s (nearest_millimetre (n +ℤ s)) (nearest_millimetre (first +ℤ s))
        (nearest_millimetre (n -ℤ first)) one at (nearest_is_close (n -ℤ first)))
        (high_is
        ∙ rest_is p first s (nearest_millimetre (p +ℤ s)) (nearest_millimetre (first +ℤ s))
        (nearest_millimetre (p -ℤ first)) other at (nearest_is_close (p -ℤ first))))
      where
        narrow : (a b e f g : ℤ) → unsigned_abs e ≤ 10000 → unsigned_abs f ≤ 10000 → a ≡ e -ℤ g → b ≡ f -ℤ g
            → (b -ℤ a) ≤ℤ pos 20000
        narrow a b e f g small little is also = omega (arith, ints, small, little, is, also)

    pub grid_told : (is_narrow low_rest high_rest
        && (is_near ((first +ℤ low_rest) +ℤ s) && is_near ((first +ℤ high_rest) +ℤ s)))
        ≡ list_all (λ n. is_near (n +ℤ s)) ns
    grid_told = same_tests _ _ whole each
      where
        whole : (is_narrow low_rest high_rest
            && (is_near ((first +ℤ low_rest) +ℤ s) && is_near ((first +ℤ high_rest) +ℤ s))) ≡ true
            → list_all (λ n. is_near (n +ℤ s)) ns ≡ true
        whole ends =
            let parts = and_parts (is_narrow low_rest high_rest)
            (is_near ((first +ℤ low_rest) +ℤ s) && is_near ((first +ℤ high_rest) +ℤ s)) ends in
            let both = and_parts (is_near ((first +ℤ low_rest) +ℤ s)) (is_near ((first +ℤ high_rest) +ℤ s)) parts.1 in
            all_from (λ n. is_near (n +ℤ s)) ns (λ n there. each_is_near n there parts.0 both.0 both.1)

        each : list_all (λ n. is_near (n +ℤ s)) ns ≡ true
            → (is_narrow low_rest high_rest
            && (is_near ((first +ℤ low_rest) +ℤ s) && is_near ((first +ℤ high_rest) +ℤ s))) ≡ true
        each near =
            and_from (is_narrow low_rest high_rest)
            (is_near ((first +ℤ low_rest) +ℤ s) && is_near ((first +ℤ high_rest) +ℤ s)) (rests_narrow near)
            (and_from (is_near ((first +ℤ low_rest) +ℤ s)) (is_near ((first +ℤ high_rest) +ℤ s))
            (end_is_near low_rest rest.low_in near) (end_is_near high_rest rest.high_in near))

-- ---- two numbers that are near

apart_by : (a b j i m : ℤ) → unsigned_abs (a -ℤ (j *ℤ pos 1000000)) ≤ 10000
    → unsigned_abs (b -ℤ (i *ℤ pos 1000000)) ≤ 10000
    → unsigned_abs ((a -ℤ b) -ℤ (m *ℤ pos 1000000)) ≤ 500000 → j ≡ m +ℤ i
apart_by a b j i m near other small = omega (arith, ints, near, other, small)

-- so many whole millimetres lie between two numbers that are near as between their millimetres
pub millimetres_apart : (a b : ℤ) → is_near a ≡ true → is_near b ≡ true
    → nearest_millimetre a ≡ nearest_millimetre (a -ℤ b) +ℤ nearest_millimetre b
millimetres_apart a b near other =
    apart_by a b (nearest_millimetre a) (nearest_millimetre b) (nearest_millimetre (a -ℤ b)) (near_of a near)
    (near_of b other) (nearest_is_close (a -ℤ b))
