-- Loops of which some are turned round have their edges apart where they were apart before.

use Rattle.std.proofs.Common.{◌≡◌, refl, sym, ap, ap₂, ◌∙◌, inl, inr, arith, ℤ, pos, neg_ℤ}
use Rattle.std.proofs.Common.{◌*ℤ◌, Bool, true, false, not, ◌&&◌, ◌||◌, int_lt}
use Rattle.std.proofs.Common.{int_le, List, [], ◌∷◌, ◌++◌, map, reverse, subst, if◌then◌else◌}
use Rattle.std.proofs.Common.{IsPermutation}
use Rattle.std.specs.Ordering.{int_eq}
use Rattle.std.specs.List.{list_all, AllByRecursion}
use Rattle.std.proofs.lemmas.Int.{ints}
use Rattle.std.proofs.lemmas.Bool.{and_parts, and_from, false≢true}
use Rattle.std.proofs.lemmas.Bool.Decides.{Decides-int_eq}
use Rattle.std.proofs.lemmas.List.{reverse-append}
use Rattle.std.proofs.lemmas.List.Sorted.{IsPermutation-refl, IsPermutation-reverse}
use Rattle.std.proofs.lemmas.List.Sorted.{IsPermutation-cons, IsPermutation-append}
use Rattle.theory_lists.proofs.Passing.{all_pass}
use Rattle.theory_lists.specs.Members.{Stands, AllOfTwo}
use Rattle.theory_lists.proofs.Blocks.{all-append, two-append, two_in_parts}
use Rattle.theory_lists.proofs.InAnyOrder.{two_permuted}
use Rattle.theory_lists.proofs.Members.{all_stands, all_follow, all_both}
use Rattle.theory_numbers.proofs.Vectors.Arrows.{cross-turn, dot_comm}
use Rattle.theory_numbers.proofs.Ring.{mul_comm, neg-mul-neg}
use Rattle.theory_numbers.proofs.Signs.{same_tests}
use Rattle.theory_lists.proofs.Blocks.{all_in_parts}
use Rattle.theory_lists.proofs.Blocks.{stands_before, stands_behind}
use Rattle.sb_fraction.specs.declared.point.Point.{Point}
use Rattle.sb_fraction.specs.Spots.{Spot, spot_at}
use Rattle.sb_fraction.specs.Edges.{Edge, edge, seen_from, turn_at, is_on}
use Rattle.theory_plans.specs.LoopEdges.{edges_back, edges_of_loop, edges_of}
use Rattle.theory_plans.specs.Plans.{is_same_point, is_parted, do_touch, is_consecutive}
use Rattle.theory_plans.specs.Plans.{is_of_each_two, corners_in, are_apart}
use Rattle.theory_plans.proofs.TouchingEdges.{each_two_pass}
use Rattle.theory_parity.specs.Sides.{turned_edge, turned_loop, is_left_at_first}
use Rattle.theory_parity.specs.Sides.{put_left}
use Rattle.theory_parity.proofs.SolidOnTheLeft.TurnedLoops.{way-more, turned_edges}

-- ---- touching does not see which way an edge runs

turn-turned : (e : Edge) (p : Spot) → turn_at (turned_edge e) p ≡ neg_ℤ (turn_at e p)
turn-turned e p = cross-turn (seen_from p e.a) (seen_from p e.b)

-- nor does a point that lies on it
pub on-turned : (p : Spot) (e : Edge) → is_on p (turned_edge e) ≡ is_on p e
on-turned p e =
    ap₂ (λ s t. s && t)
    (ap (λ n. int_eq n (pos 0)) (turn-turned e p) ∙ opposite_zero (turn_at e p))
    (ap (λ n. int_le n (pos 0)) (dot_comm (seen_from p e.b) (seen_from p e.a)))
  where
    opposite_zero : (n : ℤ) → int_eq (neg_ℤ n) (pos 0) ≡ int_eq n (pos 0)
    opposite_zero n =
        same_tests (int_eq (neg_ℤ n) (pos 0)) (int_eq n (pos 0))
        (λ is.
        (Decides-int_eq n (pos 0)).1
        (let zero = (Decides-int_eq (neg_ℤ n) (pos 0)).0 is in omega (arith, ints)))
        (λ is.
        (Decides-int_eq (neg_ℤ n) (pos 0)).1
        (let zero = (Decides-int_eq n (pos 0)).0 is in omega (arith, ints)))

parted-turned : (e f : Edge) → is_parted (turned_edge e) f ≡ is_parted e f
parted-turned e f =
    ap (λ n. int_lt n (pos 0))
    (ap₂ (λ s t. s *ℤ t) (turn-turned e (spot_at f.a)) (turn-turned e (spot_at f.b))
    ∙ neg-mul-neg (turn_at e (spot_at f.a)) (turn_at e (spot_at f.b)))

parted_turned : (e f : Edge) → is_parted f (turned_edge e) ≡ is_parted f e
parted_turned e f =
    ap (λ n. int_lt n (pos 0)) (mul_comm (turn_at f (spot_at e.b)) (turn_at f (spot_at e.a)))

first_two : (a b c : Bool) → (a || (b || c)) ≡ (b || (a || c))
first_two true true c = refl
first_two true false c = refl
first_two false b c = refl

two_and_two : (a b c d s t : Bool)
    → (a || (b || (c || (d || (s && t))))) ≡ (c || (d || (a || (b || (t && s)))))
two_and_two true b true d s t = refl
two_and_two true b false true s t = refl
two_and_two true b false false s t = refl
two_and_two false true true d s t = refl
two_and_two false true false true s t = refl
two_and_two false true false false s t = refl
two_and_two false false true d s t = refl
two_and_two false false false true s t = refl
two_and_two false false false false true true = refl
two_and_two false false false false true false = refl
two_and_two false false false false false true = refl
two_and_two false false false false false false = refl

-- nor which of two edges comes first
touch_comm : (e f : Edge) → do_touch e f ≡ do_touch f e
touch_comm e f =
    two_and_two (is_on (spot_at e.a) f) (is_on (spot_at e.b) f) (is_on (spot_at f.a) e)
    (is_on (spot_at f.b) e) (is_parted e f) (is_parted f e)

touch-turned : (e f : Edge) → do_touch (turned_edge e) f ≡ do_touch e f
touch-turned e f =
    ap₂ (λ s t. is_on (spot_at e.b) f || (is_on (spot_at e.a) f || (s || t)))
    (on-turned (spot_at f.a) e)
    (ap₂ (λ s t. s || t) (on-turned (spot_at f.b) e)
    (ap₂ (λ s t. s && t) (parted-turned e f) (parted_turned e f)))
    ∙ first_two (is_on (spot_at e.b) f) (is_on (spot_at e.a) f)
    (is_on (spot_at f.a) e || (is_on (spot_at f.b) e || (is_parted e f && is_parted f e)))

touch_turned : (e f : Edge) → do_touch e (turned_edge f) ≡ do_touch e f
touch_turned e f = touch_comm e (turned_edge f) ∙ touch-turned f e ∙ touch_comm f e

-- ---- two edges that are apart

-- whether two points are one does not depend on their order
pub same_comm : (a b : Point) → is_same_point a b ≡ is_same_point b a
same_comm a b = ap₂ (λ s t. s && t) (swapped a.x b.x) (swapped a.y b.y)
  where
    swapped : (m n : ℤ) → int_eq m n ≡ int_eq n m
    swapped m n =
        same_tests (int_eq m n) (int_eq n m)
        (λ is. (Decides-int_eq n m).1 (sym ((Decides-int_eq m n).0 is)))
        (λ is. (Decides-int_eq m n).1 (sym ((Decides-int_eq n m).0 is)))

or_comm : (a b : Bool) → (a || b) ≡ (b || a)
or_comm true true = refl
or_comm true false = refl
or_comm false true = refl
or_comm false false = refl

-- consecutive, or without a common point
abbrev pub AreNear : Edge → Edge → Type 0
AreNear e f = (is_consecutive e f || not (do_touch e f)) ≡ true

-- nor whether two edges are near each other
pub near_comm : (e f : Edge) → AreNear e f → AreNear f e
near_comm e f near =
    ap₂ (λ s t. s || not t) (or_comm (is_same_point f.b e.a) (is_same_point e.b f.a))
    (touch_comm f e)
    ∙ near

near_turned : (e f : Edge) → AreNear e f → AreNear (turned_edge e) (turned_edge f)
near_turned e f near =
    ap₂ (λ s t. s || not t)
    (ap₂ (λ s t. s || t) (same_comm e.a f.b) (same_comm f.a e.b)
    ∙ or_comm (is_same_point f.b e.a) (is_same_point e.b f.a))
    (touch-turned e (turned_edge f) ∙ touch_turned e f)
    ∙ near

-- ---- lists

two_of_each : {X : Type 0} (R : X → X → Type 0) (f : X → X) → ((x y : X) → R x y → R (f x) (f y))
    → (xs : List X) → AllOfTwo R xs → AllOfTwo R (map f xs)
two_of_each R f step [] two = tt
two_of_each {X} R f step (x ∷ xs) two =
    (mapped xs two.0, two_of_each R f step xs two.1)
  where
    mapped : (ys : List X) → AllByRecursion (R x) ys → AllByRecursion (R (f x)) (map f ys)
    mapped [] all = tt
    mapped (y ∷ ys) all = (step x y all.0, mapped ys all.1)

-- what holds of each two passes of each two
pub pass_each_two : {X : Type 0} (test : X → X → Bool) (xs : List X)
    → AllOfTwo (λ x y. test x y ≡ true) xs → is_of_each_two test xs ≡ true
pass_each_two test [] two = refl
pass_each_two test (x ∷ xs) two =
    and_from (list_all (test x) xs) (is_of_each_two test xs) (all_pass (test x) xs two.0)
    (pass_each_two test xs two.1)

-- ---- the edges of a loop turned round, in another order

way_turned : (a : Point) (points : List Point) (last : Point)
    → edges_back last (reverse points) a ≡ reverse (map turned_edge (edges_back a points last))
way_turned a [] last = refl
way_turned a (b ∷ points) last =
    ap (λ t. edges_back last t a) (reverse-append (b ∷ []) points)
    ∙ way-more last (reverse points) b a
    ∙ ap (λ t. t ++ (edge b a ∷ [])) (way_turned b points last)
    ∙ sym (reverse-append (edge b a ∷ []) (map turned_edge (edges_back b points last)))

edges_in_order : (points : List Point)
    → IsPermutation (map turned_edge (edges_of_loop points)) (edges_of_loop (turned_loop points))
edges_in_order [] = IsPermutation-refl []
edges_in_order (a ∷ points) =
    subst (IsPermutation (map turned_edge (edges_back a points a))) (sym (way_turned a points a))
    (IsPermutation-reverse (map turned_edge (edges_back a points a)))

corners_in_order : (points : List Point) → IsPermutation points (turned_loop points)
corners_in_order [] = IsPermutation-refl []
corners_in_order (a ∷ points) =
    IsPermutation-cons a points (reverse points) (IsPermutation-reverse points)

-- what holds of a loop and of the loop turned round holds of the one that is put
pub by_case : (P : List Point → Type 0) (edges : List Edge) (points : List Point) → P points
    → P (turned_loop points) → P (put_left edges points)
by_case P edges points same other = by (is_left_at_first edges points)
  where
    by : (b : Bool) → P (if b then points else turned_loop points)
    by true = same
    by false = other

-- ---- no point is a corner twice

corners_put : (edges : List Edge) (loops : List (List Point))
    → IsPermutation (corners_in loops) (corners_in (map (put_left edges) loops))
corners_put edges [] = IsPermutation-refl []
corners_put edges (points ∷ loops) =
    IsPermutation-append points (put_left edges points) (corners_in loops)
    (corners_in (map (put_left edges) loops))
    (by_case (IsPermutation points) edges points (IsPermutation-refl points)
    (corners_in_order points))
    (corners_put edges loops)

abbrev Differ : Point → Point → Type 0
Differ a b = not (is_same_point a b) ≡ true

corners_apart : (edges : List Edge) (loops : List (List Point))
    → AllOfTwo Differ (corners_in loops)
    → AllOfTwo Differ (corners_in (map (put_left edges) loops))
corners_apart edges loops two =
    two_permuted Differ (λ a b other. ap not (same_comm b a) ∙ other) (corners_in loops)
    (corners_in (map (put_left edges) loops)) (corners_put edges loops) two

-- ---- the edges of one loop

loop_apart : (points : List Point) → AllOfTwo AreNear (edges_of_loop points)
    → AllOfTwo AreNear (edges_of_loop (turned_loop points))
loop_apart points two =
    two_permuted AreNear near_comm (map turned_edge (edges_of_loop points))
    (edges_of_loop (turned_loop points)) (edges_in_order points)
    (two_of_each AreNear turned_edge near_turned (edges_of_loop points) two)

-- ---- edges of two loops

ends_of_way : (a : Point) (points : List Point) (last : Point)
    → AllByRecursion (λ e. Stands e.a (a ∷ points) × Stands e.b (last ∷ (a ∷ points)))
    (edges_back a points last)
ends_of_way a [] last = ((inl refl, inl refl), tt)
ends_of_way a (b ∷ points) last = (
  (inl refl, inr (inr (inl refl))),
  all_follow
      (λ e known. (inr known.0, deeper e.b known.1)) (edges_back b points last)
      (ends_of_way b points last),
)
  where
    deeper : (c : Point) → Stands c (last ∷ (b ∷ points)) → Stands c (last ∷ (a ∷ (b ∷ points)))
    deeper c (inl same) = inl same
    deeper c (inr later) = inr (inr later)

-- the ends of a loop's edges are its corners
ends_of_loop : (points : List Point)
    → AllByRecursion (λ e. Stands e.a points × Stands e.b points) (edges_of_loop points)
ends_of_loop [] = tt
ends_of_loop (a ∷ points) =
    all_follow (λ e known. (known.0, once e.b known.1)) (edges_back a points a)
    (ends_of_way a points a)
  where
    once : (c : Point) → Stands c (a ∷ (a ∷ points)) → Stands c (a ∷ points)
    once c (inl same) = inl same
    once c (inr later) = later

ends_of_loops : (loops : List (List Point))
    → AllByRecursion (λ e. Stands e.a (corners_in loops) × Stands e.b (corners_in loops))
    (edges_of loops)
ends_of_loops [] = tt
ends_of_loops (points ∷ loops) =
    all-append (λ e. Stands e.a (corners_in (points ∷ loops)) × Stands e.b (corners_in (points ∷ loops)))
    (edges_of_loop points) (edges_of loops)
    (all_follow
    (λ e known. (
      stands_before e.a points (corners_in loops) known.0,
      stands_before e.b points (corners_in loops) known.1,
    ))
    (edges_of_loop points) (ends_of_loop points))
    (all_follow
    (λ e known. (
      stands_behind e.a points (corners_in loops) known.0,
      stands_behind e.b points (corners_in loops) known.1,
    ))
    (edges_of loops) (ends_of_loops loops))

-- the two edges have no point in common
abbrev DoNotTouch : Edge → Edge → Type 0
DoNotTouch e f = do_touch e f ≡ false

untouched : (b t : Bool) → (b || not t) ≡ true → b ≡ false → t ≡ false
untouched true t near none = absurd (false≢true (sym none))
untouched false true near none = sym near
untouched false false near none = refl

false_if_not : (b : Bool) → not b ≡ true → b ≡ false
false_if_not true is = absurd (false≢true is)
false_if_not false is = refl

-- edges of loops without a common corner do not touch where they are near
do_not_touch : (points : List Point) (loops : List (List Point))
    → AllByRecursion (λ a. AllByRecursion (Differ a) (corners_in loops)) points → (e f : Edge)
    → Stands e.a points → Stands e.b points → Stands f.a (corners_in loops)
    → Stands f.b (corners_in loops) → AreNear e f → DoNotTouch e f
do_not_touch points loops apart e f ea_in eb_in fa_in fb_in near =
    untouched (is_consecutive e f) (do_touch e f) near
    (ap₂ (λ s t. s || t) (false_if_not (is_same_point e.b f.a) (differ e.b f.a eb_in fa_in))
    (same_comm f.b e.a ∙ false_if_not (is_same_point e.a f.b) (differ e.a f.b ea_in fb_in)))
  where
    differ : (a b : Point) → Stands a points → Stands b (corners_in loops) → Differ a b
    differ a b a_in b_in =
        all_stands (Differ a) b (corners_in loops)
        (all_stands (λ c. AllByRecursion (Differ c) (corners_in loops)) a points apart a_in) b_in

all_do_not_touch : (points : List Point) (loops : List (List Point))
    → AllByRecursion (λ a. AllByRecursion (Differ a) (corners_in loops)) points
    → AllByRecursion (λ e. AllByRecursion (AreNear e) (edges_of loops)) (edges_of_loop points)
    → AllByRecursion (λ e. AllByRecursion (DoNotTouch e) (edges_of loops)) (edges_of_loop points)
all_do_not_touch points loops apart near =
    all_follow
    (λ e known.
    all_follow
    (λ f there.
    do_not_touch points loops apart e f known.0.0 known.0.1 there.0.0 there.0.1 there.1)
    (edges_of loops)
    (all_both (λ f. Stands f.a (corners_in loops) × Stands f.b (corners_in loops)) (AreNear e)
    (edges_of loops) (ends_of_loops loops) known.1))
    (edges_of_loop points)
    (all_both (λ e. Stands e.a points × Stands e.b points)
    (λ e. AllByRecursion (AreNear e) (edges_of loops)) (edges_of_loop points)
    (ends_of_loop points) near)

-- what does not see which way an edge runs holds of the edges of the loops that are put
one_put : (P : Edge → Type 0) → ((e : Edge) → P e → P (turned_edge e)) → (edges : List Edge)
    (points : List Point) → AllByRecursion P (edges_of_loop points)
    → AllByRecursion P (edges_of_loop (put_left edges points))
one_put P sees_none edges points all =
    by_case (λ l. AllByRecursion P (edges_of_loop l)) edges points all
    (turned_edges P points (all_follow sees_none (edges_of_loop points) all))

all_put : (P : Edge → Type 0) → ((e : Edge) → P e → P (turned_edge e)) → (edges : List Edge)
    (loops : List (List Point)) → AllByRecursion P (edges_of loops)
    → AllByRecursion P (edges_of (map (put_left edges) loops))
all_put P sees_none edges [] all = tt
all_put P sees_none edges (points ∷ loops) all =
    let blocks = all_in_parts P (edges_of_loop points) (edges_of loops) all in
    all-append P (edges_of_loop (put_left edges points)) (edges_of (map (put_left edges) loops))
    (one_put P sees_none edges points blocks.0) (all_put P sees_none edges loops blocks.1)

across_put : (edges : List Edge) (points : List Point) (loops : List (List Point))
    → AllByRecursion (λ e. AllByRecursion (DoNotTouch e) (edges_of loops)) (edges_of_loop points)
    → AllByRecursion (λ e. AllByRecursion (DoNotTouch e) (edges_of (map (put_left edges) loops)))
    (edges_of_loop (put_left edges points))
across_put edges points loops all =
    one_put (λ e. AllByRecursion (DoNotTouch e) (edges_of (map (put_left edges) loops)))
    (λ e known.
    all_follow (λ f none. touch-turned e f ∙ none) (edges_of (map (put_left edges) loops)) known)
    edges points
    (all_follow
    (λ e known. all_put (DoNotTouch e) (λ f none. touch_turned e f ∙ none) edges loops known)
    (edges_of_loop points) all)

-- ---- all edges

near_if_untouched : (b t : Bool) → t ≡ false → (b || not t) ≡ true
near_if_untouched true t none = refl
near_if_untouched false t none = ap not none

edges_apart : (edges : List Edge) (loops : List (List Point)) → AllOfTwo Differ (corners_in loops)
    → AllOfTwo AreNear (edges_of loops)
    → AllOfTwo AreNear (edges_of (map (put_left edges) loops))
edges_apart edges [] corners near = tt
edges_apart edges (points ∷ loops) corners near =
    let apart = two_in_parts Differ points (corners_in loops) corners in
    let parts = two_in_parts AreNear (edges_of_loop points) (edges_of loops) near in
    two-append AreNear (edges_of_loop (put_left edges points))
    (edges_of (map (put_left edges) loops))
    (by_case (λ l. AllOfTwo AreNear (edges_of_loop l)) edges points parts.0.0
    (loop_apart points parts.0.0))
    (edges_apart edges loops apart.0.1 parts.0.1)
    (all_follow
    (λ e known.
    all_follow (λ f none. near_if_untouched (is_consecutive e f) (do_touch e f) none)
    (edges_of (map (put_left edges) loops)) known)
    (edges_of_loop (put_left edges points))
    (across_put edges points loops (all_do_not_touch points loops apart.1 parts.1)))

-- the edges are apart as before
pub put_is_apart : (edges : List Edge) (loops : List (List Point)) → are_apart loops ≡ true
    → are_apart (map (put_left edges) loops) ≡ true
put_is_apart edges loops are =
    let put = map (put_left edges) loops in
    let parts = and_parts (is_of_each_two (λ a b. not (is_same_point a b)) (corners_in loops))
    (is_of_each_two (λ e f. is_consecutive e f || not (do_touch e f)) (edges_of loops)) are in
    let corners = each_two_pass (λ a b. not (is_same_point a b)) (corners_in loops) parts.0 in
    and_from (is_of_each_two (λ a b. not (is_same_point a b)) (corners_in put))
    (is_of_each_two (λ e f. is_consecutive e f || not (do_touch e f)) (edges_of put))
    (pass_each_two (λ a b. not (is_same_point a b)) (corners_in put)
    (corners_apart edges loops corners))
    (pass_each_two (λ e f. is_consecutive e f || not (do_touch e f)) (edges_of put)
    (edges_apart edges loops corners
    (each_two_pass (λ e f. is_consecutive e f || not (do_touch e f)) (edges_of loops) parts.1)))
