-- What is left of loops says whether they are flat, whether they are knotted, and what their plan
-- is.

use Rattle.std.proofs.Common.{◌≡◌, refl, sym, ap, ap₂, ◌∙◌, subst, inl, inr, arith, ℕ}
use Rattle.std.proofs.Common.{◌+◌, ◌<◌, ◌≤◌}
use Rattle.std.proofs.Common.{Bool, true, false, not, ◌&&◌, ◌||◌, List, [], ◌∷◌, ◌++◌, length}
use Rattle.std.proofs.Common.{get_or, take, nat_lt}
use Rattle.std.specs.List.{list_all, list_any, AllByRecursion}
use Rattle.std.proofs.lemmas.Bool.{and_parts, and_from, or_from, false≢true}
use Rattle.std.proofs.lemmas.Bool.{false_from_ne_true}
use Rattle.std.proofs.lemmas.List.{length-append, take_more}
use Rattle.std.proofs.lemmas.List.Folds.{list_all-append}
use Rattle.sb_fraction.specs.declared.point.Point.{Point}
use Rattle.sb_fraction.specs.Plane.{is_plan_point}
use Rattle.theory_plans.specs.LoopEdges.{edges_of}
use Rattle.theory_plans.specs.Loops.{is_bent_loop, is_least_first}
use Rattle.theory_plans.specs.Plans.{is_same_point, is_of_each_two, is_consecutive, do_touch}
use Rattle.theory_plans.specs.Plans.{corners_in, are_apart}
use Rattle.theory_loops.specs.Normal.{from_least, normal_loop}
use Rattle.theory_loops.specs.Answers.{normal_loops, keeps_few, are_flat, are_knotted}
use Rattle.theory_loops.specs.Orders.{Becomes, AreSameLoops}
use Rattle.theory_loops.specs.Orders.Becomes.{stays, begins_next, loses_first}
use Rattle.theory_loops.proofs.DropsKeep.{from_least_keeps}
use Rattle.theory_loops.proofs.NothingLeftToDrop.{IsDone, bent_has_three}
use Rattle.theory_loops.proofs.NormalIsLoop.{done_from_next}
use Rattle.theory_loops.proofs.LeastFirst.{least_is_first}
use Rattle.theory_loops.proofs.Orders.SameLoop.{becomes_through}
use Rattle.theory_loops.proofs.Orders.AnyOrder.{any_order, length-turned}
use Rattle.theory_loops.proofs.Orders.LeftInAnyOrder.{left_is_normal}
use Rattle.theory_loops.proofs.Orders.ApartFromAny.{apart_from_any}
use Rattle.sb_loops.specs.Ways.{HasBegun, IsLeft, AreLeft}

-- ---- one loop

abbrev HasSize : List Point → List Point → Type 0
HasSize left other = length other ≡ length left

-- a bent loop that comes of the points is left of them, begun at its least point
pub left_from_least : (points left : List Point) → Becomes points left
    → is_bent_loop left ≡ true → IsLeft points (from_least left)
left_from_least points left to_left bent =
    record {
      becomes = from_least_keeps (Becomes points)
          (λ a rest b. becomes_through b (begins_next stays)) left to_left;
      bent = from (from_least_keeps IsDone done_from_next left (inr bent));
      begun = least_is_first left;
    }
  where
    next_has_size : (a : Point) (rest : List Point) → HasSize left (a ∷ rest)
        → HasSize left (rest ++ (a ∷ []))
    next_has_size a rest size =
        let parts = length-append rest (a ∷ []) in omega (arith, size, parts)

    from : IsDone (from_least left) → is_bent_loop (from_least left) ≡ true
    from (inl none) =
        let size = from_least_keeps (HasSize left) next_has_size left refl in
        let many = bent_has_three left bent in
        let empty = ap length none in
        absurd (omega (arith, size, many, empty))
    from (inr is) = is

all_becomes : (test : Point → Bool) {points left : List Point} → Becomes points left
    → list_all test points ≡ true → list_all test left ≡ true
all_becomes test stays all = all
all_becomes test (begins_next {a = a} {points = points} b) all =
    let parts = and_parts (test a) (list_all test points) all in
    all_becomes test b
    (list_all-append test points (a ∷ [])
    ∙ and_from (list_all test points) (test a && true) parts.1
    (and_from (test a) true parts.0 refl))
all_becomes test (loses_first {a = a} {points = points} level b) all =
    all_becomes test b (and_parts (test a) (list_all test points) all).1

-- ---- all loops

left-append : (loops lefts others rest : List (List Point)) → AreLeft loops lefts
    → AreLeft others rest → AreLeft (loops ++ others) (lefts ++ rest)
left-append [] [] others rest are more = more
left-append [] (left ∷ lefts) others rest are more = absurd are
left-append (points ∷ loops) [] others rest are more = absurd are
left-append (points ∷ loops) (left ∷ lefts) others rest are more =
    (are.0, left-append loops lefts others rest are.1 more)

-- one more is left of one loop more
pub one_more_left : (loops : List (List Point)) (i : ℕ) (points : List Point)
    (lefts : List (List Point)) (left : List Point) → i < length loops
    → points ≡ get_or loops i points → AreLeft (take i loops) lefts → IsLeft points left
    → AreLeft (take (i + 1) loops) (lefts ++ (left ∷ []))
one_more_left loops i points lefts left within here are is =
    subst (λ l. AreLeft l (lefts ++ (left ∷ [])))
    (ap (λ l. take i loops ++ (l ∷ [])) here ∙ sym (take_more loops i points within))
    (left-append (take i loops) lefts (points ∷ []) (left ∷ []) are (is, tt))

-- their points are in range
pub left_in_range : (loops lefts : List (List Point)) → AreLeft loops lefts
    → list_all (list_all is_plan_point) loops ≡ true
    → list_all (list_all is_plan_point) lefts ≡ true
left_in_range [] [] are in_range = refl
left_in_range [] (left ∷ lefts) are in_range = absurd are
left_in_range (points ∷ loops) [] are in_range = absurd are
left_in_range (points ∷ loops) (left ∷ lefts) are in_range =
    let parts = and_parts (list_all is_plan_point points) (list_all (list_all is_plan_point) loops)
    in_range in
    and_from (list_all is_plan_point left) (list_all (list_all is_plan_point) lefts)
    (all_becomes is_plan_point are.0.becomes parts.0) (left_in_range loops lefts are.1 parts.1)

-- each is bent
pub left_are_bent : (loops lefts : List (List Point)) → AreLeft loops lefts
    → list_all is_bent_loop lefts ≡ true
left_are_bent [] [] are = refl
left_are_bent [] (left ∷ lefts) are = absurd are
left_are_bent (points ∷ loops) [] are = absurd are
left_are_bent (points ∷ loops) (left ∷ lefts) are =
    and_from (is_bent_loop left) (list_all is_bent_loop lefts) are.0.bent
    (left_are_bent loops lefts are.1)

-- each begins before its other points if none is there twice
pub left_have_begun : (loops lefts : List (List Point)) → AreLeft loops lefts
    → AllByRecursion HasBegun lefts
left_have_begun [] [] are = tt
left_have_begun [] (left ∷ lefts) are = absurd are
left_have_begun (points ∷ loops) [] are = absurd are
left_have_begun (points ∷ loops) (left ∷ lefts) are =
    (are.0.begun, left_have_begun loops lefts are.1)

-- ---- flat

three_are_many : (n : ℕ) → 3 ≤ n → nat_lt n 3 ≡ false
three_are_many n many = grind arith

one_is_some : (n : ℕ) → 1 ≤ n → nat_lt n 1 ≡ false
one_is_some n some = grind arith

keeps_many : (points left : List Point) → IsLeft points left → keeps_few points ≡ false
keeps_many points left is =
    let size = length-turned left (normal_loop points)
    (any_order points left is.becomes (inr is.bent)) in
    let many = bent_has_three left is.bent in
    three_are_many (length (normal_loop points)) (omega (arith, size, many))

none_keeps_few : (loops lefts : List (List Point)) → AreLeft loops lefts
    → list_any keeps_few loops ≡ false
none_keeps_few [] [] are = refl
none_keeps_few [] (left ∷ lefts) are = absurd are
none_keeps_few (points ∷ loops) [] are = absurd are
none_keeps_few (points ∷ loops) (left ∷ lefts) are =
    or_from (keeps_few points) (list_any keeps_few loops) (keeps_many points left are.0)
    (none_keeps_few loops lefts are.1)

-- loops of which as many are left are not flat
pub left_are_not_flat : (loops lefts : List (List Point)) → 1 ≤ length loops
    → AreLeft loops lefts → are_flat loops ≡ false
left_are_not_flat loops lefts some are =
    or_from (nat_lt (length loops) 1) (list_any keeps_few loops) (one_is_some (length loops) some)
    (none_keeps_few loops lefts are)

-- ---- knotted

same_loops : (loops lefts : List (List Point)) → AreLeft loops lefts
    → AreSameLoops lefts (normal_loops loops)
same_loops [] [] are = tt
same_loops [] (left ∷ lefts) are = absurd are
same_loops (points ∷ loops) [] are = absurd are
same_loops (points ∷ loops) (left ∷ lefts) are =
    (any_order points left are.0.becomes (inr are.0.bent), same_loops loops lefts are.1)

knotted : (flat apart other : Bool) → flat ≡ false → other ≡ apart
    → (not flat && not apart) ≡ not other
knotted flat apart other not_flat same = ap₂ (λ f a. not f && not a) not_flat (sym same)

-- they are knotted where the edges of what is left are not apart
pub knotted_by_left : (loops lefts : List (List Point)) → 1 ≤ length loops → AreLeft loops lefts
    → are_knotted loops ≡ not (are_apart lefts)
knotted_by_left loops lefts some are =
    knotted (are_flat loops) (are_apart (normal_loops loops)) (are_apart lefts)
    (left_are_not_flat loops lefts some are)
    (apart_from_any lefts (normal_loops loops) (same_loops loops lefts are))

module _ {X : Type 0} (test : X → X → Bool) where
  two_in_parts : (xs ys : List X) → is_of_each_two test (xs ++ ys) ≡ true
      → (is_of_each_two test xs ≡ true) × (is_of_each_two test ys ≡ true)
  two_in_parts [] ys two = (refl, two)
  two_in_parts (x ∷ xs) ys two =
      let parts = and_parts (list_all (test x) (xs ++ ys)) (is_of_each_two test (xs ++ ys)) two in
      let here = and_parts (list_all (test x) xs) (list_all (test x) ys)
      (sym (list_all-append (test x) xs ys) ∙ parts.0) in
      let rest = two_in_parts xs ys parts.1 in
      (and_from (list_all (test x) xs) (is_of_each_two test xs) here.0 rest.0, rest.1)

abbrev do_differ : Point → Point → Bool
do_differ a b = not (is_same_point a b)

begun_where_apart : (lefts : List (List Point)) → AllByRecursion HasBegun lefts
    → is_of_each_two do_differ (corners_in lefts) ≡ true → list_all is_least_first lefts ≡ true
begun_where_apart [] begun apart = refl
begun_where_apart (left ∷ lefts) begun apart =
    let parts = two_in_parts do_differ left (corners_in lefts) apart in
    and_from (is_least_first left) (list_all is_least_first lefts) (begun.0 parts.0)
    (begun_where_apart lefts begun.1 parts.1)

-- a loop that does not begin before its other points has one twice, and is not apart
pub not_begun_is_not_apart : (lefts : List (List Point)) → AllByRecursion HasBegun lefts
    → list_all is_least_first lefts ≡ false → are_apart lefts ≡ false
not_begun_is_not_apart lefts begun not_least =
    false_from_ne_true (are_apart lefts) (λ apart.
    false≢true
    (sym not_least
    ∙ begun_where_apart lefts begun
    (and_parts (is_of_each_two do_differ (corners_in lefts))
    (is_of_each_two (λ e f. is_consecutive e f || not (do_touch e f)) (edges_of lefts)) apart).0))

-- ---- the plan

-- begun before their other points they are the normal forms
pub begun_are_normal : (loops lefts : List (List Point)) → AreLeft loops lefts
    → list_all is_least_first lefts ≡ true → lefts ≡ normal_loops loops
begun_are_normal [] [] are least = refl
begun_are_normal [] (left ∷ lefts) are least = absurd are
begun_are_normal (points ∷ loops) [] are least = absurd are
begun_are_normal (points ∷ loops) (left ∷ lefts) are least =
    let parts = and_parts (is_least_first left) (list_all is_least_first lefts) least in
    ap₂ (λ l ls. l ∷ ls)
    (left_is_normal points left are.0.becomes are.0.bent parts.0)
    (begun_are_normal loops lefts are.1 parts.1)
