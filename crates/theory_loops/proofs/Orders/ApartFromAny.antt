-- Whether the edges of loops are apart does not depend on the points from which the loops are read.

use Rattle.std.proofs.Common.{◌≡◌, sym, ap, ◌∙◌, subst, true, not, ◌||◌}
use Rattle.std.proofs.Common.{IsPermutation, List, [], ◌∷◌, ◌++◌}
use Rattle.std.proofs.lemmas.Bool.{and_parts, and_from}
use Rattle.std.proofs.lemmas.List.Sorted.{IsPermutation-refl, IsPermutation-trans}
use Rattle.std.proofs.lemmas.List.Sorted.{IsPermutation-append, IsPermutation-append_comm}
use Rattle.theory_lists.proofs.InAnyOrder.{two_permuted}
use Rattle.theory_numbers.proofs.Signs.{same_tests}
use Rattle.sb_fraction.specs.declared.point.Point.{Point}
use Rattle.sb_fraction.specs.Edges.{Edge, edge}
use Rattle.theory_plans.specs.LoopEdges.{edges_back, edges_of_loop, edges_of}
use Rattle.theory_plans.specs.Plans.{is_same_point, is_consecutive, do_touch, is_of_each_two}
use Rattle.theory_plans.specs.Plans.{corners_in, are_apart}
use Rattle.theory_plans.proofs.TouchingEdges.{each_two_pass}
use Rattle.theory_parity.proofs.SolidOnTheLeft.TurnedLoops.{way-more}
use Rattle.theory_parity.proofs.SolidOnTheLeft.TurnedIsApart.{AreNear, same_comm, near_comm, pass_each_two}
use Rattle.theory_loops.specs.Orders.{IsSameLoop, AreSameLoops}
use Rattle.theory_loops.proofs.DropsKeep.{read_on}
use Rattle.theory_loops.proofs.Orders.SameLoop.{same_back}

-- ---- the same points and edges

points_in_order : (xs ys : List Point) → IsSameLoop xs ys → IsPermutation xs ys
points_in_order xs ys t =
    subst (IsPermutation xs) (sym t.other)
    (subst (λ l. IsPermutation l (t.back ++ t.front)) (sym t.one)
    (IsPermutation-append_comm t.front t.back))

edges_from_next : (es : List Edge) (a : Point) (points : List Point)
    → IsPermutation es (edges_of_loop (a ∷ points))
    → IsPermutation es (edges_of_loop (points ++ (a ∷ [])))
edges_from_next es a [] same = same
edges_from_next es a (c ∷ points) same =
    subst (IsPermutation es) (sym (way-more c points a c))
    (IsPermutation-trans es (edge a c ∷ edges_back c points a)
    (edges_back c points a ++ (edge a c ∷ [])) same
    (IsPermutation-append_comm (edge a c ∷ []) (edges_back c points a)))

edges_in_order : (xs ys : List Point) → IsSameLoop xs ys
    → IsPermutation (edges_of_loop xs) (edges_of_loop ys)
edges_in_order xs ys t =
    subst (λ l. IsPermutation (edges_of_loop xs) (edges_of_loop l)) (sym t.other)
    (read_on (λ l. IsPermutation (edges_of_loop xs) (edges_of_loop l))
    (edges_from_next (edges_of_loop xs)) t.front t.back
    (subst (λ l. IsPermutation (edges_of_loop xs) (edges_of_loop l)) t.one
    (IsPermutation-refl (edges_of_loop xs))))

all_corners : (loops others : List (List Point)) → AreSameLoops loops others
    → IsPermutation (corners_in loops) (corners_in others)
all_corners [] [] same = IsPermutation-refl []
all_corners [] (ys ∷ others) same = absurd same
all_corners (xs ∷ loops) [] same = absurd same
all_corners (xs ∷ loops) (ys ∷ others) same =
    IsPermutation-append xs ys (corners_in loops) (corners_in others)
    (points_in_order xs ys same.0) (all_corners loops others same.1)

all_edges : (loops others : List (List Point)) → AreSameLoops loops others
    → IsPermutation (edges_of loops) (edges_of others)
all_edges [] [] same = IsPermutation-refl []
all_edges [] (ys ∷ others) same = absurd same
all_edges (xs ∷ loops) [] same = absurd same
all_edges (xs ∷ loops) (ys ∷ others) same =
    IsPermutation-append (edges_of_loop xs) (edges_of_loop ys) (edges_of loops) (edges_of others)
    (edges_in_order xs ys same.0) (all_edges loops others same.1)

-- ---- apart

abbrev Differ : Point → Point → Type 0
Differ a b = not (is_same_point a b) ≡ true

one_way : (loops others : List (List Point)) → AreSameLoops loops others
    → are_apart loops ≡ true → are_apart others ≡ true
one_way loops others same apart =
    let parts = and_parts (is_of_each_two (λ a b. not (is_same_point a b)) (corners_in loops))
    (is_of_each_two (λ e f. is_consecutive e f || not (do_touch e f)) (edges_of loops)) apart in
    and_from (is_of_each_two (λ a b. not (is_same_point a b)) (corners_in others))
    (is_of_each_two (λ e f. is_consecutive e f || not (do_touch e f)) (edges_of others))
    (pass_each_two (λ a b. not (is_same_point a b)) (corners_in others)
    (two_permuted Differ (λ a b other. ap not (same_comm b a) ∙ other) (corners_in loops)
    (corners_in others) (all_corners loops others same)
    (each_two_pass (λ a b. not (is_same_point a b)) (corners_in loops) parts.0)))
    (pass_each_two (λ e f. is_consecutive e f || not (do_touch e f)) (edges_of others)
    (two_permuted AreNear near_comm (edges_of loops) (edges_of others)
    (all_edges loops others same)
    (each_two_pass (λ e f. is_consecutive e f || not (do_touch e f)) (edges_of loops) parts.1)))

same_loops_back : (loops others : List (List Point)) → AreSameLoops loops others
    → AreSameLoops others loops
same_loops_back [] [] same = same
same_loops_back [] (ys ∷ others) same = absurd same
same_loops_back (xs ∷ loops) [] same = absurd same
same_loops_back (xs ∷ loops) (ys ∷ others) same =
    (same_back xs ys same.0, same_loops_back loops others same.1)

-- from any points
pub apart_from_any : (loops others : List (List Point)) → AreSameLoops loops others
    → are_apart loops ≡ are_apart others
apart_from_any loops others same =
    same_tests (are_apart loops) (are_apart others) (one_way loops others same)
    (one_way others loops (same_loops_back loops others same))
