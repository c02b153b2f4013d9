-- Each edge of a plan runs between two points in range that differ.

use Rattle.std.proofs.Common.{◌≡◌, refl, ap, ap₂, sym, ◌∙◌, arith, ℤ, pos, Bool, true}
use Rattle.std.proofs.Common.{not, ◌&&◌, IsTrue, List, [], ◌∷◌, ◌++◌, length, nat_le}
use Rattle.std.specs.Ordering.{int_eq}
use Rattle.std.specs.List.{list_all}
use Rattle.std.proofs.lemmas.Bool.{and_from, and_parts, false≢true, false_from_ne_true}
use Rattle.std.proofs.lemmas.Bool.Decides.{Decides-int_eq}
use Rattle.theory_numbers.proofs.Shapes.{var, num, minus, times, equal}
use Rattle.sb_fraction.specs.declared.point.Point.{Point}
use Rattle.sb_fraction.specs.Plane.{is_plan_point}
use Rattle.sb_fraction.specs.Edges.{Edge, edge, is_in_range, has_length}
use Rattle.theory_plans.specs.LoopEdges.{edges_back, edges_of_loop, edges_of}
use Rattle.theory_plans.specs.Loops.{bend, is_bent, are_bent, is_bent_loop, is_loop, are_loops}
use Rattle.theory_plans.specs.Loops.{is_least_first}
use Rattle.theory_plans.specs.Plans.{is_same_point, are_apart, keep_left, is_plan}

-- the edge runs between two points in range that differ
abbrev pub is_proper_edge : Edge → Bool
is_proper_edge e = is_in_range e && has_length e

-- ---- ways that are bent go from one point to another

-- points with the same numbers are one
pub same_point : (a b : Point) → is_same_point a b ≡ true → a ≡ b
same_point a b same =
    let parts = and_parts (int_eq a.x b.x) (int_eq a.y b.y) same in
    let at : Point → ℤ → ℤ → Point = λ p x y. record p { x = x; y = y } in
    ap₂ (at a) ((Decides-int_eq a.x b.x).0 parts.0) ((Decides-int_eq a.y b.y).0 parts.1)

straight_at_first : (a c : Point) → bend a a c ≡ pos 0
straight_at_first a c =
    equal
    (minus (times (minus (var a.x) (var a.x)) (minus (var c.y) (var a.y)))
    (times (minus (var a.y) (var a.y)) (minus (var c.x) (var a.x))))
    (num 0) (omega arith)

straight_at_last : (a b : Point) → bend a b b ≡ pos 0
straight_at_last a b =
    equal
    (minus (times (minus (var b.x) (var a.x)) (minus (var b.y) (var b.y)))
    (times (minus (var b.y) (var a.y)) (minus (var b.x) (var b.x))))
    (num 0) (omega arith)

-- where a way is bent the product is not 0
pub bent_is_not_0 : (z : ℤ) → not (int_eq z (pos 0)) ≡ true → z ≡ pos 0 → ⊥
bent_is_not_0 z other none =
    false≢true (ap not (sym ((Decides-int_eq z (pos 0)).1 none)) ∙ other)

-- the first point is none of the second
bent_leaves : (a b c : Point) → is_bent a b c ≡ true → not (is_same_point a b) ≡ true
bent_leaves a b c bent = rw (false_from_ne_true (is_same_point a b) (λ same.
    bent_is_not_0 (bend a b c) bent
    (ap (λ p. bend a p c) (sym (same_point a b same)) ∙ straight_at_first a c))) refl

-- nor the second of the third
bent_arrives : (a b c : Point) → is_bent a b c ≡ true → not (is_same_point b c) ≡ true
bent_arrives a b c bent = rw (false_from_ne_true (is_same_point b c) (λ same.
    bent_is_not_0 (bend a b c) bent
    (ap (λ p. bend a b p) (sym (same_point b c same)) ∙ straight_at_last a b))) refl

proper : (a b : Point) → is_plan_point a ≡ true → is_plan_point b ≡ true
    → not (is_same_point a b) ≡ true → is_proper_edge (edge a b) ≡ true
proper a b a_in b_in other =
    and_from (is_plan_point a && is_plan_point b) (not (is_same_point a b))
    (and_from (is_plan_point a) (is_plan_point b) a_in b_in) other

-- ---- loops

-- the edges from a on, where each way of two edges is bent
edges_are_proper : (a b : Point) (points : List Point) (first second : Point)
    → are_bent a b points first second ≡ true → is_plan_point a ≡ true → is_plan_point b ≡ true
    → list_all is_plan_point points ≡ true → is_plan_point first ≡ true
    → list_all is_proper_edge (edge a b ∷ edges_back b points first) ≡ true
edges_are_proper a b [] first second bent a_in b_in rest_in first_in =
    let parts = and_parts (is_bent a b first) (is_bent b first second) bent in
    and_from (is_proper_edge (edge a b)) _
    (proper a b a_in b_in (bent_leaves a b first parts.0))
    (and_from (is_proper_edge (edge b first)) true
    (proper b first b_in first_in (bent_leaves b first second parts.1)) refl)
edges_are_proper a b (c ∷ cs) first second bent a_in b_in rest_in first_in =
    let parts = and_parts (is_bent a b c) (are_bent b c cs first second) bent in
    let range = and_parts (is_plan_point c) (list_all is_plan_point cs) rest_in in
    and_from (is_proper_edge (edge a b)) _
    (proper a b a_in b_in (bent_leaves a b c parts.0))
    (edges_are_proper b c cs first second parts.1 b_in range.0 range.1 first_in)

-- what the test of a loop says
pub record IsLoop (points : List Point) : Type 0 where
  pub size : nat_le 3 (length points) ≡ true
  pub in_range : list_all is_plan_point points ≡ true
  pub bent : is_bent_loop points ≡ true
  pub least_first : is_least_first points ≡ true

-- of each loop
pub loop_is : (points : List Point) → is_loop points ≡ true → IsLoop points
loop_is points is =
    let first = and_parts (nat_le 3 (length points)) _ is in
    let second = and_parts (list_all is_plan_point points) _ first.1 in
    let third = and_parts (is_bent_loop points) (is_least_first points) second.1 in
    record { size = first.0; in_range = second.0; bent = third.0; least_first = third.1 }

loop_edges_are_proper : (points : List Point) → is_loop points ≡ true
    → list_all is_proper_edge (edges_of_loop points) ≡ true
loop_edges_are_proper [] is = refl
loop_edges_are_proper (a ∷ []) is = absurd (false≢true is)
loop_edges_are_proper (a ∷ b ∷ rest) is =
    let l = loop_is (a ∷ b ∷ rest) is in
    let first = and_parts (is_plan_point a) (is_plan_point b && list_all is_plan_point rest)
    l.in_range in
    let second = and_parts (is_plan_point b) (list_all is_plan_point rest) first.1 in
    edges_are_proper a b rest a b l.bent first.0 second.0 second.1 first.0

all_of_both : {X : Type 0} (test : X → Bool) (xs ys : List X) → list_all test xs ≡ true
    → list_all test ys ≡ true → list_all test (xs ++ ys) ≡ true
all_of_both test [] ys first second = second
all_of_both test (x ∷ xs) ys first second =
    let parts = and_parts (test x) (list_all test xs) first in
    and_from (test x) (list_all test (xs ++ ys)) parts.0 (all_of_both test xs ys parts.1 second)

loops_have_proper_edges : (loops : List (List Point)) → list_all is_loop loops ≡ true
    → list_all is_proper_edge (edges_of loops) ≡ true
loops_have_proper_edges [] all = refl
loops_have_proper_edges (points ∷ loops) all =
    let parts = and_parts (is_loop points) (list_all is_loop loops) all in
    all_of_both is_proper_edge (edges_of_loop points) (edges_of loops)
    (loop_edges_are_proper points parts.0) (loops_have_proper_edges loops parts.1)

-- what the test of a plan says
pub record IsPlan (loops : List (List Point)) : Type 0 where
  pub some : nat_le 1 (length loops) ≡ true
  pub each : list_all is_loop loops ≡ true
  pub apart : are_apart loops ≡ true
  pub left : keep_left loops ≡ true

-- of each plan
pub plan_is : (loops : List (List Point)) → IsTrue (is_plan loops) → IsPlan loops
plan_is loops is =
    let first = and_parts (are_loops loops) (are_apart loops && keep_left loops) is in
    let second = and_parts (are_apart loops) (keep_left loops) first.1 in
    let third = and_parts (nat_le 1 (length loops)) (list_all is_loop loops) first.0 in
    record { some = third.0; each = third.1; apart = second.0; left = second.1 }

-- the edges of a plan run between two points in range that differ
pub plan_edges_are_proper : (loops : List (List Point)) → IsTrue (is_plan loops)
    → list_all is_proper_edge (edges_of loops) ≡ true
plan_edges_are_proper loops is = loops_have_proper_edges loops (plan_is loops is).each
