-- Normalised loops with edges that are apart are a plan once each is turned round whose first edge
-- does not have the solid on its left.

use Rattle.std.proofs.Common.{◌≡◌, refl, sym, ap, ◌∙◌, arith, pos, neg_ℤ}
use Rattle.std.proofs.Common.{true, not, ◌&&◌, nat_le, length, suc}
use Rattle.std.proofs.Common.{List, [], ◌∷◌, map, reverse}
use Rattle.std.specs.Ordering.{int_eq}
use Rattle.std.specs.List.{list_all, AllByRecursion}
use Rattle.std.proofs.lemmas.Int.{ints}
use Rattle.std.proofs.lemmas.Bool.{and_parts, and_from, false≢true, le-leb}
use Rattle.std.proofs.lemmas.Bool.Decides.{Decides-int_eq}
use Rattle.std.proofs.lemmas.List.{length-map, length-reverse}
use Rattle.theory_lists.proofs.Passing.{all_pass-reverse}
use Rattle.theory_lists.specs.Members.{Stands}
use Rattle.theory_numbers.proofs.Shapes.{var, minus, negated, times, equal}
use Rattle.theory_numbers.proofs.Signs.{same_tests}
use Rattle.theory_lists.proofs.Members.{all_that_stand}
use Rattle.theory_lists.proofs.Blocks.{all_in_parts}
use Rattle.sb_fraction.specs.declared.point.Point.{Point}
use Rattle.sb_fraction.specs.Edges.{Edge, edge}
use Rattle.sb_fraction.specs.Plane.{is_plan_point}
use Rattle.theory_plans.specs.LoopEdges.{edges_back, edges_of_loop, edges_of}
use Rattle.theory_plans.specs.Loops.{bend, is_bent, are_bent, is_bent_loop, comes_before, is_loop}
use Rattle.theory_plans.specs.Loops.{is_least_first, are_loops}
use Rattle.theory_plans.specs.Plans.{are_apart, keep_left, is_plan}
use Rattle.theory_plans.proofs.CommonPointIsCorner.{bent_at_corner, loops_are_bent}
use Rattle.theory_plans.proofs.Edges.EdgesOfPlans.{loop_is}
use Rattle.theory_parity.specs.Sides.{AreBentApart, turned_edge, turned_loop}
use Rattle.theory_parity.specs.Sides.{put_left}
use Rattle.theory_parity.proofs.SolidOnTheLeft.TurnedIsApart.{put_is_apart, by_case}
use Rattle.theory_parity.proofs.SolidOnTheLeft.TurnedLoops.{turned_edges, put_left_keeps_left}

-- ---- a loop turned round is bent

bend-back : (a b c : Point) → bend c b a ≡ neg_ℤ (bend a b c)
bend-back a b c =
    equal
    (minus (times (minus (var b.x) (var c.x)) (minus (var a.y) (var b.y)))
    (times (minus (var b.y) (var c.y)) (minus (var a.x) (var b.x))))
    (negated
    (minus (times (minus (var b.x) (var a.x)) (minus (var c.y) (var b.y)))
    (times (minus (var b.y) (var a.y)) (minus (var c.x) (var b.x)))))
    (omega arith)

bent-back : (a b c : Point) → is_bent c b a ≡ is_bent a b c
bent-back a b c =
    ap not
    (ap (λ n. int_eq n (pos 0)) (bend-back a b c)
    ∙ same_tests (int_eq (neg_ℤ (bend a b c)) (pos 0)) (int_eq (bend a b c) (pos 0))
    (λ is.
    (Decides-int_eq (bend a b c) (pos 0)).1
    (let zero = (Decides-int_eq (neg_ℤ (bend a b c)) (pos 0)).0 is in omega (arith, ints)))
    (λ is.
    (Decides-int_eq (neg_ℤ (bend a b c)) (pos 0)).1
    (let zero = (Decides-int_eq (bend a b c) (pos 0)).0 is in omega (arith, ints))))

module _ (loops : List (List Point)) (are : AreBentApart loops) where
  abbrev Stands_turned : Edge → Type 0
  Stands_turned e = Stands (turned_edge e) (edges_of loops)

  -- a way of which each edge, turned round, is one of the loops'
  way_is_bent : (a b : Point) (points : List Point) (first second : Point)
      → AllByRecursion Stands_turned (edge a b ∷ edges_back b points first)
      → Stands_turned (edge first second) → are_bent a b points first second ≡ true
  way_is_bent a b [] first second there next =
      and_from (is_bent a b first) (is_bent b first second)
      (sym (bent-back a b first)
      ∙ bent_at_corner loops are.bent are.apart (edge first b) (edge b a) there.1.0 there.0 refl)
      (sym (bent-back b first second)
      ∙ bent_at_corner loops are.bent are.apart (edge second first) (edge first b) next there.1.0 refl)
  way_is_bent a b (c ∷ cs) first second there next =
      and_from (is_bent a b c) (are_bent b c cs first second)
      (sym (bent-back a b c)
      ∙ bent_at_corner loops are.bent are.apart (edge c b) (edge b a) there.1.0 there.0 refl)
      (way_is_bent b c cs first second there.1 next)

  loop_is_bent : (points : List Point) → nat_le 2 (length points) ≡ true
      → AllByRecursion Stands_turned (edges_of_loop points) → is_bent_loop points ≡ true
  loop_is_bent [] long there = absurd (false≢true long)
  loop_is_bent (a ∷ []) long there = absurd (false≢true long)
  loop_is_bent (a ∷ b ∷ rest) long there = way_is_bent a b rest a b there there.0

  long_turned : (points : List Point) → is_bent_loop points ≡ true
      → nat_le 2 (length (turned_loop points)) ≡ true
  long_turned [] bent = absurd (false≢true bent)
  long_turned (a ∷ []) bent = absurd (false≢true bent)
  long_turned (a ∷ b ∷ rest) bent =
      ap (λ n. nat_le 2 (suc n)) (length-reverse (b ∷ rest))
      ∙ le-leb 2 (suc (suc (length rest))) (omega arith)

  bent_one : (edges : List Edge) (points : List Point) → is_bent_loop points ≡ true
      → AllByRecursion (λ e. Stands e (edges_of loops)) (edges_of_loop points)
      → is_bent_loop (put_left edges points) ≡ true
  bent_one edges points bent there =
      by_case (λ l. is_bent_loop l ≡ true) edges points bent
      (loop_is_bent (turned_loop points) (long_turned points bent)
      (turned_edges Stands_turned points there))

-- ---- the other demands of a loop

length-turned_loop : (points : List Point) → length (turned_loop points) ≡ length points
length-turned_loop [] = refl
length-turned_loop (a ∷ points) = ap suc (length-reverse points)

in_range_turned : (points : List Point) → list_all is_plan_point points ≡ true
    → list_all is_plan_point (turned_loop points) ≡ true
in_range_turned [] all = all
in_range_turned (a ∷ points) all =
    let parts = and_parts (is_plan_point a) (list_all is_plan_point points) all in
    and_from (is_plan_point a) (list_all is_plan_point (reverse points)) parts.0
    (all_pass-reverse is_plan_point points parts.1)

least_turned : (points : List Point) → is_least_first points ≡ true
    → is_least_first (turned_loop points) ≡ true
least_turned [] least = least
least_turned (a ∷ points) least = all_pass-reverse (comes_before a) points least

put_is_loop : (edges : List Edge) (points : List Point) → is_loop points ≡ true
    → is_bent_loop (put_left edges points) ≡ true → is_loop (put_left edges points) ≡ true
put_is_loop edges points is bent =
    let put = put_left edges points in
    let l = loop_is points is in
    and_from (nat_le 3 (length put))
    (list_all is_plan_point put && (is_bent_loop put && is_least_first put))
    (by_case (λ p. nat_le 3 (length p) ≡ true) edges points l.size
    (ap (nat_le 3) (length-turned_loop points) ∙ l.size))
    (and_from (list_all is_plan_point put) (is_bent_loop put && is_least_first put)
    (by_case (λ p. list_all is_plan_point p ≡ true) edges points l.in_range
    (in_range_turned points l.in_range))
    (and_from (is_bent_loop put) (is_least_first put) bent
    (by_case (λ p. is_least_first p ≡ true) edges points l.least_first
    (least_turned points l.least_first))))

module _ (loops : List (List Point)) (are : AreBentApart loops) where
  all_put_are_loops : (edges : List Edge) (some : List (List Point))
      → list_all is_loop some ≡ true
      → AllByRecursion (λ e. Stands e (edges_of loops)) (edges_of some)
      → list_all is_loop (map (put_left edges) some) ≡ true
  all_put_are_loops edges [] all there = refl
  all_put_are_loops edges (points ∷ rest) all there =
      let parts = and_parts (is_loop points) (list_all is_loop rest) all in
      let blocks = all_in_parts (λ e. Stands e (edges_of loops)) (edges_of_loop points)
      (edges_of rest) there in
      and_from (is_loop (put_left edges points)) (list_all is_loop (map (put_left edges) rest))
      (put_is_loop edges points parts.0
      (bent_one loops are edges points (loop_is points parts.0).bent blocks.0))
      (all_put_are_loops edges rest parts.1 blocks.1)

-- ---- plans

-- normalised loops with edges that are apart, turned where their first edge asks for it, are a plan
pub put_left_is_plan : (loops : List (List Point)) → are_loops loops ≡ true
    → are_apart loops ≡ true → is_plan (map (put_left (edges_of loops)) loops) ≡ true
put_left_is_plan loops loops_are apart =
    let put = map (put_left (edges_of loops)) loops in
    let parts = and_parts (nat_le 1 (length loops)) (list_all is_loop loops) loops_are in
    let are : AreBentApart loops =
    record { bent = loops_are_bent loops parts.1; apart = apart } in
    and_from (are_loops put) (are_apart put && keep_left put)
    (and_from (nat_le 1 (length put)) (list_all is_loop put)
    (ap (nat_le 1) (length-map loops (put_left (edges_of loops))) ∙ parts.0)
    (all_put_are_loops loops are (edges_of loops) loops parts.1
    (all_that_stand (λ e. Stands e (edges_of loops)) (edges_of loops) (λ e stands. stands))))
    (and_from (are_apart put) (keep_left put) (put_is_apart (edges_of loops) loops apart)
    (put_left_keeps_left loops are))
