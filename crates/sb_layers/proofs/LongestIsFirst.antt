-- The longest of the edges so far is, at the end, the first of the longest edges.

use Rattle.std.proofs.Common.{◌≡◌, refl, sym, ap, ◌∙◌, arith, ℤ, ◌<ℤ◌, ◌≤ℤ◌, Bool, true, false, cond, ◌&&◌}
use Rattle.std.proofs.Common.{List, [], ◌∷◌, Option, Some, None, int_lt, int_le, IsTrue, inl, inr, ◌⊎◌}
use Rattle.std.proofs.lemmas.Int.{ints}
use Rattle.std.proofs.lemmas.Bool.{and_parts, and_from, false≢true}
use Rattle.std.specs.List.{list_all, find}
use Rattle.theory_numbers.proofs.Signs.{test_at_most, test_less, test_not_less, at_most_from, not_at_most_from}
use Rattle.theory_numbers.proofs.Signs.{less_from, not_less_from, same_tests, test_not_at_most}
use Rattle.std.proofs.Common.{◌++◌, subst, get_or}
use Rattle.std.proofs.lemmas.Option.{none-some}
use Rattle.sb_fraction.specs.declared.point.Point.{Point}
use Rattle.sb_fraction.specs.Plane.{is_plan_point, are_two_points}
use Rattle.sb_fraction.specs.Edges.{Edge, is_in_range, has_length}
use Rattle.theory_plans.specs.LoopEdges.{edges_of, edges_of_loop}
use Rattle.theory_plans.specs.Plans.{is_plan}
use Rattle.theory_plans.specs.Loops.{is_loop}
use Rattle.theory_plans.proofs.Edges.EdgesOfPlans.{is_proper_edge, plan_edges_are_proper, plan_is}
use Rattle.sb_layers.specs.Axes.{squared_length, is_longest, longest_of, outer_edges}
use Rattle.sb_layers.specs.Longest.{longer, longest_after}

size : Edge → ℤ
size e = squared_length e

-- tests that answer alike find the same
finds_alike : {X : Type 0} (p q : X → Bool) → ((x : X) → p x ≡ q x) → (xs : List X)
    → find p xs ≡ find q xs
finds_alike p q same [] = refl
finds_alike p q same (x ∷ xs) = rw (same x, finds_alike p q same xs) refl

-- an edge that is not longer than another asks nothing beside it
needless : (b e : Edge) (es : List Edge) → squared_length b ≤ℤ squared_length e → (x : Edge)
    → is_longest (b ∷ e ∷ es) x ≡ is_longest (e ∷ es) x
needless b e es less x =
    same_tests (is_longest (b ∷ e ∷ es) x) (is_longest (e ∷ es) x)
    (λ is. (and_parts (int_le (squared_length b) (squared_length x)) _ is).1)
    (λ is.
    let parts = and_parts (int_le (squared_length e) (squared_length x)) _ is in
    and_from _ _
    (test_at_most _ _ (through (squared_length b) (squared_length e) (squared_length x) less
    (at_most_from _ _ parts.0))) is)
  where
    through : (a b c : ℤ) → a ≤ℤ b → b ≤ℤ c → a ≤ℤ c
    through a b c one two = omega (arith, ints)

-- nor does it behind another
needless_behind : (b e : Edge) (es : List Edge) → squared_length e ≤ℤ squared_length b → (x : Edge)
    → is_longest (b ∷ e ∷ es) x ≡ is_longest (b ∷ es) x
needless_behind b e es less x =
    same_tests (is_longest (b ∷ e ∷ es) x) (is_longest (b ∷ es) x)
    (λ is.
    let first = and_parts (int_le (squared_length b) (squared_length x)) _ is in
    let second = and_parts (int_le (squared_length e) (squared_length x)) _ first.1 in
    and_from _ _ first.0 second.1)
    (λ is.
    let first = and_parts (int_le (squared_length b) (squared_length x)) _ is in
    and_from _ _ first.0
    (and_from _ _
    (test_at_most _ _ (through (squared_length e) (squared_length b) (squared_length x) less
    (at_most_from _ _ first.0))) first.1))
  where
    through : (a b c : ℤ) → a ≤ℤ b → b ≤ℤ c → a ≤ℤ c
    through a b c one two = omega (arith, ints)

reflexive : (e : Edge) → int_le (squared_length e) (squared_length e) ≡ true
reflexive e = test_at_most _ _ (same (squared_length e))
  where
    same : (a : ℤ) → a ≤ℤ a
    same a = omega (arith, ints)

-- the first is not the longest where a later one is longer
first_fails : (b e : Edge) (es : List Edge) → squared_length b <ℤ squared_length e
    → is_longest (b ∷ e ∷ es) b ≡ false
first_fails b e es less =
    rw (reflexive b, test_not_at_most (squared_length e) (squared_length b) less) refl

-- where none of the others is longer than the first, which is not longest, the second is not either
second_fails : (b e : Edge) (es : List Edge) → squared_length e ≤ℤ squared_length b
    → is_longest (b ∷ es) b ≡ false → is_longest (b ∷ es) e ≡ false
second_fails b e es less fails = by (is_longest (b ∷ es) e) refl
  where
    all_within : (xs : List Edge) → list_all (λ f. int_le (squared_length f) (squared_length e)) xs ≡ true
        → list_all (λ f. int_le (squared_length f) (squared_length b)) xs ≡ true
    all_within [] all = refl
    all_within (x ∷ xs) all =
        let parts = and_parts (int_le (squared_length x) (squared_length e)) _ all in
        and_from _ _
        (test_at_most _ _ (through (squared_length x) (squared_length e) (squared_length b)
        (at_most_from _ _ parts.0) less)) (all_within xs parts.1)
      where
        through : (a b c : ℤ) → a ≤ℤ b → b ≤ℤ c → a ≤ℤ c
        through a b c one two = omega (arith, ints)

    by : (t : Bool) → is_longest (b ∷ es) e ≡ t → is_longest (b ∷ es) e ≡ false
    by true is =
        let parts = and_parts (int_le (squared_length b) (squared_length e)) _ is in
        absurd (false≢true (sym fails ∙ and_from _ _ (reflexive b) (all_within es parts.1)))
    by false is = is

-- with one edge before them
pub longest_is_first : (b : Edge) (es : List Edge)
    → longest_after (Some b) es ≡ find (is_longest (b ∷ es)) (b ∷ es)
longest_is_first b [] = sym (rw (reflexive b) refl)
longest_is_first b (e ∷ es) =
    by (int_lt (squared_length b) (squared_length e)) refl (longest_is_first e es) (longest_is_first b es)
  where
    by : (t : Bool) → int_lt (squared_length b) (squared_length e) ≡ t
        → longest_after (Some e) es ≡ find (is_longest (e ∷ es)) (e ∷ es)
        → longest_after (Some b) es ≡ find (is_longest (b ∷ es)) (b ∷ es)
        → longest_after (Some (cond t e b)) es ≡ find (is_longest (b ∷ e ∷ es)) (b ∷ e ∷ es)
    by true is of_second of_first =
        let less = less_from _ _ is in
        of_second
        ∙ sym (finds_alike (is_longest (b ∷ e ∷ es)) (is_longest (e ∷ es))
        (needless b e es (weak (squared_length b) (squared_length e) less)) (e ∷ es))
        ∙ sym (ap (λ t. cond t (Some b) (find (is_longest (b ∷ e ∷ es)) (e ∷ es))) (first_fails b e es less))
      where
        weak : (a b : ℤ) → a <ℤ b → a ≤ℤ b
        weak a b less = omega (arith, ints)
    by false is of_second of_first =
        let less = not_less_from (squared_length b) (squared_length e) is in
        of_first
        ∙ sym (finds_alike (is_longest (b ∷ e ∷ es)) (is_longest (b ∷ es)) (needless_behind b e es less)
        (b ∷ e ∷ es)
        ∙ skip (is_longest (b ∷ es) b) refl less)
      where
        skip : (t : Bool) → is_longest (b ∷ es) b ≡ t → squared_length e ≤ℤ squared_length b
            → find (is_longest (b ∷ es)) (b ∷ e ∷ es) ≡ find (is_longest (b ∷ es)) (b ∷ es)
        skip true passes less = rw passes refl
        skip false fails less = rw (fails, second_fails b e es less fails) refl

-- and with none
pub longest_of_all : (e : Edge) (es : List Edge) → longest_after None (e ∷ es) ≡ longest_of (e ∷ es)
longest_of_all e es = longest_is_first e es

-- what is found passes each test that all items pass
found_passes : {X : Type 0} (p q : X → Bool) (xs : List X) (x : X) → find p xs ≡ Some x
    → list_all q xs ≡ true → q x ≡ true
found_passes p q [] x found all = absurd (none-some x found)
found_passes p q (y ∷ ys) x found all =
    let parts = and_parts (q y) _ all in
    by (p y) parts.0 (λ same. found_passes p q ys x same parts.1) found
  where
    by : (t : Bool) → q y ≡ true → (find p ys ≡ Some x → q x ≡ true)
        → cond t (Some y) (find p ys) ≡ Some x → q x ≡ true
    by true first later same = let e : y ≡ x = cc in subst (λ z. q z ≡ true) e first
    by false first later same = later same

first_all : {X : Type 0} (q : X → Bool) (xs ys : List X) → list_all q (xs ++ ys) ≡ true → list_all q xs ≡ true
first_all q [] ys all = refl
first_all q (x ∷ xs) ys all =
    let parts = and_parts (q x) _ all in and_from _ _ parts.0 (first_all q xs ys parts.1)

outer_are_proper : (loops : List (List Point)) → list_all is_proper_edge (edges_of loops) ≡ true
    → list_all is_proper_edge (outer_edges loops) ≡ true
outer_are_proper [] all = refl
outer_are_proper (points ∷ loops) all = first_all is_proper_edge (edges_of_loop points) (edges_of loops) all

-- the longest edge of the outer loop of a plan runs between two points in range that differ
pub longest_is_proper : (loops : List (List Point)) (e : Edge) → IsTrue (is_plan loops)
    → longest_of (outer_edges loops) ≡ Some e
    → IsTrue (is_plan_point e.a) × (IsTrue (is_plan_point e.b)
    × IsTrue (are_two_points e.a.x e.a.y e.b.x e.b.y))
longest_is_proper loops e plan found =
    let proper =
    found_passes (is_longest (outer_edges loops)) is_proper_edge (outer_edges loops) e found
    (outer_are_proper loops (plan_edges_are_proper loops plan))
    in
    let parts = and_parts (is_in_range e) (has_length e) proper in
    let ends = and_parts (is_plan_point e.a) (is_plan_point e.b) parts.0 in (ends.0, (ends.1, parts.1))

-- the first loop of a plan
pub outer_is_first : (loops : List (List Point)) (points other : List Point) → IsTrue (is_plan loops)
    → points ≡ get_or loops 0 other → outer_edges loops ≡ edges_of_loop points
outer_is_first [] points other plan is =
    let p = plan_is [] plan in absurd (false≢true p.some)
outer_is_first (first ∷ loops) points other plan is = ap edges_of_loop (sym is)

-- which has edges
pub outer_is_some : (loops : List (List Point)) (points other : List Point) → IsTrue (is_plan loops)
    → points ≡ get_or loops 0 other → points ≡ [] → ⊥
outer_is_some [] points other plan is none = let p = plan_is [] plan in false≢true p.some
outer_is_some (first ∷ loops) points other plan is none =
    let p = plan_is (first ∷ loops) plan in
    let one = and_parts (is_loop first) _ p.each in
    false≢true (subst (λ l. is_loop l ≡ true) (sym is ∙ none) one.0)

-- the longest of the first loop of a plan
pub longest_of_outer : (loops : List (List Point)) (points other : List Point) (e : Edge)
    → IsTrue (is_plan loops) → points ≡ get_or loops 0 other
    → Some e ≡ longest_after None (edges_of_loop points) → longest_of (outer_edges loops) ≡ Some e
longest_of_outer loops points other e plan is found =
    ap longest_of (outer_is_first loops points other plan is)
    ∙ sym (found ∙ of_all (edges_of_loop points))
  where
    of_all : (es : List Edge) → longest_after None es ≡ longest_of es
    of_all [] = refl
    of_all (x ∷ xs) = longest_of_all x xs
