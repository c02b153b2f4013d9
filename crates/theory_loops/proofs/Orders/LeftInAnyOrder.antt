-- A loop that is left, whatever was dropped first: begun at its least point it is the normal form; of
-- fewer than three points it says that the loop keeps few.

use Rattle.std.proofs.Common.{◌≡◌, refl, sym, ap, ◌∙◌, inl, inr, arith, true}
use Rattle.std.proofs.Common.{List, [], ◌∷◌, ◌++◌, length, nat_lt, ◌<◌, ℕ}
use Rattle.std.specs.List.{list_all}
use Rattle.std.proofs.lemmas.Bool.{and_parts, false≢true}
use Rattle.std.proofs.lemmas.List.{append-nil}
use Rattle.std.proofs.lemmas.List.Folds.{list_all-append}
use Rattle.theory_lists.proofs.Blocks.{all_in_parts}
use Rattle.sb_fraction.specs.declared.point.Point.{Point}
use Rattle.theory_plans.specs.Loops.{comes_before, is_bent_loop, is_least_first}
use Rattle.theory_loops.specs.Normal.{dropped, normal_loop}
use Rattle.theory_loops.specs.Answers.{keeps_few}
use Rattle.theory_loops.specs.Orders.{Becomes, IsSameLoop}
use Rattle.theory_loops.specs.Orders.Becomes.{stays, loses_first}
use Rattle.theory_loops.proofs.LeastFirst.{IsNotBefore, none_before_head}
use Rattle.theory_loops.proofs.NothingLeftToDrop.{there_and_back}
use Rattle.theory_loops.proofs.Orders.SameLoop.{becomes_through}
use Rattle.theory_loops.proofs.Orders.AnyOrder.{any_order, length-turned}

-- ---- begun at its least point

-- of a loop and its turned one, the first beginning before all others, the second after none
same_start : (points left : List Point) → is_least_first left ≡ true
    → IsSameLoop left (normal_loop points) → left ≡ normal_loop points
same_start points left least t = from t.front t.back t.one t.other
  where
    from : (u v : List Point) → left ≡ u ++ v → normal_loop points ≡ v ++ u
        → left ≡ normal_loop points
    from [] v one other = one ∙ sym (append-nil v) ∙ sym other
    from (a ∷ u) [] one other = one ∙ append-nil (a ∷ u) ∙ sym other
    from (a ∷ u) (c ∷ v) one other =
        let behind : list_all (comes_before a) (u ++ (c ∷ v)) ≡ true =
        sym (ap is_least_first one) ∙ least in
        let later = and_parts (list_all (comes_before a) u) (list_all (comes_before a) (c ∷ v))
        (sym (list_all-append (comes_before a) u (c ∷ v)) ∙ behind) in
        let before = and_parts (comes_before a c) (list_all (comes_before a) v) later.1 in
        let none = none_before_head (dropped points) c (v ++ (a ∷ u)) other in
        let not_before = all_in_parts (IsNotBefore c) v (a ∷ u) none.1 in
        absurd (false≢true (sym not_before.1.0 ∙ before.0))

-- it is the normal form
pub left_is_normal : (points left : List Point) → Becomes points left → is_bent_loop left ≡ true
    → is_least_first left ≡ true → left ≡ normal_loop points
left_is_normal points left to_left bent least =
    same_start points left least (any_order points left to_left (inr bent))

-- ---- of fewer than three points

then_none : (left : List Point) → length left < 3 → Becomes left []
then_none [] few = stays
then_none (a ∷ []) few = loses_first (there_and_back a a) stays
then_none (a ∷ b ∷ []) few =
    loses_first (there_and_back b a) (loses_first (there_and_back b b) stays)
then_none (a ∷ b ∷ c ∷ left) few = absurd (omega arith)

none_is_few : (n : ℕ) → 0 ≡ n → nat_lt n 3 ≡ true
none_is_few n none = ap (λ k. nat_lt k 3) (sym none)

-- the loop keeps few
pub few_are_few : (points left : List Point) → Becomes points left → length left < 3
    → keeps_few points ≡ true
few_are_few points left to_left few =
    none_is_few (length (normal_loop points))
    (length-turned [] (normal_loop points)
    (any_order points [] (becomes_through to_left (then_none left few)) (inl refl)))
