-- A normalised loop that is not flat and has no point twice is a loop: three points or more, in
-- range, bent at each, from its least point on.

use Rattle.std.proofs.Common.{◌≡◌, refl, sym, ap, ◌∙◌, inl, inr, arith, ℕ}
use Rattle.std.proofs.Common.{◌≤◌, Bool, true, false, not, ◌&&◌, List, [], ◌∷◌, ◌++◌, length, nat_lt, nat_le}
use Rattle.std.proofs.Common.{if◌then◌else◌}
use Rattle.std.specs.List.{list_all}
use Rattle.std.proofs.lemmas.Bool.{and_parts, and_from, false≢true}
use Rattle.std.proofs.lemmas.List.Folds.{list_all-append}
use Rattle.sb_fraction.specs.declared.point.Point.{Point}
use Rattle.sb_fraction.specs.Plane.{is_plan_point}
use Rattle.theory_plans.specs.Loops.{is_bent, are_bent, is_bent_loop, is_least_first, is_loop}
use Rattle.theory_plans.specs.Plans.{is_same_point, is_of_each_two}
use Rattle.theory_loops.specs.Normal.{first_of, last_of, drop_between, drop_first, dropped, normal_loop}
use Rattle.theory_loops.specs.Answers.{keeps_few}
use Rattle.theory_loops.proofs.DropsKeep.{normal_keeps, from_least_keeps}
use Rattle.theory_loops.proofs.NothingLeftToDrop.{IsDone, dropped_is_done, bent_has_three}
use Rattle.theory_loops.proofs.LeastFirst.{least_is_first}

-- ---- bent from any point on

bent_with_last : (x y : Point) (points : List Point) (a first second : Point)
    → are_bent x y points a first ≡ true → is_bent a first second ≡ true
    → are_bent x y (points ++ (a ∷ [])) first second ≡ true
bent_with_last x y [] a first second bent last =
    let parts = and_parts (is_bent x y a) (is_bent y a first) bent in
    and_from (is_bent x y a) (is_bent y a first && is_bent a first second) parts.0
    (and_from (is_bent y a first) (is_bent a first second) parts.1 last)
bent_with_last x y (c ∷ points) a first second bent last =
    let parts = and_parts (is_bent x y c) (are_bent y c points a first) bent in
    and_from (is_bent x y c) (are_bent y c (points ++ (a ∷ [])) first second) parts.0
    (bent_with_last y c points a first second parts.1 last)

bent_from_next : (a : Point) (points : List Point) → is_bent_loop (a ∷ points) ≡ true
    → is_bent_loop (points ++ (a ∷ [])) ≡ true
bent_from_next a [] bent = bent
bent_from_next a (b ∷ []) bent =
    let parts = and_parts (is_bent a b a) (is_bent b a b) bent in
    and_from (is_bent b a b) (is_bent a b a) parts.1 parts.0
bent_from_next a (b ∷ c ∷ points) bent =
    let parts = and_parts (is_bent a b c) (are_bent b c points a b) bent in
    bent_with_last b c points a b c parts.1 parts.0

-- nothing is left to drop, from whichever point it is read
pub done_from_next : (a : Point) (points : List Point) → IsDone (a ∷ points)
    → IsDone (points ++ (a ∷ []))
done_from_next a points (inl none) = absurd (some (ap length none))
  where
    some : length (a ∷ points) ≡ 0 → ⊥
    some same = absurd (omega (arith, same))
done_from_next a points (inr bent) = inr (bent_from_next a points bent)

-- nothing is left to drop in a normalised loop
pub normal_is_done : (points : List Point) → IsDone (normal_loop points)
normal_is_done points =
    from_least_keeps IsDone done_from_next (dropped points) (dropped_is_done points)

-- so it is bent where it keeps three points
pub normal_is_bent : (points : List Point) → keeps_few points ≡ false
    → is_bent_loop (normal_loop points) ≡ true
normal_is_bent points many = from (normal_is_done points)
  where
    from : IsDone (normal_loop points) → is_bent_loop (normal_loop points) ≡ true
    from (inl none) =
        absurd (false≢true (sym many ∙ ap (λ l. nat_lt (length l) 3) none))
    from (inr bent) = bent

-- ---- each point is one of those handed in

module _ (test : Point → Bool) where
  all_between : (before : Point) (points : List Point) (beyond : Point)
      → list_all test points ≡ true → list_all test (drop_between before points beyond) ≡ true
  all_between before [] beyond all = refl
  all_between before (b ∷ points) beyond all =
      let parts = and_parts (test b) (list_all test points) all in
      by (is_bent before b (first_of points beyond)) parts.0 parts.1
      (all_between b points beyond parts.1)
    where
      by : (t : Bool) → test b ≡ true → list_all test points ≡ true
          → list_all test (drop_between b points beyond) ≡ true
          → list_all test (if t then b ∷ drop_between b points beyond else points) ≡ true
      by true here rest later =
          and_from (test b) (list_all test (drop_between b points beyond)) here later
      by false here rest later = rest

  all_dropped : (points : List Point) → list_all test points ≡ true
      → list_all test (drop_first points) ≡ true
  all_dropped [] all = refl
  all_dropped (a ∷ points) all = all_between (last_of a points) (a ∷ points) a all

  all_from_next : (a : Point) (points : List Point) → list_all test (a ∷ points) ≡ true
      → list_all test (points ++ (a ∷ [])) ≡ true
  all_from_next a points all =
      let parts = and_parts (test a) (list_all test points) all in
      list_all-append test points (a ∷ [])
      ∙ and_from (list_all test points) (list_all test (a ∷ [])) parts.1
      (and_from (test a) true parts.0 refl)

  -- what holds of all points holds of those that are left
  pub all_left : (points : List Point) → list_all test points ≡ true
      → list_all test (normal_loop points) ≡ true
  all_left points all =
      normal_keeps (λ l. list_all test l ≡ true)
      (record { dropping = all_dropped; reading_on = all_from_next }) points all

-- ---- a loop

three_pass : (n : ℕ) → 3 ≤ n → nat_le 3 n ≡ true
three_pass n many = grind arith

-- a normalised loop is one
pub normal_is_loop : (points : List Point) → list_all is_plan_point points ≡ true
    → keeps_few points ≡ false
    → is_of_each_two (λ a b. not (is_same_point a b)) (normal_loop points) ≡ true
    → is_loop (normal_loop points) ≡ true
normal_is_loop points in_range many other =
    let l = normal_loop points in
    let bent = normal_is_bent points many in
    and_from (nat_le 3 (length l))
    (list_all is_plan_point l && (is_bent_loop l && is_least_first l))
    (three_pass (length l) (bent_has_three l bent))
    (and_from (list_all is_plan_point l) (is_bent_loop l && is_least_first l)
    (all_left is_plan_point points in_range)
    (and_from (is_bent_loop l) (is_least_first l) bent (least_is_first (dropped points) other)))
