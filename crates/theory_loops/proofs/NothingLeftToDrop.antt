-- A loop from which points were dropped as often as it has points has none left to drop: it is
-- empty, or no three neighbours lie on one line.

use Rattle.std.proofs.Common.{◌≡◌, refl, sym, ap, ◌∙◌, subst, ◌⊎◌, inl, inr, arith, ℕ, zero, suc, pos}
use Rattle.std.proofs.Common.{◌≤◌, Bool, true, false, ◌&&◌, List, [], ◌∷◌, length}
use Rattle.std.proofs.Common.{if◌then◌else◌}
use Rattle.std.proofs.lemmas.Bool.{and_parts, and_from, false≢true}
use Rattle.sb_fraction.specs.declared.point.Point.{Point}
use Rattle.theory_numbers.proofs.Shapes.{var, num, minus, times, equal}
use Rattle.theory_plans.specs.Loops.{bend, is_bent, are_bent, is_bent_loop}
use Rattle.theory_plans.proofs.Edges.EdgesOfPlans.{bent_is_not_0}
use Rattle.theory_loops.specs.Normal.{first_of, last_of, drop_between, drop_first, dropped_times}
use Rattle.theory_loops.specs.Normal.{dropped}

-- ---- bent, point by point

-- each of these points is bent between its neighbours
abbrev pub is_bent_between : Point → List Point → Point → Bool
is_bent_between before [] beyond = true
is_bent_between before (b ∷ points) beyond =
    is_bent before b (first_of points beyond) && is_bent_between b points beyond

-- one point is dropped, or nothing is and each is bent
abbrev IsLessOrBent : Point → List Point → Point → Type 0
IsLessOrBent before points beyond =
    (length points ≡ suc (length (drop_between before points beyond)))
    ⊎ ((drop_between before points beyond ≡ points) × (is_bent_between before points beyond ≡ true))

less_or_bent : (before : Point) (points : List Point) (beyond : Point)
    → IsLessOrBent before points beyond
less_or_bent before [] beyond = inr (refl, refl)
less_or_bent before (b ∷ points) beyond =
    by (is_bent before b (first_of points beyond)) refl (less_or_bent b points beyond)
  where
    by : (t : Bool) → is_bent before b (first_of points beyond) ≡ t
        → IsLessOrBent b points beyond
        → (length (b ∷ points) ≡ suc (length (if t then b ∷ drop_between b points beyond else points)))
        ⊎ (((if t then b ∷ drop_between b points beyond else points) ≡ b ∷ points)
        × ((is_bent before b (first_of points beyond) && is_bent_between b points beyond) ≡ true))
    by true bent (inl less) = inl (ap suc less)
    by true bent (inr same) =
        inr (
          ap (λ t. b ∷ t) same.0,
          and_from (is_bent before b (first_of points beyond)) (is_bent_between b points beyond) bent
              same.1,
        )
    by false level later = inl refl

-- ---- a loop

-- a way there and back goes straight
pub there_and_back : (a b : Point) → bend a b a ≡ pos 0
there_and_back a b =
    equal
    (minus (times (minus (var b.x) (var a.x)) (minus (var a.y) (var b.y)))
    (times (minus (var b.y) (var a.y)) (minus (var a.x) (var b.x))))
    (num 0) (omega arith)

-- a point alone is on one line with itself
not_alone : (a : Point) → is_bent a a a ≡ true → ⊥
not_alone a bent = bent_is_not_0 (bend a a a) bent (there_and_back a a)

bent_back : (a b : Point) (points : List Point) (first second : Point)
    → is_bent_between a (b ∷ points) first ≡ true → is_bent (last_of b points) first second ≡ true
    → are_bent a b points first second ≡ true
bent_back a b [] first second between last =
    and_from (is_bent a b first) (is_bent b first second)
    (and_parts (is_bent a b first) true between).0 last
bent_back a b (c ∷ points) first second between last =
    let parts = and_parts (is_bent a b c) (is_bent_between b (c ∷ points) first) between in
    and_from (is_bent a b c) (are_bent b c points first second) parts.0
    (bent_back b c points first second parts.1 last)

-- each point bent between its neighbours: the loop is
bent_loop : (a : Point) (points : List Point)
    → is_bent_between (last_of a points) (a ∷ points) a ≡ true → is_bent_loop (a ∷ points) ≡ true
bent_loop a [] bent = absurd (not_alone a (and_parts (is_bent a a a) true bent).0)
bent_loop a (b ∷ points) bent =
    let parts = and_parts (is_bent (last_of b points) a b) (is_bent_between a (b ∷ points) a) bent in
    bent_back a b points a b parts.1 parts.0

-- nothing is left to drop
abbrev pub IsDone : List Point → Type 0
IsDone points = (points ≡ []) ⊎ (is_bent_loop points ≡ true)

one_less_or_done : (points : List Point)
    → (length points ≡ suc (length (drop_first points)))
    ⊎ ((drop_first points ≡ points) × IsDone points)
one_less_or_done [] = inr (refl, inl refl)
one_less_or_done (a ∷ points) = from (less_or_bent (last_of a points) (a ∷ points) a)
  where
    from : IsLessOrBent (last_of a points) (a ∷ points) a
        → (length (a ∷ points) ≡ suc (length (drop_first (a ∷ points))))
        ⊎ ((drop_first (a ∷ points) ≡ a ∷ points) × IsDone (a ∷ points))
    from (inl less) = inl less
    from (inr same) = inr (same.0, inr (bent_loop a points same.1))

-- where nothing is dropped, nothing is however often
pub same_times : (n : ℕ) (points : List Point) → drop_first points ≡ points
    → dropped_times n points ≡ points
same_times zero points same = refl
same_times (suc n) points same =
    ap (dropped_times n) same ∙ same_times n points same

done_after : (n : ℕ) (points : List Point) → length points ≤ n → IsDone (dropped_times n points)
done_after zero [] few = inl refl
done_after zero (a ∷ points) few = absurd (omega arith)
done_after (suc n) points few = from (one_less_or_done points) (done_after n (drop_first points))
  where
    from : ((length points ≡ suc (length (drop_first points)))
        ⊎ ((drop_first points ≡ points) × IsDone points))
        → (length (drop_first points) ≤ n → IsDone (dropped_times n (drop_first points)))
        → IsDone (dropped_times n (drop_first points))
    from (inl less) later = later (omega (arith, less, few))
    from (inr same) later =
        subst IsDone (sym (ap (dropped_times n) same.0 ∙ same_times n points same.0)) same.1

-- so it is with all dropped
pub dropped_is_done : (points : List Point) → IsDone (dropped points)
dropped_is_done points = done_after (length points) points (omega arith)

-- ---- how many points are left

-- a bent loop has three points or more
pub bent_has_three : (points : List Point) → is_bent_loop points ≡ true → 3 ≤ length points
bent_has_three [] bent = absurd (false≢true bent)
bent_has_three (a ∷ []) bent = absurd (false≢true bent)
bent_has_three (a ∷ b ∷ []) bent =
    absurd (bent_is_not_0 (bend a b a) (and_parts (is_bent a b a) (is_bent b a b) bent).0
    (there_and_back a b))
bent_has_three (a ∷ b ∷ c ∷ points) bent = omega arith
