-- The normal form of a loop moves with it.
use Rattle.std.proofs.Common.{◌≡◌, ℕ, zero, suc, Bool, true, false, List, [], ◌∷◌, ◌++◌, map, length, refl, sym, ap, ap₂, ◌∙◌}
use Rattle.std.proofs.Common.{if◌then◌else◌}
use Rattle.std.proofs.lemmas.List.{map-append, length-map}
use Rattle.theory_numbers.specs.Arrows.{Arrow}
use Rattle.sb_fraction.specs.declared.point.Point.{Point}
use Rattle.theory_plans.specs.Loops.{is_bent, comes_before}
use Rattle.theory_plans.specs.Plans.{is_same_point}
use Rattle.theory_loops.specs.Normal.{first_of, last_of, drop_between, drop_first, dropped_times, dropped, least_of, read_from, from_least, normal_loop}
use Rattle.theory_shifts.specs.Shifts.{moved, moved_loop}
use Rattle.theory_shifts.specs.Laws.{HasNormalMoved}
use Rattle.theory_shifts.proofs.StepsStay.{is_bent-moved, comes_before-moved, same-moved}

first-moved : (d : Arrow) (points : List Point) (beyond : Point)
    → first_of (map (moved d) points) (moved d beyond) ≡ moved d (first_of points beyond)
first-moved d [] beyond = refl
first-moved d (a ∷ points) beyond = refl

last-moved : (d : Arrow) (a : Point) (points : List Point)
    → last_of (moved d a) (map (moved d) points) ≡ moved d (last_of a points)
last-moved d a [] = refl
last-moved d a (b ∷ points) = last-moved d b points

-- ---- dropping

between-moved : (d : Arrow) (before : Point) (points : List Point) (beyond : Point)
    → drop_between (moved d before) (map (moved d) points) (moved d beyond)
    ≡ map (moved d) (drop_between before points beyond)
between-moved d before [] beyond = refl
between-moved d before (b ∷ points) beyond =
    ap (λ t. if t then moved d b ∷ drop_between (moved d b) (map (moved d) points) (moved d beyond) else map (moved d) points) bent
    ∙ by (is_bent before b (first_of points beyond)) (between-moved d b points beyond)
  where
    bent : is_bent (moved d before) (moved d b) (first_of (map (moved d) points) (moved d beyond))
        ≡ is_bent before b (first_of points beyond)
    bent =
        ap (is_bent (moved d before) (moved d b)) (first-moved d points beyond)
        ∙ is_bent-moved d before b (first_of points beyond)

    by : (t : Bool) → drop_between (moved d b) (map (moved d) points) (moved d beyond)
        ≡ map (moved d) (drop_between b points beyond)
        → (if t then moved d b ∷ drop_between (moved d b) (map (moved d) points) (moved d beyond) else map (moved d) points)
        ≡ map (moved d) (if t then b ∷ drop_between b points beyond else points)
    by true later = ap (λ l. moved d b ∷ l) later
    by false later = refl

drop_first-moved : (d : Arrow) (points : List Point)
    → drop_first (map (moved d) points) ≡ map (moved d) (drop_first points)
drop_first-moved d [] = refl
drop_first-moved d (a ∷ points) =
    ap (λ l. drop_between l (moved d a ∷ map (moved d) points) (moved d a)) (last-moved d a points)
    ∙ between-moved d (last_of a points) (a ∷ points) a

times-moved : (d : Arrow) (n : ℕ) (points : List Point)
    → dropped_times n (map (moved d) points) ≡ map (moved d) (dropped_times n points)
times-moved d zero points = refl
times-moved d (suc n) points =
    ap (dropped_times n) (drop_first-moved d points) ∙ times-moved d n (drop_first points)

dropped-moved : (d : Arrow) (points : List Point)
    → dropped (map (moved d) points) ≡ map (moved d) (dropped points)
dropped-moved d points =
    ap (λ n. dropped_times n (map (moved d) points)) (length-map points (moved d))
    ∙ times-moved d (length points) points

-- ---- the least point first

least-moved : (d : Arrow) (a : Point) (points : List Point)
    → least_of (moved d a) (map (moved d) points) ≡ moved d (least_of a points)
least-moved d a [] = refl
least-moved d a (b ∷ points) =
    ap (λ t. least_of (if t then moved d b else moved d a) (map (moved d) points)) (comes_before-moved d b a)
    ∙ by (comes_before b a) (least-moved d b points) (least-moved d a points)
  where
    by : (t : Bool) → least_of (moved d b) (map (moved d) points) ≡ moved d (least_of b points)
        → least_of (moved d a) (map (moved d) points) ≡ moved d (least_of a points)
        → least_of (if t then moved d b else moved d a) (map (moved d) points)
        ≡ moved d (least_of (if t then b else a) points)
    by true first second = first
    by false first second = second

-- the loop from m on, and the loop read on behind another point
abbrev read_on : Bool → Point → Point → List Point → List Point → List Point
read_on t m b passed points =
    if t then b ∷ (points ++ passed) else read_from m (passed ++ (b ∷ [])) points

read-moved : (d : Arrow) (m : Point) (passed points : List Point)
    → read_from (moved d m) (map (moved d) passed) (map (moved d) points)
    ≡ map (moved d) (read_from m passed points)
read-moved d m passed [] = refl
read-moved d m passed (b ∷ points) =
    ap (λ t. read_on t (moved d m) (moved d b) (map (moved d) passed) (map (moved d) points)) (same-moved d b m)
    ∙ by (is_same_point b m) (read-moved d m (passed ++ (b ∷ [])) points)
  where
    by : (t : Bool)
        → read_from (moved d m) (map (moved d) (passed ++ (b ∷ []))) (map (moved d) points)
        ≡ map (moved d) (read_from m (passed ++ (b ∷ [])) points)
        → read_on t (moved d m) (moved d b) (map (moved d) passed) (map (moved d) points)
        ≡ map (moved d) (read_on t m b passed points)
    by true later = ap (λ l. moved d b ∷ l) (sym (map-append (moved d) points passed))
    by false later =
        ap (λ l. read_from (moved d m) l (map (moved d) points)) (sym (map-append (moved d) passed (b ∷ [])))
        ∙ later

from_least-moved : (d : Arrow) (points : List Point)
    → from_least (map (moved d) points) ≡ map (moved d) (from_least points)
from_least-moved d [] = refl
from_least-moved d (a ∷ points) =
    ap (λ m. read_from m [] (moved d a ∷ map (moved d) points)) (least-moved d a points)
    ∙ read-moved d (least_of a points) [] (a ∷ points)

-- ---- both

pub normal-moved : HasNormalMoved
normal-moved d points =
    ap from_least (dropped-moved d points) ∙ from_least-moved d (dropped points)
