-- Edges that are moved lie to one another as they lay before: whether they touch, and on which side of
-- them the solid lies.
use Rattle.std.proofs.Common.{◌≡◌, ℤ, pos, ◌+ℤ◌, ◌-ℤ◌, ◌*ℤ◌, Bool, true, false, not, ◌&&◌, ◌||◌, List, [], ◌∷◌, ◌++◌, map, refl, sym, ap, ap₂, ◌∙◌, arith}
use Rattle.std.proofs.Common.{if◌then◌else◌}
use Rattle.std.specs.Prelude.{int_lt, int_le, neg_ℤ}
use Rattle.std.specs.Ordering.{int_eq}
use Rattle.std.specs.List.{list_all}
use Rattle.std.proofs.lemmas.Int.{ints}
use Rattle.std.proofs.lemmas.List.{map-append}
use Rattle.theory_lists.specs.Parity.{differ, is_odd_number}
use Rattle.theory_numbers.specs.Arrows.{Arrow, arrow, cross, dot}
use Rattle.sb_fraction.specs.declared.point.Point.{Point}
use Rattle.sb_fraction.specs.Spots.{Spot, spot_at}
use Rattle.sb_fraction.specs.Edges.{Edge, edge, span_of, seen_from, turn_at, reach_at, is_on}
use Rattle.theory_plans.specs.LoopEdges.{edges_back, edges_of_loop, edges_of}
use Rattle.theory_plans.specs.Rays.{is_left_of, is_struck}
use Rattle.theory_plans.specs.Plans.{is_same_point, is_parted, do_touch, is_consecutive, is_of_each_two, corners_in, are_apart, middle_of, right_of, is_solid_left_of}
use Rattle.theory_shifts.specs.Shifts.{moved, moved_loop, moved_loops}
use Rattle.theory_shifts.proofs.StepsStay.{step-moved, same-moved}

abbrev pub moved_edge : Arrow → Edge → Edge
moved_edge d e = edge (moved d e.a) (moved d e.b)

-- ---- seen from a point that moves along

seen_once : (a p d : ℤ) → ((a +ℤ d) *ℤ pos 1) -ℤ (p +ℤ d) ≡ (a *ℤ pos 1) -ℤ p
seen_once a p d = omega (arith, ints)

seen-moved : (d : Arrow) (p a : Point) → seen_from (spot_at (moved d p)) (moved d a) ≡ seen_from (spot_at p) a
seen-moved d p a = ap₂ (λ s t. arrow s t) (seen_once a.x p.x d.x) (seen_once a.y p.y d.y)

turn-moved : (d : Arrow) (e : Edge) (p : Point)
    → turn_at (moved_edge d e) (spot_at (moved d p)) ≡ turn_at e (spot_at p)
turn-moved d e p = ap₂ cross (seen-moved d p e.a) (seen-moved d p e.b)

on-moved : (d : Arrow) (p : Point) (e : Edge)
    → is_on (spot_at (moved d p)) (moved_edge d e) ≡ is_on (spot_at p) e
on-moved d p e =
    ap₂ (λ s t. int_eq s (pos 0) && int_le t (pos 0)) (turn-moved d e p)
    (ap₂ dot (seen-moved d p e.a) (seen-moved d p e.b))

parted-moved : (d : Arrow) (e f : Edge) → is_parted (moved_edge d e) (moved_edge d f) ≡ is_parted e f
parted-moved d e f = ap₂ (λ s t. int_lt (s *ℤ t) (pos 0)) (turn-moved d e f.a) (turn-moved d e f.b)

touch-moved : (d : Arrow) (e f : Edge) → do_touch (moved_edge d e) (moved_edge d f) ≡ do_touch e f
touch-moved d e f =
    ap₂ (λ s t. s || t) (on-moved d e.a f)
    (ap₂ (λ s t. s || t) (on-moved d e.b f)
    (ap₂ (λ s t. s || t) (on-moved d f.a e)
    (ap₂ (λ s t. s || t) (on-moved d f.b e)
    (ap₂ (λ s t. s && t) (parted-moved d e f) (parted-moved d f e)))))

consecutive-moved : (d : Arrow) (e f : Edge)
    → is_consecutive (moved_edge d e) (moved_edge d f) ≡ is_consecutive e f
consecutive-moved d e f = ap₂ (λ s t. s || t) (same-moved d e.b f.a) (same-moved d f.b e.a)

-- ---- lists

all-mapped : {X : Type 0} (f : X → X) (test other : X → Bool) (xs : List X) → ((x : X) → test (f x) ≡ other x)
    → list_all test (map f xs) ≡ list_all other xs
all-mapped f test other [] each = refl
all-mapped f test other (x ∷ xs) each = ap₂ (λ s t. s && t) (each x) (all-mapped f test other xs each)

two-mapped : {X : Type 0} (f : X → X) (test : X → X → Bool) (xs : List X)
    → ((x y : X) → test (f x) (f y) ≡ test x y) → is_of_each_two test (map f xs) ≡ is_of_each_two test xs
two-mapped f test [] each = refl
two-mapped f test (x ∷ xs) each =
    ap₂ (λ s t. s && t) (all-mapped f (test (f x)) (test x) xs (each x)) (two-mapped f test xs each)

odd-mapped : {X : Type 0} (f : X → X) (test other : X → Bool) (xs : List X) → ((x : X) → test (f x) ≡ other x)
    → is_odd_number test (map f xs) ≡ is_odd_number other xs
odd-mapped f test other [] each = refl
odd-mapped f test other (x ∷ xs) each = ap₂ differ (each x) (odd-mapped f test other xs each)

-- ---- the edges of loops

back-moved : (d : Arrow) (a : Point) (points : List Point) (first : Point)
    → edges_back (moved d a) (map (moved d) points) (moved d first) ≡ map (moved_edge d) (edges_back a points first)
back-moved d a [] first = refl
back-moved d a (b ∷ points) first = ap (λ l. edge (moved d a) (moved d b) ∷ l) (back-moved d b points first)

loop_edges-moved : (d : Arrow) (points : List Point)
    → edges_of_loop (moved_loop d points) ≡ map (moved_edge d) (edges_of_loop points)
loop_edges-moved d [] = refl
loop_edges-moved d (a ∷ points) = back-moved d a points a

pub edges-moved : (d : Arrow) (loops : List (List Point))
    → edges_of (moved_loops d loops) ≡ map (moved_edge d) (edges_of loops)
edges-moved d [] = refl
edges-moved d (points ∷ loops) =
    ap₂ (λ s t. s ++ t) (loop_edges-moved d points) (edges-moved d loops)
    ∙ sym (map-append (moved_edge d) (edges_of_loop points) (edges_of loops))

pub corners-moved : (d : Arrow) (loops : List (List Point))
    → corners_in (moved_loops d loops) ≡ map (moved d) (corners_in loops)
corners-moved d [] = refl
corners-moved d (points ∷ loops) =
    ap (λ l. moved_loop d points ++ l) (corners-moved d loops)
    ∙ sym (map-append (moved d) points (corners_in loops))

-- ---- apart

pub apart-moved : (d : Arrow) (loops : List (List Point)) → are_apart (moved_loops d loops) ≡ are_apart loops
apart-moved d loops =
    ap₂ (λ s t. s && t)
    (ap (is_of_each_two (λ a b. not (is_same_point a b))) (corners-moved d loops)
    ∙ two-mapped (moved d) (λ a b. not (is_same_point a b)) (corners_in loops) (λ a b. ap not (same-moved d a b)))
    (ap (is_of_each_two (λ e f. is_consecutive e f || not (do_touch e f))) (edges-moved d loops)
    ∙ two-mapped (moved_edge d) (λ e f. is_consecutive e f || not (do_touch e f)) (edges_of loops)
    (λ e f. ap₂ (λ s t. s || not t) (consecutive-moved d e f) (touch-moved d e f)))

-- ---- the side of the solid

right-moved : (d : Arrow) (e : Edge) → right_of (moved_edge d e) ≡ right_of e
right-moved d e =
    ap₂ (λ s t. arrow s (neg_ℤ t)) (step-moved e.a.y e.b.y d.y) (step-moved e.a.x e.b.x d.x)

seen_twice : (p a b d : ℤ) → ((p +ℤ d) *ℤ pos 2) -ℤ ((a +ℤ d) +ℤ (b +ℤ d)) ≡ (p *ℤ pos 2) -ℤ (a +ℤ b)
seen_twice p a b d = omega (arith, ints)

from_middle : (d : Arrow) (e : Edge) (p : Point)
    → seen_from (middle_of (moved_edge d e)) (moved d p) ≡ seen_from (middle_of e) p
from_middle d e p = ap₂ (λ s t. arrow s t) (seen_twice p.x e.a.x e.b.x d.x) (seen_twice p.y e.a.y e.b.y d.y)

left-moved : (d : Arrow) (r : Arrow) (e : Edge) (p : Point)
    → is_left_of r (middle_of (moved_edge d e)) (moved d p) ≡ is_left_of r (middle_of e) p
left-moved d r e p = ap (λ v. int_lt (pos 0) (cross r v)) (from_middle d e p)

turn_middle : (d : Arrow) (e f : Edge)
    → turn_at (moved_edge d f) (middle_of (moved_edge d e)) ≡ turn_at f (middle_of e)
turn_middle d e f = ap₂ cross (from_middle d e f.a) (from_middle d e f.b)

abbrev struck_by : Bool → Bool → ℤ → Bool
struck_by b a turn =
    if b
    then (if a then false else int_lt (pos 0) turn)
    else (if a then int_lt turn (pos 0) else false)

struck-moved : (d : Arrow) (e f : Edge)
    → is_struck (right_of (moved_edge d e)) (middle_of (moved_edge d e)) (moved_edge d f)
    ≡ is_struck (right_of e) (middle_of e) f
struck-moved d e f =
    ap (λ r. is_struck r (middle_of (moved_edge d e)) (moved_edge d f)) (right-moved d e)
    ∙ ap (λ b. struck_by b (is_left_of (right_of e) (middle_of (moved_edge d e)) (moved d f.a))
    (turn_at (moved_edge d f) (middle_of (moved_edge d e)))) (left-moved d (right_of e) e f.b)
    ∙ ap (λ a. struck_by (is_left_of (right_of e) (middle_of e) f.b) a
    (turn_at (moved_edge d f) (middle_of (moved_edge d e)))) (left-moved d (right_of e) e f.a)
    ∙ ap (struck_by (is_left_of (right_of e) (middle_of e) f.b) (is_left_of (right_of e) (middle_of e) f.a))
    (turn_middle d e f)

pub solid-moved : (d : Arrow) (e : Edge) (edges : List Edge)
    → is_solid_left_of (moved_edge d e) (map (moved_edge d) edges) ≡ is_solid_left_of e edges
solid-moved d e edges =
    ap not
    (odd-mapped (moved_edge d) (is_struck (right_of (moved_edge d e)) (middle_of (moved_edge d e)))
    (is_struck (right_of e) (middle_of e)) edges (struck-moved d e))

pub all-moved : {X : Type 0} (f : X → X) (test other : X → Bool) (xs : List X) → ((x : X) → test (f x) ≡ other x)
    → list_all test (map f xs) ≡ list_all other xs
all-moved f test other xs each = all-mapped f test other xs each
