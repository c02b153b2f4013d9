-- Edges that are mirrored at the diagonal are apart where they were.
use Rattle.std.proofs.Common.{◌≡◌, ℤ, pos, neg_ℤ, ◌*ℤ◌, Bool, true, false, not, ◌&&◌, ◌||◌, List, [], ◌∷◌, ◌++◌, map, refl, sym, ap, ap₂, ◌∙◌, arith}
use Rattle.std.specs.Prelude.{int_lt, int_le}
use Rattle.std.specs.Ordering.{int_eq}
use Rattle.std.specs.List.{list_all}
use Rattle.std.proofs.lemmas.Int.{ints}
use Rattle.std.proofs.lemmas.List.{map-append}
use Rattle.std.proofs.lemmas.Bool.Decides.{Decides-int_eq}
use Rattle.theory_numbers.specs.Arrows.{Arrow, arrow, cross, dot}
use Rattle.theory_numbers.specs.Arrows as arrows
use Rattle.theory_numbers.proofs.Ring.{neg-mul-neg}
use Rattle.theory_numbers.proofs.Shapes.{var, minus, times, plus, negated, equal}
use Rattle.theory_numbers.proofs.Signs.{same_tests}
use Rattle.sb_fraction.specs.declared.point.Point.{Point}
use Rattle.sb_fraction.specs.Spots.{spot_at}
use Rattle.sb_fraction.specs.Edges.{Edge, edge, turn_at, reach_at, is_on}
use Rattle.theory_plans.specs.Rectangles.{corner}
use Rattle.theory_plans.specs.LoopEdges.{edges_back, edges_of_loop}
use Rattle.theory_plans.specs.Plans.{is_same_point, is_parted, do_touch, is_consecutive, is_of_each_two, are_apart}

-- the point with its coordinates exchanged
abbrev pub mirrored : Point → Point
mirrored p = corner p.y p.x

abbrev mirrored_edge : Edge → Edge
mirrored_edge e = edge (mirrored e.a) (mirrored e.b)

and_comm : (a b : Bool) → (a && b) ≡ (b && a)
and_comm true true = refl
and_comm true false = refl
and_comm false true = refl
and_comm false false = refl

same-mirrored : (a b : Point) → is_same_point (mirrored a) (mirrored b) ≡ is_same_point a b
same-mirrored a b = and_comm (int_eq a.y b.y) (int_eq a.x b.x)

turn-mirrored : (e : Edge) (p : Point)
    → turn_at (mirrored_edge e) (spot_at (mirrored p)) ≡ neg_ℤ (turn_at e (spot_at p))
unfolding arrows.cross
turn-mirrored e p =
    equal
    (minus
    (times (minus (var (e.a.y *ℤ pos 1)) (var p.y)) (minus (var (e.b.x *ℤ pos 1)) (var p.x)))
    (times (minus (var (e.a.x *ℤ pos 1)) (var p.x)) (minus (var (e.b.y *ℤ pos 1)) (var p.y))))
    (negated
    (minus
    (times (minus (var (e.a.x *ℤ pos 1)) (var p.x)) (minus (var (e.b.y *ℤ pos 1)) (var p.y)))
    (times (minus (var (e.a.y *ℤ pos 1)) (var p.y)) (minus (var (e.b.x *ℤ pos 1)) (var p.x)))))
    (omega arith)

reach-mirrored : (e : Edge) (p : Point)
    → reach_at (mirrored_edge e) (spot_at (mirrored p)) ≡ reach_at e (spot_at p)
unfolding arrows.dot
reach-mirrored e p =
    equal
    (plus
    (times (minus (var (e.a.y *ℤ pos 1)) (var p.y)) (minus (var (e.b.y *ℤ pos 1)) (var p.y)))
    (times (minus (var (e.a.x *ℤ pos 1)) (var p.x)) (minus (var (e.b.x *ℤ pos 1)) (var p.x))))
    (plus
    (times (minus (var (e.a.x *ℤ pos 1)) (var p.x)) (minus (var (e.b.x *ℤ pos 1)) (var p.x)))
    (times (minus (var (e.a.y *ℤ pos 1)) (var p.y)) (minus (var (e.b.y *ℤ pos 1)) (var p.y))))
    (omega arith)

opposite_zero : (n : ℤ) → int_eq (neg_ℤ n) (pos 0) ≡ int_eq n (pos 0)
opposite_zero n =
    same_tests (int_eq (neg_ℤ n) (pos 0)) (int_eq n (pos 0))
    (λ is.
    (Decides-int_eq n (pos 0)).1
    (let zero = (Decides-int_eq (neg_ℤ n) (pos 0)).0 is in omega (arith, ints)))
    (λ is.
    (Decides-int_eq (neg_ℤ n) (pos 0)).1
    (let zero = (Decides-int_eq n (pos 0)).0 is in omega (arith, ints)))

on-mirrored : (p : Point) (e : Edge)
    → is_on (spot_at (mirrored p)) (mirrored_edge e) ≡ is_on (spot_at p) e
on-mirrored p e =
    ap₂ (λ s t. s && t)
    (ap (λ n. int_eq n (pos 0)) (turn-mirrored e p) ∙ opposite_zero (turn_at e (spot_at p)))
    (ap (λ n. int_le n (pos 0)) (reach-mirrored e p))

parted-mirrored : (e f : Edge) → is_parted (mirrored_edge e) (mirrored_edge f) ≡ is_parted e f
parted-mirrored e f =
    ap (λ n. int_lt n (pos 0))
    (ap₂ (λ s t. s *ℤ t) (turn-mirrored e f.a) (turn-mirrored e f.b)
    ∙ neg-mul-neg (turn_at e (spot_at f.a)) (turn_at e (spot_at f.b)))

touch-mirrored : (e f : Edge) → do_touch (mirrored_edge e) (mirrored_edge f) ≡ do_touch e f
touch-mirrored e f =
    ap₂ (λ s t. s || t) (on-mirrored e.a f)
    (ap₂ (λ s t. s || t) (on-mirrored e.b f)
    (ap₂ (λ s t. s || t) (on-mirrored f.a e)
    (ap₂ (λ s t. s || t) (on-mirrored f.b e)
    (ap₂ (λ s t. s && t) (parted-mirrored e f) (parted-mirrored f e)))))

consecutive-mirrored : (e f : Edge) → is_consecutive (mirrored_edge e) (mirrored_edge f) ≡ is_consecutive e f
consecutive-mirrored e f = ap₂ (λ s t. s || t) (same-mirrored e.b f.a) (same-mirrored f.b e.a)

all-mapped : {X : Type 0} (f : X → X) (test other : X → Bool) (xs : List X) → ((x : X) → test (f x) ≡ other x)
    → list_all test (map f xs) ≡ list_all other xs
all-mapped f test other [] each = refl
all-mapped f test other (x ∷ xs) each = ap₂ (λ s t. s && t) (each x) (all-mapped f test other xs each)

two-mapped : {X : Type 0} (f : X → X) (test : X → X → Bool) (xs : List X)
    → ((x y : X) → test (f x) (f y) ≡ test x y) → is_of_each_two test (map f xs) ≡ is_of_each_two test xs
two-mapped f test [] each = refl
two-mapped f test (x ∷ xs) each =
    ap₂ (λ s t. s && t) (all-mapped f (test (f x)) (test x) xs (each x)) (two-mapped f test xs each)

back-mirrored : (a : Point) (points : List Point) (first : Point)
    → edges_back (mirrored a) (map mirrored points) (mirrored first) ≡ map mirrored_edge (edges_back a points first)
back-mirrored a [] first = refl
back-mirrored a (b ∷ points) first = ap (λ l. edge (mirrored a) (mirrored b) ∷ l) (back-mirrored b points first)

edges-mirrored : (points : List Point) → edges_of_loop (map mirrored points) ≡ map mirrored_edge (edges_of_loop points)
edges-mirrored [] = refl
edges-mirrored (a ∷ points) = back-mirrored a points a

-- one loop
pub apart-mirrored : (points : List Point) → are_apart (map mirrored points ∷ []) ≡ are_apart (points ∷ [])
apart-mirrored points =
    ap₂ (λ s t. s && t)
    (ap (is_of_each_two (λ a b. not (is_same_point a b))) (sym (map-append mirrored points []))
    ∙ two-mapped mirrored (λ a b. not (is_same_point a b)) (points ++ []) (λ a b. ap not (same-mirrored a b)))
    (ap (λ l. is_of_each_two (λ e f. is_consecutive e f || not (do_touch e f)) (l ++ [])) (edges-mirrored points)
    ∙ ap (is_of_each_two (λ e f. is_consecutive e f || not (do_touch e f))) (sym (map-append mirrored_edge (edges_of_loop points) []))
    ∙ two-mapped mirrored_edge (λ e f. is_consecutive e f || not (do_touch e f)) (edges_of_loop points ++ [])
    (λ e f. ap₂ (λ s t. s || not t) (consecutive-mirrored e f) (touch-mirrored e f)))
