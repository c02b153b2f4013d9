-- Edge k of a closed loop runs from point k to the next, and the edges of a plan stand loop after
-- loop.

use Rattle.std.proofs.Common.{ℕ, zero, suc, ◌+◌, ◌-◌, ◌<◌, ◌≤◌, ◌≡◌, List, [], ◌∷◌, ◌++◌, length}
use Rattle.std.proofs.Common.{drop, Some, slice_get, slice_index_or, nat_lt, refl, arith, ap, sym}
use Rattle.std.proofs.Common.{◌∙◌, true, false, Bool, if◌then◌else◌, add-one, get_or}
use Rattle.std.proofs.lemmas.Bool.{lt-ltb}
use Rattle.std.proofs.lemmas.Bool.Decides.{nat_tests}
use Rattle.std.proofs.Math.Seq.{drop-cons}
use Rattle.sb_fraction.specs.declared.point.Point.{Point}
use Rattle.theory_plans.specs.LoopEdges.{edges_back, edges_of_loop, edges_of, next_in_loop}
use Rattle.sb_fraction.specs.Edges.{edge}

-- a test of two successors is that of the numbers
nat_lt-suc : (k n : ℕ) → nat_lt (suc k) (suc n) ≡ nat_lt k n
nat_lt-suc k n = grind (arith, nat_tests)

edge_back : (a : Point) (points : List Point) (first d : Point) (k : ℕ) → k ≤ length points
    → slice_get (edges_back a points first) k
    ≡ Some (edge (slice_index_or (a ∷ points) k d)
    (if nat_lt k (length points) then slice_index_or points k d else first))
edge_back a [] first d zero within = refl
edge_back a [] first d (suc k) within = absurd (omega arith)
edge_back a (b ∷ points) first d zero within =
    rw (lt-ltb 0 (suc (length points)) (omega arith)) refl
edge_back a (b ∷ points) first d (suc k) within =
    rw (nat_lt-suc k (length points)) (edge_back b points first d k (omega arith))

next_by : (b : Bool) (a : Point) (points : List Point) (k : ℕ) (d : Point)
    → (if b then slice_index_or points k d else a)
    ≡ slice_index_or (a ∷ points) (if b then suc k else 0) d
next_by true a points k d = refl
next_by false a points k d = refl

next_point : (a : Point) (points : List Point) (k : ℕ) (d : Point)
    → (if nat_lt k (length points) then slice_index_or points k d else a)
    ≡ slice_index_or (a ∷ points) (next_in_loop k (suc (length points))) d
next_point a points k d =
    rw (add-one k, nat_lt-suc k (length points))
    (next_by (nat_lt k (length points)) a points k d)

-- edge k runs from point k to the next
pub edge_by_place : (points : List Point) (k : ℕ) (d : Point) → k < length points
    → slice_get (edges_of_loop points) k
    ≡ Some (edge (slice_index_or points k d)
    (slice_index_or points (next_in_loop k (length points)) d))
edge_by_place [] k d within = absurd (omega arith)
edge_by_place (a ∷ points) k d within =
    edge_back a points a d k (omega arith)
    ∙ ap (λ b. Some (edge (slice_index_or (a ∷ points) k d) b)) (next_point a points k d)

length-edges_back : (a : Point) (points : List Point) (first : Point)
    → length (edges_back a points first) ≡ suc (length points)
length-edges_back a [] first = refl
length-edges_back a (b ∷ points) first = ap suc (length-edges_back b points first)

-- a loop has as many edges as points
pub length-edges_of_loop : (points : List Point) → length (edges_of_loop points) ≡ length points
length-edges_of_loop [] = refl
length-edges_of_loop (a ∷ points) = length-edges_back a points a

-- an item of two lists joined, by its place
item_of_first : {X : Type 0} (xs ys : List X) (k : ℕ) → k < length xs → slice_get (xs ++ ys) k
    ≡ slice_get xs k
item_of_first [] ys k within = absurd (omega arith)
item_of_first (x ∷ xs) ys zero within = refl
item_of_first (x ∷ xs) ys (suc k) within = item_of_first xs ys k (omega arith)

item_of_second : {X : Type 0} (xs ys : List X) (k : ℕ) → length xs ≤ k
    → slice_get (xs ++ ys) k ≡ slice_get ys (k - length xs)
item_of_second [] ys k past = ap (slice_get ys) (omega arith)
item_of_second (x ∷ xs) ys zero past = absurd (omega arith)
item_of_second (x ∷ xs) ys (suc k) past =
    item_of_second xs ys k (omega arith) ∙ ap (slice_get ys) (omega arith)

-- an edge of the first loop
pub edge_of_first : (points : List Point) (loops : List (List Point)) (k : ℕ) → k < length points
    → slice_get (edges_of (points ∷ loops)) k ≡ slice_get (edges_of_loop points) k
edge_of_first points loops k within =
    item_of_first (edges_of_loop points) (edges_of loops) k
    (rw (length-edges_of_loop points) within)

-- an edge of a later loop
pub edge_of_later : (points : List Point) (loops : List (List Point)) (k : ℕ) → length points ≤ k
    → slice_get (edges_of (points ∷ loops)) k ≡ slice_get (edges_of loops) (k - length points)
edge_of_later points loops k past =
    let e = length-edges_of_loop points in
    item_of_second (edges_of_loop points) (edges_of loops) k (rw e past)
    ∙ ap (λ n. slice_get (edges_of loops) (k - n)) e

-- the loops from place i on begin with the loop at i
loops_from : (loops : List (List Point)) (i : ℕ) (points : List Point) → i < length loops
    → points ≡ get_or loops i points → drop i loops ≡ points ∷ drop (i + 1) loops
loops_from loops i points within here =
    drop-cons loops i points within
    ∙ ap (λ p. p ∷ drop (suc i) loops) (sym here)
    ∙ ap (λ n. points ∷ drop n loops) (sym (add-one i))

-- an edge of the loop at place i
pub edge_here : (loops : List (List Point)) (i k : ℕ) (points : List Point) → i < length loops
    → points ≡ get_or loops i points → k < length points
    → slice_get (edges_of (drop i loops)) k ≡ slice_get (edges_of_loop points) k
edge_here loops i k points within here inside =
    ap (λ l. slice_get (edges_of l) k) (loops_from loops i points within here)
    ∙ edge_of_first points (drop (i + 1) loops) k inside

-- an edge of a loop after place i
pub edge_later : (loops : List (List Point)) (i k : ℕ) (points : List Point) → i < length loops
    → points ≡ get_or loops i points → length points ≤ k
    → slice_get (edges_of (drop i loops)) k
    ≡ slice_get (edges_of (drop (i + 1) loops)) (k - length points)
edge_later loops i k points within here past =
    ap (λ l. slice_get (edges_of l) k) (loops_from loops i points within here)
    ∙ edge_of_later points (drop (i + 1) loops) k past
