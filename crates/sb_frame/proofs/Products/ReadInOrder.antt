-- Edges that are read loop after loop and product after product are all edges; and the product whose edges
-- pass the limit.

use Rattle.std.proofs.Common.{◌≡◌, refl, sym, ap, ap₂, ◌∙◌, arith, ℕ, zero, suc, ◌<◌, ◌≤◌, ◌+◌, ◌-◌}
use Rattle.std.proofs.Common.{Bool, ◌&&◌, true, List, [], ◌∷◌, ◌++◌, map, length, drop, get_or}
use Rattle.std.proofs.Common.{Some, append_assoc, add-one}
use Rattle.std.specs.List.{list_all}
use Rattle.std.proofs.Math.Seq.{drop-cons}
use Rattle.std.proofs.lemmas.Bool.{and_parts}
use Rattle.std.proofs.lemmas.List.{length-append}
use Rattle.sb_fraction.specs.declared.point.Point.{Point}
use Rattle.sb_fraction.specs.Edges.{Edge}
use Rattle.theory_plans.specs.LoopEdges.{edges_back, edges_of_loop, edges_of}
use Rattle.sb_model.specs.PlanEdges.{PlanEdge}
use Rattle.sb_frame.specs.Network.{product_beyond}
use Rattle.sb_frame.specs.Owners.{edge_in, is_proper_edge}

-- ---- how many

back-length : (a : Point) (points : List Point) (first : Point)
    → length (edges_back a points first) ≡ suc (length points)
back-length a [] first = refl
back-length a (b ∷ points) first = ap suc (back-length b points first)

-- a loop has as many edges as points
pub loop-length : (points : List Point) → length (edges_of_loop points) ≡ length points
loop-length [] = refl
loop-length (a ∷ points) = back-length a points a

-- the edges of a loop and of those behind it
pub edges_on : (loops : List (List Point)) (i : ℕ) (points : List Point) → i < length loops
    → points ≡ get_or loops i points
    → edges_of (drop i loops) ≡ edges_of_loop points ++ edges_of (drop (i + 1) loops)
edges_on loops i points there here =
    ap edges_of (drop-cons loops i points there)
    ∙ ap₂ (λ ps n. edges_of_loop ps ++ edges_of (drop n loops)) (sym here) (sym (add-one i))

pub edges_on-length : (loops : List (List Point)) (i : ℕ) (points : List Point) → i < length loops
    → points ≡ get_or loops i points
    → length (edges_of (drop i loops)) ≡ length points + length (edges_of (drop (i + 1) loops))
edges_on-length loops i points there here =
    ap length (edges_on loops i points there here)
    ∙ length-append (edges_of_loop points) (edges_of (drop (i + 1) loops))
    ∙ ap (λ n. n + length (edges_of (drop (i + 1) loops))) (loop-length points)

-- ---- proper edges

all_in_parts : {X : Type 0} (test : X → Bool) (xs ys : List X) → list_all test (xs ++ ys) ≡ true
    → (list_all test xs ≡ true) × (list_all test ys ≡ true)
all_in_parts test [] ys all = (refl, all)
all_in_parts test (x ∷ xs) ys all =
    let parts = and_parts (test x) (list_all test (xs ++ ys)) all in
    let rest = all_in_parts test xs ys parts.1 in
    (both parts.0 rest.0, rest.1)
  where
    both : {a b : Bool} → a ≡ true → b ≡ true → (a && b) ≡ true
    both first second = rw (first, second) refl

pub proper_loop : (loops : List (List Point)) (i : ℕ) (points : List Point) → i < length loops
    → points ≡ get_or loops i points
    → list_all is_proper_edge (edges_of (drop i loops)) ≡ true
    → list_all is_proper_edge (edges_of_loop points) ≡ true
proper_loop loops i points there here proper =
    (all_in_parts is_proper_edge (edges_of_loop points) (edges_of (drop (i + 1) loops))
    (ap (list_all is_proper_edge) (sym (edges_on loops i points there here)) ∙ proper)).0

pub proper_rest : (loops : List (List Point)) (i : ℕ) (points : List Point) → i < length loops
    → points ≡ get_or loops i points
    → list_all is_proper_edge (edges_of (drop i loops)) ≡ true
    → list_all is_proper_edge (edges_of (drop (i + 1) loops)) ≡ true
proper_rest loops i points there here proper =
    (all_in_parts is_proper_edge (edges_of_loop points) (edges_of (drop (i + 1) loops))
    (ap (list_all is_proper_edge) (sym (edges_on loops i points there here)) ∙ proper)).1

-- ---- one part more

-- what was read, and what is left: a part goes from the one to the other
pub read_more : (read part rest all more : List PlanEdge) → more ≡ read ++ part
    → read ++ (part ++ rest) ≡ all → more ++ rest ≡ all
read_more read part rest all more appended whole =
    ap (λ es. es ++ rest) appended ∙ append_assoc read part rest ∙ whole

-- ---- the edge that passes the limit

module _ (number : ℕ) where
  product_in_part : (es : List Edge) (rest : List PlanEdge) (k : ℕ) → k < length es
      → product_beyond k (map (edge_in number) es ++ rest) ≡ Some number
  product_in_part [] rest k within = absurd (omega arith)
  product_in_part (e ∷ es) rest zero within = refl
  product_in_part (e ∷ es) rest (suc k) within = product_in_part es rest k (omega arith)

  product_behind : (es : List Edge) (rest : List PlanEdge) (k : ℕ) → length es ≤ k
      → product_beyond k (map (edge_in number) es ++ rest) ≡ product_beyond (k - length es) rest
  product_behind [] rest k within = ap (λ n. product_beyond n rest) (omega arith)
  product_behind (e ∷ es) rest zero within = absurd (omega arith)
  product_behind (e ∷ es) rest (suc k) within =
      product_behind es rest k (omega arith) ∙ ap (λ n. product_beyond n rest) (one_less k (length es))
    where
      one_less : (m n : ℕ) → m - n ≡ suc m - suc n
      one_less m n = omega arith

  -- it is one of these
  pub passes_limit : (most count : ℕ) (es : List Edge) (left rest : List PlanEdge) → count ≤ most
      → left ≡ map (edge_in number) es ++ rest → most < count + length es
      → product_beyond (most - count) left ≡ Some number
  passes_limit most count es left rest within split beyond =
      ap (product_beyond (most - count)) split
      ∙ product_in_part es rest (most - count) (omega arith)

  -- or of those behind
  pub keeps_limit : (most count more : ℕ) (es : List Edge) (left rest : List PlanEdge)
      → more ≡ count + length es → more ≤ most → left ≡ map (edge_in number) es ++ rest
      → product_beyond (most - count) left ≡ product_beyond (most - more) rest
  keeps_limit most count more es left rest counted within split =
      ap (product_beyond (most - count)) split
      ∙ product_behind es rest (most - count) (omega arith)
      ∙ ap (λ n. product_beyond n rest) (omega arith)
