-- By the ways to its ends an edge is seen to hold a point, and to cross the ray from it; and edge by
-- edge it is known whether the point lies inside.

use Rattle.std.proofs.Common.{pos, ◌≡◌, Bool, true, false, not, ◌&&◌, ◌||◌, List, [], ◌∷◌, ◌++◌, int_lt, int_le}
use Rattle.std.proofs.Common.{Option, Some, None, if◌then◌else◌, refl, ap, sym, ◌∙◌, arith, length, ◌<◌, ℕ, get_or, IsTrue}
use Rattle.std.specs.List.{list_any, list_all}
use Rattle.std.proofs.lemmas.List.Folds.{list_all_at}
use Rattle.std.proofs.lemmas.Bool.{false≢true}
use Rattle.std.proofs.lemmas.Int.{ints}
use Rattle.std.specs.Ordering.{int_eq}
use Rattle.theory_numbers.specs.Arrows.{Arrow, cross, dot}
use Rattle.theory_lists.specs.Parity.{differ, is_odd_number}
use Rattle.sb_fraction.specs.declared.point.Point.{Point}
use Rattle.sb_fraction.specs.Spots.{Spot}
use Rattle.sb_fraction.specs.Edges.{Edge, edge, seen_from, is_on}
use Rattle.theory_plans.specs.LoopEdges.{edges_of}
use Rattle.theory_plans.specs.Inside.{is_higher, is_crossed, is_in_plan}
use Rattle.sb_points.specs.Places.{is_passed, parity_after}

higher-seen : (p : Spot) (a : Point) → int_lt (pos 0) (seen_from p a).y ≡ is_higher p a
higher-seen p a = grind (arith, ints)

-- an edge crosses the ray where the ways to its ends say so
pub crossed-seen : (p : Spot) (a b : Point)
    → is_passed (seen_from p a) (seen_from p b) ≡ is_crossed p (edge a b)
crossed-seen p a b = rw (higher-seen p a, higher-seen p b) refl

-- ---- edge by edge

-- edges after which it is known go on from there
pub goes-on : (p : Spot) (odd known : Bool) (es fs : List Edge) → parity_after p odd es ≡ Some known
    → parity_after p odd (es ++ fs) ≡ parity_after p known fs
goes-on p odd known [] fs is = ap (λ b. parity_after p b fs) (some_is odd known is)
  where
    some_is : (a b : Bool) → Some a ≡ Some b → a ≡ b
    some_is a b e = cc
goes-on p odd known (e ∷ es) fs is =
    by_edge (is_on p e) (goes-on p (differ (is_crossed p e) odd) known es fs) is
  where
    by_edge : (on : Bool)
        → (parity_after p (differ (is_crossed p e) odd) es ≡ Some known
        → parity_after p (differ (is_crossed p e) odd) (es ++ fs) ≡ parity_after p known fs)
        → (if on then None else parity_after p (differ (is_crossed p e) odd) es) ≡ Some known
        → (if on then None else parity_after p (differ (is_crossed p e) odd) (es ++ fs))
        ≡ parity_after p known fs
    by_edge true rest known_is = absurd (cc)
    by_edge false rest known_is = rest known_is

-- after one that holds the point nothing is known
pub ends-on : (p : Spot) (odd : Bool) (es fs : List Edge) → parity_after p odd es ≡ None
    → parity_after p odd (es ++ fs) ≡ None
ends-on p odd [] fs is = absurd (cc)
ends-on p odd (e ∷ es) fs is =
    by_edge (is_on p e) (ends-on p (differ (is_crossed p e) odd) es fs) is
  where
    by_edge : (on : Bool)
        → (parity_after p (differ (is_crossed p e) odd) es ≡ None
        → parity_after p (differ (is_crossed p e) odd) (es ++ fs) ≡ None)
        → (if on then None else parity_after p (differ (is_crossed p e) odd) es) ≡ None
        → (if on then None else parity_after p (differ (is_crossed p e) odd) (es ++ fs)) ≡ None
    by_edge true rest none = refl
    by_edge false rest none = rest none

-- what the ways to the ends of an edge say of it
pub edge-seen : (p : Spot) (a b : Point) (odd : Bool) (x y : Arrow) (answer : Option Bool)
    → x ≡ seen_from p a → y ≡ seen_from p b
    → answer ≡ (if int_eq (cross x y) (pos 0) && int_le (dot x y) (pos 0) then None
    else Some (differ (is_passed x y) odd))
    → answer ≡ parity_after p odd (edge a b ∷ [])
edge-seen p a b odd x y answer x_is y_is is =
    is
    ∙ ap (λ t. if int_eq (cross t y) (pos 0) && int_le (dot t y) (pos 0) then None
    else Some (differ (is_passed t y) odd)) x_is
    ∙ ap (λ t. if int_eq (cross (seen_from p a) t) (pos 0) && int_le (dot (seen_from p a) t) (pos 0) then None
    else Some (differ (is_passed (seen_from p a) t) odd)) y_is
    ∙ ap (λ t. if is_on p (edge a b) then None else Some (differ t odd)) (crossed-seen p a b)

-- what is known after all edges
after-all : (p : Spot) (odd : Bool) (es : List Edge) → parity_after p odd es
    ≡ (if list_any (is_on p) es then None else Some (differ (is_odd_number (is_crossed p) es) odd))
after-all p odd [] = refl
after-all p odd (e ∷ es) = by_edge (is_on p e) (after-all p (differ (is_crossed p e) odd) es)
  where
    in_turn : (x y z : Bool) → differ y (differ x z) ≡ differ (differ x y) z
    in_turn true true true = refl
    in_turn true true false = refl
    in_turn true false true = refl
    in_turn true false false = refl
    in_turn false true true = refl
    in_turn false true false = refl
    in_turn false false true = refl
    in_turn false false false = refl

    by_edge : (on : Bool)
        → parity_after p (differ (is_crossed p e) odd) es
        ≡ (if list_any (is_on p) es then None
        else Some (differ (is_odd_number (is_crossed p) es) (differ (is_crossed p e) odd)))
        → (if on then None else parity_after p (differ (is_crossed p e) odd) es)
        ≡ (if on || list_any (is_on p) es then None
        else Some (differ (differ (is_crossed p e) (is_odd_number (is_crossed p) es)) odd))
    by_edge true rest = refl
    by_edge false rest =
        rest
        ∙ ap (λ t. if list_any (is_on p) es then None else Some t)
        (in_turn (is_crossed p e) (is_odd_number (is_crossed p) es) odd)

-- the point lies inside where it is known that an odd number cross the ray
is_inside_by : Option Bool → Bool
is_inside_by None = false
is_inside_by (Some odd) = odd

inside-by : (p : Spot) (loops : List (List Point))
    → is_inside_by (parity_after p false (edges_of loops)) ≡ is_in_plan loops p
unfolding is_inside_by
inside-by p loops =
    ap is_inside_by (after-all p false (edges_of loops))
    ∙ by_edges (list_any (is_on p) (edges_of loops)) (is_odd_number (is_crossed p) (edges_of loops))
  where
    by_edges : (on odd : Bool) → is_inside_by (if on then None else Some (differ odd false)) ≡ (not on && odd)
    by_edges true odd = refl
    by_edges false true = refl
    by_edges false false = refl

-- where it is known so of the edges, it is so
pub inside-known : (p : Spot) (loops : List (List Point)) (odd : Bool)
    → parity_after p false (edges_of loops) ≡ Some odd → odd ≡ is_in_plan loops p
unfolding is_inside_by
inside-known p loops odd known = sym (ap is_inside_by known) ∙ inside-by p loops

-- on an edge it does not
pub not-inside-on : (p : Spot) (loops : List (List Point))
    → parity_after p false (edges_of loops) ≡ None → false ≡ is_in_plan loops p
unfolding is_inside_by
not-inside-on p loops known = sym (ap is_inside_by known) ∙ inside-by p loops

-- a test that all pass is passed at each place
pub passed-at : {X : Type 0} (test : X → Bool) (xs : List X) (i : ℕ) (d : X) → i < length xs
    → IsTrue (list_all test xs) → IsTrue (test (get_or xs i d))
passed-at test xs i d within all = by_answer (test (get_or xs i d)) (list_all_at test xs i d within)
  where
    by_answer : (answer : Bool) → (answer ≡ false → list_all test xs ≡ false) → answer ≡ true
    by_answer true none = refl
    by_answer false none = absurd (false≢true (sym (none refl) ∙ all))
