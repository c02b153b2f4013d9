-- Loops turned by their senses are put with the solid on their left.

use Rattle.std.proofs.Common.{◌≡◌, refl, sym, ap, ◌∙◌, arith, ℕ, zero, suc, ◌+◌, ◌-◌, ◌<◌, reverse}
use Rattle.std.proofs.Common.{Bool, List, [], ◌∷◌, ◌++◌, length, get_or, take, map, if◌then◌else◌}
use Rattle.std.proofs.lemmas.List.{append_assoc, take_more, length-reverse, get_or-reverse}
use Rattle.sb_fraction.specs.declared.point.Point.{Point}
use Rattle.sb_fraction.specs.Edges.{Edge}
use Rattle.theory_parity.specs.Sides.{turned_loop, is_left_at_first, put_left}
use Rattle.sb_loops.specs.Answers.{turned_by}

-- one loop more
pub one_more_turned : (senses : List Bool) (loops : List (List Point)) (k : ℕ) (s : Bool)
    (points : List Point) → k < length loops → length senses ≡ length loops
    → turned_by (take (k + 1) senses) (take (k + 1) loops)
    ≡ turned_by (take k senses) (take k loops)
    ++ ((if get_or senses k s then get_or loops k points else turned_loop (get_or loops k points))
    ∷ [])
one_more_turned [] [] k s points within size = absurd (omega arith)
one_more_turned [] (l ∷ loops) k s points within size = absurd (omega (arith, size))
one_more_turned (b ∷ senses) [] k s points within size = absurd (omega arith)
one_more_turned (b ∷ senses) (l ∷ loops) zero s points within size = refl
one_more_turned (b ∷ senses) (l ∷ loops) (suc k) s points within size =
    ap (λ n. turned_by (take n (b ∷ senses)) (take n (l ∷ loops))) (up k)
    ∙ ap (λ t. (if b then l else turned_loop l) ∷ t)
    (one_more_turned senses loops k s points (omega arith) (omega (arith, size)))
  where
    up : (n : ℕ) → suc n + 1 ≡ suc (n + 1)
    up n = omega arith

-- by the senses of the loops
pub turned_is_put : (edges : List Edge) (loops : List (List Point))
    → turned_by (map (is_left_at_first edges) loops) loops ≡ map (put_left edges) loops
turned_is_put edges [] = refl
turned_is_put edges (points ∷ loops) =
    ap (λ t. put_left edges points ∷ t) (turned_is_put edges loops)

-- one point more, from the last one back
pub one_more_back : (before points : List Point) (k : ℕ) (d : Point) → k < length points
    → (before ++ take k (reverse points)) ++ (get_or points (length points - 1 - k) d ∷ [])
    ≡ before ++ take (k + 1) (reverse points)
one_more_back before points k d within =
    let size = length-reverse points in
    append_assoc before (take k (reverse points)) (get_or points (length points - 1 - k) d ∷ [])
    ∙ ap (λ p. before ++ (take k (reverse points) ++ (p ∷ [])))
    (sym (get_or-reverse points k d within))
    ∙ ap (λ l. before ++ l) (sym (take_more (reverse points) k d (omega (arith, size, within))))
