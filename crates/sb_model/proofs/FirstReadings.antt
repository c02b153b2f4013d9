-- The extent of a prism may be begun with the reading of its first corner.

use Rattle.std.proofs.Common.{ℤ, ◌≡◌, true, ◌+ℤ◌, ◌*ℤ◌, ◌&&◌, List, [], ◌∷◌, length, nat_le, get_or, refl, ap, ◌∙◌, arith, IsTrue}
use Rattle.std.specs.Int.{int_min, int_max}
use Rattle.std.specs.List.{fold, list_all}
use Rattle.std.proofs.lemmas.Int.{ints}
use Rattle.std.proofs.lemmas.Bool.{and_parts, false≢true}
use Rattle.sb_fraction.specs.declared.point.Point.{Point}
use Rattle.sb_fraction.specs.Crossings.{abscissa_at}
use Rattle.sb_fraction.specs.Spots.{Vector}
use Rattle.theory_plans.specs.Loops.{is_loop, are_loops}
use Rattle.theory_plans.specs.Plans.{is_plan, are_apart, keep_left}
use Rattle.sb_model.specs.Solids.{Upright}
use Rattle.sb_model.specs.Labels.{first_of, least_of, greatest_of, readings_of}

min_of_itself : (z : ℤ) → int_min z z ≡ z
min_of_itself z = grind (arith, ints)

max_of_itself : (z : ℤ) → int_max z z ≡ z
max_of_itself z = grind (arith, ints)

-- the least of some readings, begun with the first
pub least-again : (zs : List ℤ) → fold int_min (first_of zs) zs ≡ least_of zs
least-again [] = refl
least-again (z ∷ zs) = ap (λ t. fold int_min t zs) (min_of_itself z)

-- and the greatest
pub greatest-again : (zs : List ℤ) → fold int_max (first_of zs) zs ≡ greatest_of zs
greatest-again [] = refl
greatest-again (z ∷ zs) = ap (λ t. fold int_max t zs) (max_of_itself z)

-- the first corner of loops stands over the first point of the first
first_reading : (s : Upright) (n : Vector) (loops : List (List Point)) → are_loops loops ≡ true
    → (d : List Point) (e : Point)
    → abscissa_at (get_or (get_or loops 0 d) 0 e) n +ℤ (s.z0 *ℤ n.z) ≡ first_of (readings_of s n loops)
first_reading s n [] are d e = absurd (false≢true are)
first_reading s n ([] ∷ loops) are d e =
    absurd (false≢true (and_parts (is_loop []) (list_all is_loop loops)
    (and_parts (nat_le 1 (length ([] ∷ loops))) (list_all is_loop ([] ∷ loops)) are).1).0)
first_reading s n ((p ∷ points) ∷ loops) are d e = refl

-- of a prism, by slices equal to its loops
pub first_corner : (s : Upright) (n : Vector) (loops : List (List Point)) (points : List Point) (d : List Point) (e : Point)
    → IsTrue (is_plan loops) → points ≡ get_or loops 0 d
    → abscissa_at (get_or points 0 e) n +ℤ (s.z0 *ℤ n.z) ≡ first_of (readings_of s n loops)
first_corner s n loops points d e plan here =
    ap (λ t. abscissa_at (get_or t 0 e) n +ℤ (s.z0 *ℤ n.z)) here
    ∙ first_reading s n loops (and_parts (are_loops loops) (are_apart loops && keep_left loops) plan).0 d e
