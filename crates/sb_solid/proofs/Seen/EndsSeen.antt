-- Where the first point of a solid lies along the line of sight, and how many points loops have.
use Rattle.std.proofs.Common.{◌≡◌, ℕ, ◌+◌, ◌<◌, ℤ, List, [], ◌∷◌, ◌++◌, take, length, get_or, Option, Some, None, refl, sym, ap, ◌∙◌, subst, arith}
use Rattle.std.specs.Prelude.{min}
use Rattle.std.proofs.lemmas.List.{append_assoc, length-append}
use Rattle.sb_fraction.specs.declared.point.Point.{Point}
use Rattle.sb_fraction.specs.Spots.{Vector}
use Rattle.theory_plans.specs.Plans.{corners_in}
use Rattle.sb_model.specs.Frames.{sum_of}
use Rattle.sb_solid.specs.declared.points.axes.View.{View}
use Rattle.sb_solid.specs.declared.points.sizes.Wide.{Wide}
use Rattle.sb_solid.specs.declared.points.sizes.Lying.{Lying}
use Rattle.sb_solid.specs.Steps.{vector_at, wide_at}
use Rattle.sb_solid.specs.Judged.{IsBase, depth_in, both, first_of, AreEndsOf, AreEnds, counted}
use Rattle.sb_solid.proofs.Seen.SeenPoints.{IsBoth, seen_both}
use Rattle.sb_solid.proofs.ListsGrow.{taken}

-- ---- the ends

ends_of_both : (v : View) (a way p : Vector) (result : Option (ℤ × ℤ))
    → IsBoth (depth_in v a) (depth_in v p) (depth_in v (sum_of p way)) result → AreEndsOf v a way p result
ends_of_both v a way p None is = is
ends_of_both v a way p (Some (m, n)) is = is

pub ends_of : (v : View) (a : Wide) (way first : Lying) (loops : List (List Lying)) (r s : Option ℤ) (result : Option (ℤ × ℤ))
    → IsBase (depth_in v (wide_at a)) (depth_in v (vector_at first)) r
    → IsBase (depth_in v (wide_at a)) (depth_in v (sum_of (vector_at first) (vector_at way))) s
    → result ≡ both r s → first_of loops ≡ Some first → AreEnds v a way loops result
ends_of v a way first [] r s result near far made is = absurd (cc)
ends_of v a way first ([] ∷ loops) r s result near far made is = absurd (cc)
ends_of v a way first ((l ∷ ls) ∷ loops) r s result near far made is =
    subst (AreEndsOf v (wide_at a) (vector_at way) (vector_at l)) (sym made)
    (ends_of_both v (wide_at a) (vector_at way) (vector_at l) (both r s)
    (seen_both (depth_in v (wide_at a)) (depth_in v (vector_at l)) (depth_in v (sum_of (vector_at l) (vector_at way))) r s
    (subst (λ f. IsBase (depth_in v (wide_at a)) (depth_in v (vector_at f)) r) (sym same) near)
    (subst (λ f. IsBase (depth_in v (wide_at a)) (depth_in v (sum_of (vector_at f) (vector_at way))) s) (sym same) far)))
  where
    same : l ≡ first
    same = cc

-- ---- counts

corners-append : (xs ys : List (List Point)) → corners_in (xs ++ ys) ≡ corners_in xs ++ corners_in ys
corners-append [] ys = refl
corners-append (x ∷ xs) ys =
    ap (λ l. x ++ l) (corners-append xs ys) ∙ sym (append_assoc x (corners_in xs) (corners_in ys))

counted_more : (m n k r : ℕ) → k ≡ counted m → r ≡ min (k + n) 18446744073709551615 → r ≡ counted (m + n)
counted_more m n k r is next = omega (arith, is, next)

more_corners : (loops : List (List Point)) (i : ℕ) (points : List Point) → i < length loops
    → points ≡ get_or loops i points
    → length (corners_in (take (i + 1) loops)) ≡ length (corners_in (take i loops)) + length points
more_corners loops i points within is =
    ap (λ l. length (corners_in l)) (taken loops i points within is)
    ∙ ap length (corners-append (take i loops) (points ∷ []))
    ∙ length-append (corners_in (take i loops)) (points ++ [])
    ∙ ap (λ n. length (corners_in (take i loops)) + n) (length-append points [] ∙ omega arith)

pub count_more : (loops : List (List Point)) (i : ℕ) (points : List Point) (k r : ℕ) → i < length loops
    → points ≡ get_or loops i points → k ≡ counted (length (corners_in (take i loops)))
    → r ≡ min (k + length points) 18446744073709551615
    → r ≡ counted (length (corners_in (take (i + 1) loops)))
count_more loops i points k r within is so_far next =
    counted_more (length (corners_in (take i loops))) (length points) k r so_far next
    ∙ ap counted (sym (more_corners loops i points within is))
