-- Loops that are neither flat nor knotted give a plan.

use Rattle.std.proofs.Common.{◌≡◌, refl, sym, ap, ◌∙◌, ℕ, suc, Bool, true, false, not, ◌&&◌, ◌||◌}
use Rattle.std.proofs.Common.{List, [], ◌∷◌, ◌++◌, length, nat_lt, nat_le, arith}
use Rattle.std.specs.List.{list_all, list_any}
use Rattle.std.proofs.lemmas.Bool.{and_parts, and_from, or_parts}
use Rattle.std.proofs.lemmas.List.Folds.{list_all-append}
use Rattle.sb_fraction.specs.declared.point.Point.{Point}
use Rattle.sb_fraction.specs.Plane.{is_plan_point}
use Rattle.theory_plans.specs.LoopEdges.{edges_of}
use Rattle.theory_plans.specs.Loops.{is_loop, are_loops}
use Rattle.theory_plans.specs.Plans.{is_same_point, is_of_each_two, corners_in, are_apart, is_plan}
use Rattle.theory_plans.specs.Plans.{do_touch, is_consecutive}
use Rattle.theory_parity.proofs.SolidOnTheLeft.TurnedIsPlan.{put_left_is_plan}
use Rattle.theory_loops.specs.Normal.{normal_loop}
use Rattle.theory_loops.specs.Answers.{normal_loops, keeps_few, are_flat, are_knotted, plan_of}
use Rattle.theory_loops.proofs.NormalIsLoop.{normal_is_loop}

module _ {X : Type 0} (test : X → X → Bool) where
  two_in_blocks : (xs ys : List X) → is_of_each_two test (xs ++ ys) ≡ true
      → (is_of_each_two test xs ≡ true) × (is_of_each_two test ys ≡ true)
  two_in_blocks [] ys two = (refl, two)
  two_in_blocks (x ∷ xs) ys two =
      let parts = and_parts (list_all (test x) (xs ++ ys)) (is_of_each_two test (xs ++ ys)) two in
      let here = and_parts (list_all (test x) xs) (list_all (test x) ys)
      (sym (list_all-append (test x) xs ys) ∙ parts.0) in
      let rest = two_in_blocks xs ys parts.1 in
      (and_from (list_all (test x) xs) (is_of_each_two test xs) here.0 rest.0, rest.1)

abbrev do_differ : Point → Point → Bool
do_differ a b = not (is_same_point a b)

each_is_loop : (loops : List (List Point)) → list_all (list_all is_plan_point) loops ≡ true
    → list_any keeps_few loops ≡ false
    → is_of_each_two do_differ (corners_in (normal_loops loops)) ≡ true
    → list_all is_loop (normal_loops loops) ≡ true
each_is_loop [] in_range many other = refl
each_is_loop (points ∷ loops) in_range many other =
    let range = and_parts (list_all is_plan_point points) (list_all (list_all is_plan_point) loops)
    in_range in
    let size = or_parts (keeps_few points) (list_any keeps_few loops) many in
    let blocks = two_in_blocks do_differ (normal_loop points) (corners_in (normal_loops loops))
    other in
    and_from (is_loop (normal_loop points)) (list_all is_loop (normal_loops loops))
    (normal_is_loop points range.0 size.0 blocks.0)
    (each_is_loop loops range.1 size.1 blocks.1)

one_more : (n : ℕ) → nat_lt n 1 ≡ false → nat_le 1 n ≡ true
one_more n some = grind arith

length-normals : (loops : List (List Point)) → length (normal_loops loops) ≡ length loops
length-normals [] = refl
length-normals (points ∷ loops) = ap suc (length-normals loops)

neither : (flat apart : Bool) → flat ≡ false → (not flat && not apart) ≡ false → apart ≡ true
neither flat true not_flat not_knotted = refl
neither true false not_flat not_knotted = sym not_flat
neither false false not_flat not_knotted = sym not_knotted

-- the edges of loops that are neither are apart
pub normals_are_apart : (loops : List (List Point)) → are_flat loops ≡ false
    → are_knotted loops ≡ false → are_apart (normal_loops loops) ≡ true
normals_are_apart loops not_flat not_knotted =
    neither (are_flat loops) (are_apart (normal_loops loops)) not_flat not_knotted

-- and they are normalised loops
pub normals_are_loops : (loops : List (List Point))
    → list_all (list_all is_plan_point) loops ≡ true → are_flat loops ≡ false
    → are_knotted loops ≡ false → are_loops (normal_loops loops) ≡ true
normals_are_loops loops in_range not_flat not_knotted =
    let parts = or_parts (nat_lt (length loops) 1) (list_any keeps_few loops) not_flat in
    let apart = and_parts (is_of_each_two do_differ (corners_in (normal_loops loops)))
    (is_of_each_two (λ e f. is_consecutive e f || not (do_touch e f))
    (edges_of (normal_loops loops))) (normals_are_apart loops not_flat not_knotted) in
    and_from (nat_le 1 (length (normal_loops loops))) (list_all is_loop (normal_loops loops))
    (ap (nat_le 1) (length-normals loops) ∙ one_more (length loops) parts.0)
    (each_is_loop loops in_range parts.1 apart.0)

-- so what comes out is a plan
pub plan_comes_out : (loops : List (List Point)) → list_all (list_all is_plan_point) loops ≡ true
    → are_flat loops ≡ false → are_knotted loops ≡ false → is_plan (plan_of loops) ≡ true
plan_comes_out loops in_range not_flat not_knotted =
    put_left_is_plan (normal_loops loops) (normals_are_loops loops in_range not_flat not_knotted)
    (normals_are_apart loops not_flat not_knotted)
