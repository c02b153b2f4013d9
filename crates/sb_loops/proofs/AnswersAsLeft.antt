-- The answer for what is left of loops is the answer for the loops.

use Rattle.std.proofs.Common.{◌≡◌, refl, sym, ap, ◌∙◌, ◌↔◌, ◌≤◌, Bool, true, false, not, List}
use Rattle.std.proofs.Common.{length, map}
use Rattle.std.proofs.Common.{Result, Ok, Err, IfOk}
use Rattle.std.specs.List.{list_all}
use Rattle.std.proofs.lemmas.Bool.{false≢true, false_from_ne_true}
use Rattle.sb_fraction.specs.declared.point.Point.{Point}
use Rattle.sb_fraction.specs.Plane.{is_plan_point}
use Rattle.theory_plans.specs.LoopEdges.{edges_of}
use Rattle.theory_plans.specs.Loops.{is_least_first}
use Rattle.theory_plans.specs.Plans.{are_apart, is_plan}
use Rattle.theory_parity.specs.Sides.{put_left}
use Rattle.theory_loops.specs.Answers.{are_flat, are_knotted, plan_of}
use Rattle.theory_loops.proofs.PlanComesOut.{plan_comes_out}
use Rattle.sb_loops.specs.declared.error.LoopError.{LoopError}
use Rattle.sb_loops.specs.declared.error.LoopError.TheVariants.{Flat, Knot, NoMemory}
use Rattle.sb_loops.specs.Answers.{IsInTime}
use Rattle.sb_loops.specs.Ways.{AreLeft}
use Rattle.sb_loops.proofs.LoopsLeft.{left_are_not_flat, knotted_by_left, begun_are_normal}

abbrev Answer : Type 0
Answer = Result (List (List Point)) LoopError

ok_then : {P Q : List (List Point) → Type 0} (r : Answer) → IfOk r P
    → ((x : List (List Point)) → r ≡ Ok x → P x → Q x) → IfOk r Q
ok_then (Ok x) holds to = to x refl holds
ok_then (Err e) holds to = tt

not_so : (b : Bool) → not b ≡ true → b ≡ false
not_so true is = sym is
not_so false is = refl

-- what is said of the answer for what is left
pub record IsFor (lefts : List (List Point)) (answer : Answer) : Type 0 where
  pub plan : IfOk answer (λ plan. plan ≡ map (put_left (edges_of lefts)) lefts)
  pub least : IfOk answer (λ plan. list_all is_least_first lefts ≡ true)
  pub not_flat : answer ≡ Err Flat → ⊥
  pub knot : IsInTime answer → (answer ≡ Err Knot) ↔ (are_apart lefts ≡ false)

module _ (loops lefts : List (List Point)) (some : 1 ≤ length loops) (are : AreLeft loops lefts)
    (answer : Answer) (is : IsFor lefts answer) where
  both : (x : List (List Point)) → answer ≡ Ok x
      → IfOk answer (λ plan. list_all is_least_first lefts ≡ true)
      → list_all is_least_first lefts ≡ true
  both x ok least = rw ok at least

  -- a plan is the plan of the loops
  pub plan_is : IfOk answer (λ plan. plan ≡ plan_of loops)
  plan_is =
      ok_then answer is.plan
      (λ x ok same. same
      ∙ ap (λ l. map (put_left (edges_of l)) l)
      (begun_are_normal loops lefts are (both x ok is.least)))

  apart_if_ok : (x : List (List Point)) → answer ≡ Ok x → not (are_apart lefts) ≡ false
  apart_if_ok x ok =
      false_from_ne_true (not (are_apart lefts)) (λ knotted.
      let knot = (is.knot (λ late. never x (sym ok ∙ late))).1 (not_so (are_apart lefts) knotted) in
      never_knot x (sym ok ∙ knot))
    where
      never : (y : List (List Point)) → ◌≡◌ {A = Answer} (Ok y) (Err NoMemory) → ⊥
      never y same = cc

      never_knot : (y : List (List Point)) → ◌≡◌ {A = Answer} (Ok y) (Err Knot) → ⊥
      never_knot y same = cc

  -- and a plan
  pub is_plan_if_ok : list_all (list_all is_plan_point) loops ≡ true
      → IfOk answer (λ plan. is_plan plan ≡ true)
  is_plan_if_ok in_range =
      ok_then answer plan_is
      (λ x ok same. ap is_plan same
      ∙ plan_comes_out loops in_range (left_are_not_flat loops lefts some are)
      (knotted_by_left loops lefts some are ∙ apart_if_ok x ok))

  -- the loops are not flat, nor is that answered
  pub flat_is : IsInTime answer → (answer ≡ Err Flat) ↔ (are_flat loops ≡ true)
  flat_is in_time = (
    λ flat. absurd (is.not_flat flat),
    λ flat. absurd (false≢true (sym (left_are_not_flat loops lefts some are) ∙ flat)),
  )

  -- they are knotted where that is answered
  pub knot_is : IsInTime answer → (answer ≡ Err Knot) ↔ (are_knotted loops ≡ true)
  knot_is in_time = (
    λ knot. knotted_by_left loops lefts some are ∙ ap not ((is.knot in_time).0 knot),
    λ knotted. (is.knot in_time).1
        (not_so (are_apart lefts) (sym (knotted_by_left loops lefts some are) ∙ knotted)),
  )
