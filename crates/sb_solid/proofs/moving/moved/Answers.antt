use Rattle.std.proofs.Common.{rules, ◌∙◌, ap, sym, subst, Some, None, ◌+ℤ◌, FitsSigned}
use Rattle.std.specs.Int.{w32, w128}
use Rattle.std.proofs.lemmas.Int.{to_z-of_z}
use Rattle.sb_solid.specs.Moving.{steps_at, in_plan, AreMoved, IsMovedNumber}
use Rattle.sb_solid.proofs.Moves.MovedPrisms.{plan_beyond, still_below, plan_in, plan_is_moved, plan_is_some, prism_made}
use Rattle.sb_solid.proofs.moving.moved.Goals as goal

-- a point is out of range
pub returns-in_default : goal.returns-in_default
returns-in_default c =
    plan_beyond (steps_at c.args.steps) c.args.prism.now
    (subst (λ l. AreMoved c.args.steps l None) (c.points.ensures.value ∙ c.loops.ensures.value)
    (subst (AreMoved c.args.steps c.points.result.now) c.in_default.is c.in_ok-points.ensures))

pub new-requires-clause-order : goal.new-requires-clause-order
new-requires-clause-order c =
    let d : FitsSigned w128 c.args.steps.z = search rules in
    let a : FitsSigned w32 c.z0.result = search rules in
    let b : FitsSigned w32 c.z1.result = search rules in
    let m : FitsSigned w32 c.in-Some-moved_height.z0 = search rules in
    let n : FitsSigned w32 c.in-Some-moved_height-2.z1 = search rules in
    let first = simp to_z-of_z at c.moved_height.ensures in
    let second = simp to_z-of_z at c.moved_height-2.ensures in
    let low = subst (IsMovedNumber c.args.steps.z c.z0.result) c.in-Some-moved_height.is first in
    let high = subst (IsMovedNumber c.args.steps.z c.z1.result) c.in-Some-moved_height-2.is second in
    simp to_z-of_z
    (still_below c.args.prism.now c.args.steps.z c.in-Some-moved_height.z0 c.in-Some-moved_height-2.z1 c.z0.ensures.is_upright
    (low.0 ∙ ap (λ z. z +ℤ c.args.steps.z) c.z0.ensures.value) (high.0 ∙ ap (λ z. z +ℤ c.args.steps.z) c.z1.ensures.value))

pub returns-in-Some-2 : goal.returns-in-Some-2
returns-in-Some-2 c =
    let d : FitsSigned w128 c.args.steps.z = search rules in
    let a : FitsSigned w32 c.z0.result = search rules in
    let b : FitsSigned w32 c.z1.result = search rules in
    let m : FitsSigned w32 c.in-Some-moved_height.z0 = search rules in
    let n : FitsSigned w32 c.in-Some-moved_height-2.z1 = search rules in
    let first = simp to_z-of_z at c.moved_height.ensures in
    let second = simp to_z-of_z at c.moved_height-2.ensures in
    let low = subst (IsMovedNumber c.args.steps.z c.z0.result) c.in-Some-moved_height.is first in
    let high = subst (IsMovedNumber c.args.steps.z c.z1.result) c.in-Some-moved_height-2.is second in
    let made = simp to_z-of_z at c.new.ensures.value in
    let moved = subst (λ l. AreMoved c.args.steps l (Some c.in-Some.points)) (c.points.ensures.value ∙ c.loops.ensures.value)
    (subst (AreMoved c.args.steps c.points.result.now) c.in-Some.is c.in_ok-points.ensures) in
    made
    ∙ prism_made (steps_at c.args.steps) c.args.prism.now c.in-Some-2.loops c.in-Some-moved_height.z0 c.in-Some-moved_height-2.z1
    (plan_is_moved (in_plan (steps_at c.args.steps)) c.args.prism.now.loops c.in-Some.points c.in-Some-2.loops
    (plan_in c.args.prism.now c.z0.ensures.is_upright) moved.0 moved.1 (sym c.in-Some-2.is ∙ c.in_ok-loops.ensures))
    (low.0 ∙ ap (λ z. z +ℤ c.args.steps.z) c.z0.ensures.value) (high.0 ∙ ap (λ z. z +ℤ c.args.steps.z) c.z1.ensures.value)

-- a plan that is moved into range is one
pub returns-in-None : goal.returns-in-None
returns-in-None c =
    let moved = subst (λ l. AreMoved c.args.steps l (Some c.in-Some.points)) (c.points.ensures.value ∙ c.loops.ensures.value)
    (subst (AreMoved c.args.steps c.points.result.now) c.in-Some.is c.in_ok-points.ensures) in
    absurd
    (plan_is_some (in_plan (steps_at c.args.steps)) c.args.prism.now.loops c.in-Some.points
    (plan_in c.args.prism.now c.z0.ensures.is_upright) moved.0 moved.1 (sym c.in-None.is ∙ c.in_ok-loops.ensures))
