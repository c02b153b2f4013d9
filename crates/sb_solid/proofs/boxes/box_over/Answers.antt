use Rattle.std.proofs.Common.{rules, ◌≡◌, ℤ, List, [], ◌∷◌, Option, Some, None, ap, ◌∙◌, FitsSigned}
use Rattle.std.specs.Int.{w32}
use Rattle.std.proofs.lemmas.Int.{to_z-of_z}
use Rattle.sb_fraction.specs.declared.point.Point.{Point}
use Rattle.theory_plans.specs.Rectangles.{rectangle}
use Rattle.sb_model.specs.Solids.{Upright, upright}
use Rattle.sb_solid.specs.Boxes.{plan_where, between, IsInterval}
use Rattle.sb_solid.proofs.Rectangles.OnlyRectangles.{sides_stay, between_is}
use Rattle.sb_solid.proofs.boxes.box_over.Goals as goal

-- the plan of a rectangle is the rectangle
plan_is : (x0 x1 y0 y1 : ℤ) → IsInterval x0 x1 → IsInterval y0 y1
    → (points : List (List Point)) (plan : Option (List (List Point))) → points ≡ rectangle x0 x1 y0 y1 ∷ []
    → plan ≡ plan_where points → plan ≡ Some (rectangle x0 x1 y0 y1 ∷ [])
plan_is x0 x1 y0 y1 x y points plan are is = is ∙ ap plan_where are ∙ sides_stay x0 x1 y0 y1 x y

box_is : (loops wanted : List (List Point)) (z0 z1 : ℤ) (plan : Option (List (List Point))) (made : Option Upright)
    → IsInterval z0 z1 → plan ≡ Some loops → plan ≡ Some wanted → made ≡ between loops z0 z1
    → made ≡ Some (upright wanted z0 z1)
box_is loops wanted z0 z1 plan made z some is result =
    let same : loops ≡ wanted = cc in
    result ∙ between_is loops z0 z1 z.apart ∙ ap (λ l. Some (upright l z0 z1)) same

pub returns-in-Some : goal.returns-in-Some
returns-in-Some c =
    let a : FitsSigned w32 c.args.z.0 = search rules in
    let b : FitsSigned w32 c.args.z.1 = search rules in
    let made = simp to_z-of_z at c.between.ensures in
    box_is c.in-Some.loops (rectangle c.args.x.0 c.args.x.1 c.args.y.0 c.args.y.1 ∷ []) c.args.z.0 c.args.z.1
    c.in_ok-loops.field-0 c.between.result c.requires.along_z c.in-Some.is
    (plan_is c.args.x.0 c.args.x.1 c.args.y.0 c.args.y.1 c.requires.along_x c.requires.along_y c.in_ok-points.points
    c.in_ok-loops.field-0 c.in_ok-points.ensures c.in_ok-loops.ensures) made

never : (loops : List (List Point)) (plan : Option (List (List Point))) → plan ≡ None → plan ≡ Some loops → ⊥
never loops plan none some = absurd (cc)

pub returns-in-None : goal.returns-in-None
returns-in-None c =
    absurd
    (never (rectangle c.args.x.0 c.args.x.1 c.args.y.0 c.args.y.1 ∷ []) c.in_ok-loops.field-0 c.in-None.is
    (plan_is c.args.x.0 c.args.x.1 c.args.y.0 c.args.y.1 c.requires.along_x c.requires.along_y c.in_ok-points.points
    c.in_ok-loops.field-0 c.in_ok-points.ensures c.in_ok-loops.ensures))
