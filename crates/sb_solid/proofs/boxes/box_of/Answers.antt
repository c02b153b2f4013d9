use Rattle.std.proofs.Common.{rules, [], ◌∷◌, Some, sym, ap, subst, ◌∙◌, FitsSigned, of_z}
use Rattle.std.specs.Int.{w32}
use Rattle.std.proofs.lemmas.Int.{to_z-of_z}
use Rattle.std.proofs.lemmas.Result.{IfOk-weaker}
use Rattle.theory_plans.specs.Rectangles.{rectangle}
use Rattle.sb_model.specs.Solids.{upright}
use Rattle.sb_solid.specs.Boxes.{IsInterval, box_of}
use Rattle.sb_solid.proofs.Rectangles.BoxesOverRectangles.{ordered_is, side_x, side_y, box_x, box_y}
use Rattle.sb_solid.proofs.boxes.box_of.Goals as goal

pub box_over-requires-clause-along_x : goal.box_over-requires-clause-along_x
box_over-requires-clause-along_x c =
    let a : FitsSigned w32 c.args.a = search rules in
    let b : FitsSigned w32 c.args.b = search rules in
    let between = simp to_z-of_z at c.ordered-between.ensures in
    subst (λ p. IsInterval p.0 p.1) (sym between)
    (ordered_is c.args.a c.args.b c.requires.a_in c.requires.b_in (λ same. c.if-a-b.false (ap (of_z w32) same)))

pub box_over-requires-clause-along_y : goal.box_over-requires-clause-along_y
box_over-requires-clause-along_y c =
    let a : FitsSigned w32 c.args.corners.low.x = search rules in
    let b : FitsSigned w32 c.args.corners.high.x = search rules in
    simp to_z-of_z (side_x c.args.corners c.requires.corners_in)

pub box_over-requires-clause-along_z : goal.box_over-requires-clause-along_z
box_over-requires-clause-along_z c =
    let a : FitsSigned w32 c.args.corners.low.y = search rules in
    let b : FitsSigned w32 c.args.corners.high.y = search rules in
    simp to_z-of_z (side_y c.args.corners c.requires.corners_in)

pub box_over-requires-else-along_x-clause-along_x : goal.box_over-requires-else-along_x-clause-along_x
box_over-requires-else-along_x-clause-along_x c =
    let a : FitsSigned w32 c.args.corners.low.x = search rules in
    let b : FitsSigned w32 c.args.corners.high.x = search rules in
    simp to_z-of_z (side_x c.args.corners c.requires.corners_in)

pub box_over-requires-else-along_x-clause-along_y : goal.box_over-requires-else-along_x-clause-along_y
box_over-requires-else-along_x-clause-along_y c =
    let a : FitsSigned w32 c.args.a = search rules in
    let b : FitsSigned w32 c.args.b = search rules in
    let between = simp to_z-of_z at c.ordered-between.ensures in
    subst (λ p. IsInterval p.0 p.1) (sym between)
    (ordered_is c.args.a c.args.b c.requires.a_in c.requires.b_in (λ same. c.if-a-b.false (ap (of_z w32) same)))

pub box_over-requires-else-along_x-clause-along_z : goal.box_over-requires-else-along_x-clause-along_z
box_over-requires-else-along_x-clause-along_z c =
    let a : FitsSigned w32 c.args.corners.low.y = search rules in
    let b : FitsSigned w32 c.args.corners.high.y = search rules in
    simp to_z-of_z (side_y c.args.corners c.requires.corners_in)

pub returns-then-along_x : goal.returns-then-along_x
returns-then-along_x c =
    let a : FitsSigned w32 c.args.a = search rules in
    let b : FitsSigned w32 c.args.b = search rules in
    let x0 : FitsSigned w32 c.args.corners.low.x = search rules in
    let x1 : FitsSigned w32 c.args.corners.high.x = search rules in
    let z0 : FitsSigned w32 c.args.corners.low.y = search rules in
    let z1 : FitsSigned w32 c.args.corners.high.y = search rules in
    let between = simp to_z-of_z at c.ordered-between.ensures in
    let made = simp to_z-of_z at c.box_over.ensures in
    IfOk-weaker c.box_over.result _ _ (λ prism is.
    is
    ∙ ap (λ p. Some (upright (rectangle p.0 p.1 c.args.corners.low.x c.args.corners.high.x ∷ []) c.args.corners.low.y c.args.corners.high.y)) between
    ∙ box_x c.args.corners c.args.a c.args.b (λ same. c.if-a-b.false (ap (of_z w32) same))
    ∙ ap (λ t. box_of t c.args.corners c.args.a c.args.b) (sym c.if-along_x.true)) made

pub returns-else-along_x : goal.returns-else-along_x
returns-else-along_x c =
    let a : FitsSigned w32 c.args.a = search rules in
    let b : FitsSigned w32 c.args.b = search rules in
    let x0 : FitsSigned w32 c.args.corners.low.x = search rules in
    let x1 : FitsSigned w32 c.args.corners.high.x = search rules in
    let z0 : FitsSigned w32 c.args.corners.low.y = search rules in
    let z1 : FitsSigned w32 c.args.corners.high.y = search rules in
    let between = simp to_z-of_z at c.ordered-between.ensures in
    let made = simp to_z-of_z at c.box_over-else-along_x.ensures in
    IfOk-weaker c.box_over-else-along_x.result _ _ (λ prism is.
    is
    ∙ ap (λ p. Some (upright (rectangle c.args.corners.low.x c.args.corners.high.x p.0 p.1 ∷ []) c.args.corners.low.y c.args.corners.high.y)) between
    ∙ box_y c.args.corners c.args.a c.args.b (λ same. c.if-a-b.false (ap (of_z w32) same))
    ∙ ap (λ t. box_of t c.args.corners c.args.a c.args.b) (sym c.if-along_x.false)) made
