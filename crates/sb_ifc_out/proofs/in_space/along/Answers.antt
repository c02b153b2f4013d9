-- Along a signed axis goes the one number, with its sign.
use Rattle.std.proofs.Common.{rules, FitsSigned, ◌∙◌, sym, ap, to_z, of_z}
use Rattle.std.specs.Int.{w128, w32}
use Rattle.std.proofs.lemmas.Int.{to_z-of_z}
use Rattle.sb_model.specs.Labels.{axis_vector}
use Rattle.sb_ifc_out.specs.Steps.{span_of}
use Rattle.sb_ifc_out.proofs.SpansFit.{along_x, along_y}
use Rattle.sb_ifc_out.proofs.in_space.along.Goals as goal

pub returns-then-axis-ne0-clause-value : goal.returns-then-axis-ne0-clause-value
returns-then-axis-ne0-clause-value c =
    let fits : FitsSigned w128 c.signed.result = search rules in
    let sign : FitsSigned w32 c.args.axis.x = search rules in
    let number : FitsSigned w128 c.args.v.x = search rules in
    let value = simp to_z-of_z at c.signed.ensures.value in
    to_z-of_z w128 c.signed.result fits ∙ value
    ∙ sym
    (along_x (axis_vector c.args.axis) (span_of c.args.v) c.requires.axis_is
    (λ zero. c.if-axis-ne0.true (ap (of_z w32) zero))).0

pub returns-then-axis-ne0-2-clause-value : goal.returns-then-axis-ne0-2-clause-value
returns-then-axis-ne0-2-clause-value c =
    let fits : FitsSigned w128 c.signed-then-axis-ne0-2.result = search rules in
    let none : FitsSigned w32 c.args.axis.x = search rules in
    let sign : FitsSigned w32 c.args.axis.y = search rules in
    let number : FitsSigned w128 c.args.v.y = search rules in
    let value = simp to_z-of_z at c.signed-then-axis-ne0-2.ensures.value in
    to_z-of_z w128 c.signed-then-axis-ne0-2.result fits ∙ value
    ∙ sym
    (along_y (axis_vector c.args.axis) (span_of c.args.v) c.requires.axis_is
    (sym (to_z-of_z w32 c.args.axis.x none) ∙ ap (to_z w32) c.if-axis-ne0.false)
    (λ zero. c.if-axis-ne0-2.true (ap (of_z w32) zero))).0
