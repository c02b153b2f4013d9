use Rattle.std.proofs.Common.{rules, ◌∙◌, sym, subst, FitsSigned}
use Rattle.std.specs.Int.{w128}
use Rattle.std.proofs.lemmas.Int.{to_z-of_z}
use Rattle.sb_solid.specs.declared.points.axes.View.TheVariants as view
use Rattle.sb_solid.specs.Judged.{IsBase, AreEnds}
use Rattle.sb_solid.proofs.Seen.EndsSeen.{ends_of}
use Rattle.sb_solid.proofs.base.ends.Goals as goal

pub returns-in-Above : goal.returns-in-Above
returns-in-Above c =
    let a : FitsSigned w128 c.args.anchors.z = search rules in
    let n : FitsSigned w128 c.in_ok-first.first.z = search rules in
    let w : FitsSigned w128 c.args.way.z = search rules in
    let f : FitsSigned w128 c.far.result = search rules in
    let near = simp to_z-of_z at c.base.ensures in
    let far = simp to_z-of_z at c.base-in-Above.ensures in
    let sum = simp to_z-of_z at c.far.ensures.value in
    subst (λ v. AreEnds v c.args.anchors c.args.way c.args.loops.now c.both.result) (sym c.in-Above.is)
    (ends_of view.Above c.args.anchors c.args.way c.in_ok-first.first c.args.loops.now c.base.result c.base-in-Above.result
    c.both.result near (subst (λ t. IsBase c.args.anchors.z t c.base-in-Above.result) sum far) c.both.ensures
    (sym c.first_of.ensures ∙ c.in_ok-first.was))

pub returns-in-AlongX : goal.returns-in-AlongX
returns-in-AlongX c =
    let a : FitsSigned w128 c.args.anchors.x = search rules in
    let n : FitsSigned w128 c.in_ok-first.first.x = search rules in
    let w : FitsSigned w128 c.args.way.x = search rules in
    let f : FitsSigned w128 c.far-in-AlongX.result = search rules in
    let near = simp to_z-of_z at c.base-in-AlongX.ensures in
    let far = simp to_z-of_z at c.base-in-AlongX-2.ensures in
    let sum = simp to_z-of_z at c.far-in-AlongX.ensures.value in
    subst (λ v. AreEnds v c.args.anchors c.args.way c.args.loops.now c.both-in-AlongX.result) (sym c.in-AlongX.is)
    (ends_of view.AlongX c.args.anchors c.args.way c.in_ok-first.first c.args.loops.now c.base-in-AlongX.result
    c.base-in-AlongX-2.result c.both-in-AlongX.result near
    (subst (λ t. IsBase c.args.anchors.x t c.base-in-AlongX-2.result) sum far) c.both-in-AlongX.ensures
    (sym c.first_of.ensures ∙ c.in_ok-first.was))

pub returns-in-AlongY : goal.returns-in-AlongY
returns-in-AlongY c =
    let a : FitsSigned w128 c.args.anchors.y = search rules in
    let n : FitsSigned w128 c.in_ok-first.first.y = search rules in
    let w : FitsSigned w128 c.args.way.y = search rules in
    let f : FitsSigned w128 c.far-in-AlongY.result = search rules in
    let near = simp to_z-of_z at c.base-in-AlongY.ensures in
    let far = simp to_z-of_z at c.base-in-AlongY-2.ensures in
    let sum = simp to_z-of_z at c.far-in-AlongY.ensures.value in
    subst (λ v. AreEnds v c.args.anchors c.args.way c.args.loops.now c.both-in-AlongY.result) (sym c.in-AlongY.is)
    (ends_of view.AlongY c.args.anchors c.args.way c.in_ok-first.first c.args.loops.now c.base-in-AlongY.result
    c.base-in-AlongY-2.result c.both-in-AlongY.result near
    (subst (λ t. IsBase c.args.anchors.y t c.base-in-AlongY-2.result) sum far) c.both-in-AlongY.ensures
    (sym c.first_of.ensures ∙ c.in_ok-first.was))
