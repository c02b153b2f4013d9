use Rattle.std.proofs.Common.{rules, sym, subst, FitsSigned}
use Rattle.std.specs.Int.{w128}
use Rattle.std.proofs.lemmas.Int.{to_z-of_z}
use Rattle.sb_solid.specs.Judged.{IsSeenPoint}
use Rattle.sb_solid.proofs.Seen.SeenPoints.{IsPair, seen_pair}
use Rattle.sb_solid.proofs.base.seen.Goals as goal

pub returns-in-Above : goal.returns-in-Above
returns-in-Above c =
    let a : FitsSigned w128 c.args.anchors.x = search rules in
    let b : FitsSigned w128 c.args.anchors.y = search rules in
    let m : FitsSigned w128 c.args.point.x = search rules in
    let n : FitsSigned w128 c.args.point.y = search rules in
    let first = simp to_z-of_z at c.base.ensures in
    let second = simp to_z-of_z at c.base-in-Above.ensures in
    subst (λ v. IsSeenPoint v c.args.anchors c.args.point c.point_of.result) (sym c.in-Above.is)
    (subst (IsPair c.args.anchors.x c.args.anchors.y c.args.point.x c.args.point.y) (sym c.point_of.ensures)
    (seen_pair c.args.anchors.x c.args.anchors.y c.args.point.x c.args.point.y c.base.result c.base-in-Above.result first second))

pub returns-in-AlongX : goal.returns-in-AlongX
returns-in-AlongX c =
    let a : FitsSigned w128 c.args.anchors.y = search rules in
    let b : FitsSigned w128 c.args.anchors.z = search rules in
    let m : FitsSigned w128 c.args.point.y = search rules in
    let n : FitsSigned w128 c.args.point.z = search rules in
    let first = simp to_z-of_z at c.base-in-AlongX.ensures in
    let second = simp to_z-of_z at c.base-in-AlongX-2.ensures in
    subst (λ v. IsSeenPoint v c.args.anchors c.args.point c.point_of-in-AlongX.result) (sym c.in-AlongX.is)
    (subst (IsPair c.args.anchors.y c.args.anchors.z c.args.point.y c.args.point.z) (sym c.point_of-in-AlongX.ensures)
    (seen_pair c.args.anchors.y c.args.anchors.z c.args.point.y c.args.point.z c.base-in-AlongX.result c.base-in-AlongX-2.result first second))

pub returns-in-AlongY : goal.returns-in-AlongY
returns-in-AlongY c =
    let a : FitsSigned w128 c.args.anchors.x = search rules in
    let b : FitsSigned w128 c.args.anchors.z = search rules in
    let m : FitsSigned w128 c.args.point.x = search rules in
    let n : FitsSigned w128 c.args.point.z = search rules in
    let first = simp to_z-of_z at c.base-in-AlongY.ensures in
    let second = simp to_z-of_z at c.base-in-AlongY-2.ensures in
    subst (λ v. IsSeenPoint v c.args.anchors c.args.point c.point_of-in-AlongY.result) (sym c.in-AlongY.is)
    (subst (IsPair c.args.anchors.x c.args.anchors.z c.args.point.x c.args.point.z) (sym c.point_of-in-AlongY.ensures)
    (seen_pair c.args.anchors.x c.args.anchors.z c.args.point.x c.args.point.z c.base-in-AlongY.result c.base-in-AlongY-2.result first second))
