use Rattle.std.proofs.Common.{rules, sym, subst, ◌∙◌, FitsSigned}
use Rattle.std.specs.Int.{w32}
use Rattle.std.proofs.lemmas.Int.{to_z-of_z}
use Rattle.std.proofs.lemmas.Result.{IfOk-weaker}
use Rattle.sb_solid.specs.Judged.{AreSeen, AreEnds}
use Rattle.sb_solid.proofs.Seen.BasesSeen.{base_seen, seen_where_close, no_ends}
use Rattle.sb_solid.proofs.judging.based.Goals as goal

pub returns-in_default : goal.returns-in_default
returns-in_default c along view close =
    sym
    (no_ends c.args.view c.args.anchors c.args.way along c.args.loops.now close
    (subst (AreEnds c.args.view c.args.anchors c.args.way c.args.loops.now) c.in_default.is c.ends.ensures))

pub returns-in-Some-2 : goal.returns-in-Some-2
returns-in-Some-2 c =
    let a : FitsSigned w32 c.in-Some.a = search rules in
    let b : FitsSigned w32 c.in-Some.b = search rules in
    let made = simp to_z-of_z at c.prism_seen.ensures in
    IfOk-weaker c.prism_seen.result _ _ (λ prism is along view close.
    is
    ∙ base_seen c.args.view c.args.anchors c.args.way along c.args.loops.now c.in-Some-2.points c.in-Some.a c.in-Some.b view
    (subst (AreSeen c.args.view c.args.anchors c.args.loops.now) c.in-Some-2.is c.in_ok-points.ensures)
    (subst (AreEnds c.args.view c.args.anchors c.args.way c.args.loops.now) c.in-Some.is c.ends.ensures)) made

pub returns-in-None : goal.returns-in-None
returns-in-None c along view close =
    absurd
    (seen_where_close c.args.view c.args.anchors c.args.way along c.args.loops.now close
    (subst (AreSeen c.args.view c.args.anchors c.args.loops.now) c.in-None.is c.in_ok-points.ensures))
