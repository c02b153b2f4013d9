use Rattle.std.proofs.Common.{true, false, refl, sym, ◌∙◌, arith}
use Rattle.std.proofs.lemmas.Bool.{false≢true}
use Rattle.sb_place.specs.declared.sight.Seen.TheVariants as seen
use Rattle.sb_place.proofs.ChainsAreJudged.{no_building, ends, ends_at, goes_on_if}
use Rattle.sb_place.proofs.frames.+placed_at.Goals as goal

pub returns-in_default : goal.returns-in_default
returns-in_default t c =
    rw c.in_default.is
    (ends c.args.file.now c.args.building c.args.unit c.args.left _ c.is_none.result c.end.result
    (no_building c.args.building c.is_none.result c.is_none.ensures) (c.end.ensures c.args.unit))

pub returns-then-is_at : goal.returns-then-is_at
returns-then-is_at t c =
    rw c.in-Some.is
    (ends c.args.file.now c.args.building c.args.unit c.args.left _ true c.end-then-is_at.result
    (sym c.if-is_at.true ∙ c.is_at.ensures, λ e. absurd (false≢true (sym e)))
    (c.end-then-is_at.ensures c.args.unit))

pub returns-then-left-eq0 : goal.returns-then-left-eq0
returns-then-left-eq0 t c =
    rw c.in-Some.is
    (ends c.args.file.now c.args.building c.args.unit c.args.left _ false c.end-then-left-eq0.result
    (sym c.if-is_at.false ∙ c.is_at.ensures, λ _. c.if-left-eq0.true)
    (c.end-then-left-eq0.ensures c.args.unit))

pub returns-in-Absent : goal.returns-in-Absent
returns-in-Absent t c =
    rw c.in-Some.is
    (ends_at c.args.file.now c.args.building c.args.unit c.args.left c.in-Some.number
    (seen.Absent c.in-Absent.n) c.absent.result (sym c.is_at.ensures ∙ c.if-is_at.false) (omega arith)
    (rw c.in-Absent.is at c.in_ok-n.ensures, (refl, refl)) (c.absent.ensures c.args.unit))

pub returns-in-Broken : goal.returns-in-Broken
returns-in-Broken t c =
    rw c.in-Some.is
    (ends_at c.args.file.now c.args.building c.args.unit c.args.left c.in-Some.number
    (seen.Broken c.in-Broken.n) c.broken.result (sym c.is_at.ensures ∙ c.if-is_at.false) (omega arith)
    (rw c.in-Broken.is at c.in_ok-n.ensures, (refl, refl)) (c.broken.ensures c.args.unit))

pub returns-in-Other : goal.returns-in-Other
returns-in-Other t c =
    rw c.in-Some.is
    (ends_at c.args.file.now c.args.building c.args.unit c.args.left c.in-Some.number
    seen.Other c.other.result (sym c.is_at.ensures ∙ c.if-is_at.false) (omega arith)
    (rw c.in-Other.is at c.in_ok-n.ensures, (refl, refl)) (c.other.ensures c.args.unit))

pub returns-in_ok-above-in-Shown : goal.returns-in_ok-above-in-Shown
returns-in_ok-above-in-Shown t c =
    rw c.in-Some.is
    (goes_on_if c.args.file.now c.args.building c.args.unit c.args.left c.in-Some.number
    c.in-Shown.placement.a2 c.in-Shown.placement.a1 c.in_ok-above-in-Shown.above c.placed_on.result
    (sym c.is_at.ensures ∙ c.if-is_at.false) (omega arith) (rw c.in-Shown.is at c.in_ok-n.ensures)
    c.in_ok-above-in-Shown.ensures c.placed_on.ensures)
