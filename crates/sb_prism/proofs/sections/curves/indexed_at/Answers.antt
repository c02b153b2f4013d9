use Rattle.std.proofs.Common.{ap, ◌∙◌, inr}
use Rattle.std.proofs.lemmas.Result.{IfOk-weaker}
use Rattle.sb_place.specs.declared.sight.Seen.TheVariants as seen
use Rattle.sb_prism.specs.Shapes.Curve.{indexed}
use Rattle.sb_prism.specs.Kept.{without_points}
use Rattle.sb_prism.proofs.sections.curves.indexed_at.Goals as goal

pub returns-in-Absent : goal.returns-in-Absent
returns-in-Absent c = λ other. (
  seen.Absent c.in-Absent.n,
  rw c.in-Absent.is at c.in_ok-n.ensures,
  c.no_points.ensures ∙ ap without_points c.absent.ensures,
)

pub returns-in-Broken : goal.returns-in-Broken
returns-in-Broken c = λ other.
    let is = rw c.in-Broken.is at c.in_ok-n.ensures in (
      seen.Broken c.in-Broken.n,
      (is.0, inr is.1),
      c.no_points-in-Broken.ensures ∙ ap without_points c.broken.ensures,
    )

pub returns-in-Other : goal.returns-in-Other
returns-in-Other c = λ other. (
  seen.Other,
  (other, rw c.in-Other.is at c.in_ok-n.ensures),
  c.no_points-in-Other.ensures ∙ ap without_points c.stray.ensures,
)

pub returns-in-Shown : goal.returns-in-Shown
returns-in-Shown c =
    IfOk-weaker c.listed_at.result _ _ (λ outline of other. (
      seen.Shown (indexed of.0 c.in-Shown.curve.a2),
      (c.in-Shown.curve.a1, rw c.in-Shown.is at c.in_ok-n.ensures, of.1),
      of.2,
    )) c.listed_at.ensures
