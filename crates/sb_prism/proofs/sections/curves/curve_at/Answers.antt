use Rattle.std.proofs.Common.{ap, ◌∙◌, inl}
use Rattle.std.proofs.lemmas.Result.{IfOk-weaker}
use Rattle.sb_place.specs.declared.sight.Seen.TheVariants as seen
use Rattle.sb_prism.specs.Shapes.Curve.{polyline}
use Rattle.sb_prism.specs.Kept.{without_points}
use Rattle.sb_prism.proofs.sections.curves.curve_at.Goals as goal

pub returns-in-Absent : goal.returns-in-Absent
returns-in-Absent c = (
  seen.Absent c.in-Absent.n,
  rw c.in-Absent.is at c.in_ok-n.ensures,
  c.no_points.ensures ∙ ap without_points c.absent.ensures,
)

pub returns-in-Broken : goal.returns-in-Broken
returns-in-Broken c =
    let is = rw c.in-Broken.is at c.in_ok-n.ensures in (
      seen.Broken c.in-Broken.n,
      (is.0, inl is.1),
      c.no_points-in-Broken.ensures ∙ ap without_points c.broken.ensures,
    )

pub returns-in-Other : goal.returns-in-Other
returns-in-Other c =
    IfOk-weaker c.indexed_at.result _ _ (λ outline of. of (rw c.in-Other.is at c.in_ok-n.ensures)) c.indexed_at.ensures

pub returns-in-Shown : goal.returns-in-Shown
returns-in-Shown c =
    IfOk-weaker c.along.result _ _ (λ outline of. (
      seen.Shown (polyline of.0),
      (c.in-Shown.polyline.a1, rw c.in-Shown.is at c.in_ok-n.ensures, of.1),
      of.2,
    )) c.along.ensures
