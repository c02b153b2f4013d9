use Rattle.std.proofs.Common.{ap, ◌∙◌, inl}
use Rattle.std.proofs.lemmas.Result.{IfOk-weaker}
use Rattle.sb_place.specs.declared.sight.Seen.TheVariants as seen
use Rattle.sb_prism.specs.Shapes.Profile.{rectangle}
use Rattle.sb_prism.specs.Kept.{without_loops}
use Rattle.sb_prism.proofs.Outlines.ContoursAreRead.{absent_profile, broken_profile}
use Rattle.sb_prism.proofs.sections.profiles.profile_at.Goals as goal

pub returns-in-Absent : goal.returns-in-Absent
returns-in-Absent c = (
  seen.Absent c.in-Absent.n,
  rw c.in-Absent.is at c.in_ok-n.ensures,
  absent_profile c.args.unit c.in-Absent.n _ (c.no_loops.ensures ∙ ap without_loops c.absent.ensures),
)

pub returns-in-Broken : goal.returns-in-Broken
returns-in-Broken c =
    let is = rw c.in-Broken.is at c.in_ok-n.ensures in (
      seen.Broken c.in-Broken.n,
      (is.0, inl is.1),
      broken_profile c.args.unit c.in-Broken.n _ (c.no_loops-in-Broken.ensures ∙ ap without_loops c.broken.ensures),
    )

pub returns-in-Other : goal.returns-in-Other
returns-in-Other c =
    IfOk-weaker c.closed_at.result _ _ (λ contour of. of (rw c.in-Other.is at c.in_ok-n.ensures)) c.closed_at.ensures

pub returns-in-Shown : goal.returns-in-Shown
returns-in-Shown c =
    IfOk-weaker c.rectangle.result _ _ (λ contour of. (
      seen.Shown (rectangle of.0 c.in-Shown.sides.a4 c.in-Shown.sides.a5),
      (c.in-Shown.sides.a3, rw c.in-Shown.is at c.in_ok-n.ensures, of.1),
      of.2,
    )) c.rectangle.ensures
