use Rattle.std.proofs.Common.{ap, ◌∙◌, inr, subst}
use Rattle.std.proofs.lemmas.Result.{IfOk-weaker}
use Rattle.sb_place.specs.declared.sight.Seen.TheVariants as seen
use Rattle.sb_prism.specs.Shapes.{AreEach, IsCurve}
use Rattle.sb_prism.specs.Shapes.Profile.{area}
use Rattle.sb_prism.specs.Kept.{without_loops}
use Rattle.sb_prism.proofs.Outlines.ContoursAreRead.{absent_profile, broken_profile, other_profile, area_is}
use Rattle.sb_prism.proofs.sections.profiles.voided_at.Goals as goal

pub returns-in-Absent : goal.returns-in-Absent
returns-in-Absent c = λ other another. (
  seen.Absent c.in-Absent.n,
  rw c.in-Absent.is at c.in_ok-n.ensures,
  absent_profile c.args.unit c.in-Absent.n _ (c.no_loops.ensures ∙ ap without_loops c.absent.ensures),
)

pub returns-in-Broken : goal.returns-in-Broken
returns-in-Broken c = λ other another.
    let is = rw c.in-Broken.is at c.in_ok-n.ensures in (
      seen.Broken c.in-Broken.n,
      (is.0, inr (inr is.1)),
      broken_profile c.args.unit c.in-Broken.n _ (c.no_loops-in-Broken.ensures ∙ ap without_loops c.broken.ensures),
    )

pub returns-in-Other : goal.returns-in-Other
returns-in-Other c = λ other another. (
  seen.Other,
  (other, another, rw c.in-Other.is at c.in_ok-n.ensures),
  other_profile c.args.unit _ (c.no_loops-in-Other.ensures ∙ ap without_loops c.stray.ensures),
)

pub returns-in-Shown : goal.returns-in-Shown
returns-in-Shown c =
    IfOk-weaker c.area.result _ _ (λ contour of other another. (
      seen.Shown (area of.0 of.1),
      (
        c.in-Shown.profile.a3,
        of.2,
        inr (
          c.in-Shown.profile.a4,
          rw c.in-Shown.is at c.in_ok-n.ensures,
          subst (λ ns. AreEach (IsCurve c.args.file.now) ns of.1) c.as_slice.ensures of.3,
        ),
      ),
      area_is c.args.unit of.0 of.1 contour of.4,
    )) c.area.ensures
