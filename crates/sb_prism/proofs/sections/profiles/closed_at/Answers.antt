use Rattle.std.proofs.Common.{ap, ◌∙◌, inl, inr, [], refl}
use Rattle.std.proofs.lemmas.Result.{IfOk-weaker}
use Rattle.sb_place.specs.declared.sight.Seen.TheVariants as seen
use Rattle.sb_prism.specs.Shapes.Profile.{area}
use Rattle.sb_prism.specs.Kept.{without_loops}
use Rattle.sb_prism.proofs.Outlines.ContoursAreRead.{absent_profile, broken_profile, no_voids}
use Rattle.sb_prism.proofs.sections.profiles.closed_at.Goals as goal

pub returns-in-Absent : goal.returns-in-Absent
returns-in-Absent c = λ other. (
  seen.Absent c.in-Absent.n,
  rw c.in-Absent.is at c.in_ok-n.ensures,
  absent_profile c.args.unit c.in-Absent.n _ (c.no_loops.ensures ∙ ap without_loops c.absent.ensures),
)

pub returns-in-Broken : goal.returns-in-Broken
returns-in-Broken c = λ other.
    let is = rw c.in-Broken.is at c.in_ok-n.ensures in (
      seen.Broken c.in-Broken.n,
      (is.0, inr (inl is.1)),
      broken_profile c.args.unit c.in-Broken.n _ (c.no_loops-in-Broken.ensures ∙ ap without_loops c.broken.ensures),
    )

pub returns-in-Other : goal.returns-in-Other
returns-in-Other c =
    IfOk-weaker c.voided_at.result _ _ (λ contour of other. of other (rw c.in-Other.is at c.in_ok-n.ensures)) c.voided_at.ensures

pub returns-in-Shown : goal.returns-in-Shown
returns-in-Shown c =
    IfOk-weaker c.area.result _ _ (λ contour of other.
    let (empty, is) = no_voids c.args.file.now c.args.unit of.0 of.1 contour of.3 of.4 in (
      seen.Shown (area of.0 []),
      (c.in-Shown.profile.a3, of.2, inl (rw c.in-Shown.is at c.in_ok-n.ensures, refl)),
      is,
    )) c.area.ensures
