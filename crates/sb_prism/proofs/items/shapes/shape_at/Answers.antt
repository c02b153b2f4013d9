use Rattle.std.proofs.Common.{◌∙◌, ap, subst}
use Rattle.std.proofs.lemmas.Result.{IfOk-weaker}
use Rattle.sb_place.specs.declared.sight.Seen.TheVariants as seen
use Rattle.sb_prism.specs.Shapes.{AreEach, IsRepresentation}
use Rattle.sb_prism.specs.Kept.{without_solid}
use Rattle.sb_prism.proofs.Solids.ShapesAreRead.{absent_shape, broken_shape, other_shape, shown_shape}
use Rattle.sb_prism.proofs.items.shapes.shape_at.Goals as goal

pub returns-in-Absent : goal.returns-in-Absent
returns-in-Absent c = (
  seen.Absent c.in-Absent.n,
  rw c.in-Absent.is at c.in_ok-n.ensures,
  absent_shape c.args.unit c.in-Absent.n _ (c.no_solid.ensures ∙ ap without_solid c.absent.ensures),
)

pub returns-in-Broken : goal.returns-in-Broken
returns-in-Broken c = (
  seen.Broken c.in-Broken.n,
  rw c.in-Broken.is at c.in_ok-n.ensures,
  broken_shape c.args.unit c.in-Broken.n _ (c.no_solid-in-Broken.ensures ∙ ap without_solid c.broken.ensures),
)

pub returns-in-Other : goal.returns-in-Other
returns-in-Other c = (
  seen.Other,
  rw c.in-Other.is at c.in_ok-n.ensures,
  other_shape c.args.unit _ (c.no_solid-in-Other.ensures ∙ ap without_solid c.stray.ensures),
)

pub returns-in_ok-body-in-Shown : goal.returns-in_ok-body-in-Shown
returns-in_ok-body-in-Shown c =
    let (rs, are, body_is) = c.in_ok-body-in-Shown.ensures in
    IfOk-weaker c.body_kept.result _ _ (λ kept of. shown_shape c.args.file.now c.args.number c.args.unit
    c.in-Shown.shape.a3 rs of.0 c.in_ok-body-in-Shown.body kept (rw c.in-Shown.is at c.in_ok-n.ensures)
    (subst (λ ns. AreEach (IsRepresentation c.args.file.now) ns rs) c.as_slice.ensures are) body_is of.1 of.2 of.3)
    c.body_kept.ensures
