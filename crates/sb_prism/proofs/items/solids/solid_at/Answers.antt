use Rattle.std.proofs.Common.{◌∙◌}
use Rattle.std.proofs.lemmas.Result.{IfOk-weaker}
use Rattle.sb_place.specs.declared.sight.Seen.TheVariants as seen
use Rattle.sb_prism.proofs.Solids.SolidsAreRead.{of_view}
use Rattle.sb_prism.proofs.items.solids.solid_at.Goals as goal

pub returns-in-Absent : goal.returns-in-Absent
returns-in-Absent c = (
  seen.Absent c.in-Absent.n,
  rw c.in-Absent.is at c.in_ok-n.ensures,
  record { faults = c.no_extrusion.ensures ∙ c.absent.ensures; kept = tt },
)

pub returns-in-Broken : goal.returns-in-Broken
returns-in-Broken c = (
  seen.Broken c.in-Broken.n,
  rw c.in-Broken.is at c.in_ok-n.ensures,
  record { faults = c.no_extrusion-in-Broken.ensures ∙ c.broken.ensures; kept = tt },
)

pub returns-in-Other : goal.returns-in-Other
returns-in-Other c = (
  seen.Other,
  rw c.in-Other.is at c.in_ok-n.ensures,
  record { faults = c.no_extrusion-in-Other.ensures ∙ c.stray.ensures; kept = tt },
)

pub returns-in-Shown : goal.returns-in-Shown
returns-in-Shown c =
    IfOk-weaker c.solid.result _ _ (λ extrusion of. (
      seen.Shown of.0,
      of_view c.args.file.now c.args.number c.in-Shown.view of.0 (rw c.in-Shown.is at c.in_ok-n.ensures) of.1,
      of.2,
    )) c.solid.ensures
