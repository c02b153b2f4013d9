use Rattle.std.proofs.Common.{ap, ◌∙◌}
use Rattle.std.proofs.lemmas.Result.{IfOk-weaker}
use Rattle.sb_place.specs.declared.sight.Seen.TheVariants as seen
use Rattle.sb_prism.specs.Kept.{without_points}
use Rattle.sb_prism.proofs.sections.curves.listed_at.Goals as goal

pub returns-in-Absent : goal.returns-in-Absent
returns-in-Absent c = (
  seen.Absent c.in-Absent.n,
  rw c.in-Absent.is at c.in_ok-n.ensures,
  c.no_points.ensures ∙ ap without_points c.absent.ensures,
)

pub returns-in-Broken : goal.returns-in-Broken
returns-in-Broken c = (
  seen.Broken c.in-Broken.n,
  rw c.in-Broken.is at c.in_ok-n.ensures,
  c.no_points-in-Broken.ensures ∙ ap without_points c.broken.ensures,
)

pub returns-in-Other : goal.returns-in-Other
returns-in-Other c = (
  seen.Other,
  rw c.in-Other.is at c.in_ok-n.ensures,
  c.no_points-in-Other.ensures ∙ ap without_points c.stray.ensures,
)

pub returns-in-Shown : goal.returns-in-Shown
returns-in-Shown c =
    IfOk-weaker c.points_of.result _ _ (λ outline is. (
      seen.Shown c.in-Shown.list.a1,
      rw c.in-Shown.is at c.in_ok-n.ensures,
      is,
    )) c.points_of.ensures
