use Rattle.std.proofs.Common.{Some, sym, subst}
use Rattle.sb_place.specs.Positions.{IsSpacePosition}
use Rattle.sb_prism.specs.Shapes.{IsWhere}
use Rattle.sb_prism.proofs.sections.rectangles.space_local.Goals as goal

pub returns-in_ok-position-in-Some-clause-value : goal.returns-in_ok-position-in-Some-clause-value
returns-in_ok-position-in-Some-clause-value c = (
  Some c.in_ok-position-in-Some.position,
  subst (λ at. IsWhere (IsSpacePosition c.args.file.now) at (Some c.in_ok-position-in-Some.position)) (sym c.in-Some.is)
      c.in_ok-position-in-Some.ensures,
  c.told.ensures.value,
)
