use Rattle.std.proofs.Common.{◌∙◌}
use Rattle.sb_fraction.specs.Edges.{edge}
use Rattle.sb_fraction.specs.Lines.{arrow_along, flat}
use Rattle.sb_model.proofs.FacingsOfEdges.{right_is_normal}
use Rattle.sb_model.proofs.faces.facing.facing_over.Goals as goal

pub returns-clause-normal : goal.returns-clause-normal
returns-clause-normal c =
    c.beside.ensures.normal
    ∙ right_is_normal (edge c.args.a c.args.b) (flat (arrow_along c.heading_of-heading.result.direction))
    c.heading_of-heading.result.is_along c.heading_of-heading.ensures.direction c.heading_of-heading.ensures.is_along
