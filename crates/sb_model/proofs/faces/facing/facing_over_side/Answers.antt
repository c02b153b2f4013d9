use Rattle.std.proofs.Common.{◌∙◌, ap, sym}
use Rattle.std.specs.Option.{option_map}
use Rattle.sb_fraction.specs.Edges.{edge}
use Rattle.sb_model.proofs.EdgesOfSides.{ends_are_apart}
use Rattle.sb_model.proofs.faces.facing.facing_over_side.Goals as goal

pub facing_over-requires-clause-apart : goal.facing_over-requires-clause-apart
facing_over-requires-clause-apart c =
    ends_are_apart c.args.loops.now c.args.k c.unwrap.result.0 c.unwrap.result.1 c.requires.is_plan
    (sym c.edge.ensures.value ∙ ap (option_map (λ e. edge e.0 e.1)) c.unwrap.ensures)
