use Rattle.std.proofs.Common.{◌∙◌, ap, sym}
use Rattle.std.specs.Option.{option_map}
use Rattle.sb_fraction.specs.Edges.{edge}
use Rattle.sb_model.proofs.EdgesOfSides.{ends_are_apart}
use Rattle.sb_model.proofs.patches.outline.side_outline.Goals as goal

pub over_edge-requires-clause-apart : goal.over_edge-requires-clause-apart
over_edge-requires-clause-apart c =
    ends_are_apart c.args.loops.now c.args.k c.unwrap.result.0 c.unwrap.result.1 c.requires.is_plan
    (sym c.edge.ensures.value ∙ ap (option_map (λ e. edge e.0 e.1)) c.unwrap.ensures)
