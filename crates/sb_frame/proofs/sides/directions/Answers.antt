-- These are the directions of the model.
use Rattle.std.proofs.Common.{◌∙◌, ap}
use Rattle.sb_frame.specs.Network.{plan_edges_of}
use Rattle.sb_frame.specs.Directions.{space_edges, axis_and_headings}
use Rattle.sb_frame.proofs.Along.DirectionsAre.{are_directions, if_directions}
use Rattle.sb_frame.proofs.sides.directions.Goals as goal

pub returns : goal.returns
returns c =
    if_directions c.args.model.now c.each_once-list.result.items c.from_slice.result
    (are_directions c.args.model.now (plan_edges_of c.in_ok-edges.edges.items)
    c.in_ok-headings.field-0.items c.each_once-list.result.items
    (c.in_ok-edges.ensures ∙ ap space_edges (c.as_slice.ensures ∙ c.spaces.ensures.value))
    (c.in_ok-headings.ensures ∙ ap (λ es. axis_and_headings (plan_edges_of es)) c.as_slice-2.ensures.value)
    c.each_once-list.ensures)
    c.as_slice-3.result.now c.as_slice-3.ensures.value c.from_slice.ensures
