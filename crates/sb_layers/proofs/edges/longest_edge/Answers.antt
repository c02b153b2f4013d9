use Rattle.std.proofs.Common.{◌≡◌, ◌∙◌, sym, ap, get_or, [], ◌∷◌, None, Some}
use Rattle.sb_fraction.specs.Edges.{edge}
use Rattle.sb_layers.proofs.LongestIsFirst.{longest_is_proper, longest_of_outer, outer_is_some}
use Rattle.sb_layers.proofs.edges.longest_edge.Goals as goal

pub longest_in-requires : goal.longest_in-requires
longest_in-requires c =
    outer_is_some c.args.loops.now c.as_slice-outer.result.now c.index-as_slice-0.result
    c.points.ensures.is_plan
    (c.as_slice-outer.ensures ∙ c.index-as_slice-0.is
    ∙ ap (λ l. get_or l 0 c.index-as_slice-0.result) (c.as_slice.ensures ∙ c.points.ensures.value))

pub returns-clause-value : goal.returns-clause-value
returns-clause-value c =
    longest_of_outer c.args.loops.now c.as_slice-outer.result.now c.index-as_slice-0.result
    (edge c.longest_in.result.0 c.longest_in.result.1) c.points.ensures.is_plan
    (c.as_slice-outer.ensures ∙ c.index-as_slice-0.is
    ∙ ap (λ l. get_or l 0 c.index-as_slice-0.result) (c.as_slice.ensures ∙ c.points.ensures.value))
    c.longest_in.ensures

pub returns-clause-a_in : goal.returns-clause-a_in
returns-clause-a_in c =
    (longest_is_proper c.args.loops.now (edge c.longest_in.result.0 c.longest_in.result.1)
    c.points.ensures.is_plan (returns-clause-value c)).0

pub returns-clause-b_in : goal.returns-clause-b_in
returns-clause-b_in c =
    (longest_is_proper c.args.loops.now (edge c.longest_in.result.0 c.longest_in.result.1)
    c.points.ensures.is_plan (returns-clause-value c)).1.0

pub returns-clause-apart : goal.returns-clause-apart
returns-clause-apart c =
    (longest_is_proper c.args.loops.now (edge c.longest_in.result.0 c.longest_in.result.1)
    c.points.ensures.is_plan (returns-clause-value c)).1.1
