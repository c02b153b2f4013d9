-- Edge after edge, with those behind it.
use Rattle.std.proofs.Common.{◌∙◌, sym}
use Rattle.sb_frame.proofs.Meetings.StepsOfFinding.{found_next_of, many_found, found_at_end}
use Rattle.sb_frame.proofs.Meetings.StepsOfFinding.{too_many, not_too_many}
use Rattle.sb_frame.proofs.finding.crossings_by_left.Goals as goal

pub edges-preserved : goal.edges-preserved
edges-preserved c =
    found_next_of c.args.edges.now c.edges.rest.now c.in-Some.others.now c.in-Some.first.now
    c.edges.found.items c.add_crossings.new.found.items c.in-Some.ensures.cases.0
    c.edges.invariant c.in_ok-add_crossings.ensures
    (not_too_many c.deref.result.now c.add_crossings.new.found.items c.deref.ensures.value
    (sym c.is_too_many.ensures ∙ c.if-is_too_many.false))

pub returns-then-is_too_many : goal.returns-then-is_too_many
returns-then-is_too_many c =
    many_found c.args.edges.now c.edges.rest.now c.in-Some.others.now c.in-Some.first.now
    c.edges.found.items c.add_crossings.new.found.items c.in-Some.ensures.cases.0
    c.edges.invariant c.in_ok-add_crossings.ensures
    (too_many c.deref.result.now c.add_crossings.new.found.items c.deref.ensures.value
    (sym c.is_too_many.ensures ∙ c.if-is_too_many.true))

pub returns : goal.returns
returns c =
    found_at_end c.args.edges.now c.edges.rest.now c.edges.found.items c.in_default.ensures.cases
    c.edges.invariant
