-- Edge after edge, until one begins too far or there are too many.
use Rattle.std.proofs.Common.{◌+◌, sym, ap, ◌∙◌, subst, drop, List}
use Rattle.theory_numbers.proofs.Signs.{less_from}
use Rattle.sb_fraction.specs.Edges.{edge_of}
use Rattle.sb_frame.specs.declared.crossing.Crossing.{Crossing}
use Rattle.sb_frame.specs.Found.{left_of, right_of}
use Rattle.sb_frame.proofs.Meetings.StepsOfFinding.{AddedSoFar, added_none_at, added_one_at, added_apart_at}
use Rattle.sb_frame.proofs.Meetings.StepsOfFinding.{added_at_first, added_many_at, added_at_end}
use Rattle.sb_frame.proofs.finding.add_crossings.Goals as goal
use Rattle.sb_frame.proofs.finding.add_crossings.Goals.{in-Some+in_ok-add, in_default}
use Rattle.sb_frame.proofs.finding.add_crossings.Goals.{then-begins_behind-via-then-begins_behind, then-begins_behind-via-else-begins_behind+then-is_too_many}

pub others-init : goal.others-init
others-init c =
    added_at_first (edge_of c.args.first.now.segment) c.args.others.now c.args.found.now.items
    c.requires.ascend c.requires.in_order

pub others-preserved : goal.others-preserved
others-preserved c =
    elim c.match-crossing_of.branch [
      | in-Some+in_ok-add w ↦
          subst
          (λ (list : List Crossing).
          AddedSoFar (edge_of c.args.first.now.segment) c.args.others.now
          (drop (c.others.other-index + 1) c.args.others.now) c.args.found.now.items list)
          (sym (ap (λ v. v.items) w.found-is))
          (added_one_at (edge_of c.args.first.now.segment) c.args.others.now c.others.other-index
          c.args.found.now.items c.others.found.items c.others.invariant c.other-item.result
          c.others-test.true c.other-item.is w.add.new.found.items w.in-Some.crossing
          w.in-Some.ensures.some w.in_ok-add.ensures)
      | in_default w ↦
          subst
          (λ (list : List Crossing).
          AddedSoFar (edge_of c.args.first.now.segment) c.args.others.now
          (drop (c.others.other-index + 1) c.args.others.now) c.args.found.now.items list)
          (sym (ap (λ v. v.items) w.found-is))
          (added_none_at (edge_of c.args.first.now.segment) c.args.others.now c.others.other-index
          c.args.found.now.items c.others.found.items c.others.invariant c.other-item.result
          c.others-test.true c.other-item.is w.in_default.ensures.none)
    ]

pub returns-then-begins_behind : goal.returns-then-begins_behind
returns-then-begins_behind c =
    elim c.then-begins_behind.branch [
      | then-begins_behind-via-then-begins_behind w ↦
          added_apart_at (edge_of c.args.first.now.segment) c.args.others.now c.others.other-index
          c.args.found.now.items c.others.found.items c.others.invariant c.other-item.result
          c.others-test.true c.other-item.is
          (less_from (right_of (edge_of c.args.first.now.segment))
          (left_of (edge_of c.other-item.result.segment))
          (sym c.begins_behind.ensures ∙ w.if-begins_behind.true))
      | then-begins_behind-via-else-begins_behind+then-is_too_many w ↦
          added_many_at (edge_of c.args.first.now.segment) c.args.others.now c.others.other-index
          c.args.found.now.items c.others.found.items c.others.invariant w.deref.result.now
          w.deref.ensures.value (sym w.is_too_many.ensures ∙ w.if-is_too_many.true)
    ]

pub returns : goal.returns
returns c =
    added_at_end (edge_of c.args.first.now.segment) c.args.others.now c.others.other-index
    c.args.found.now.items c.others.found.items c.others.invariant c.others-test.false
