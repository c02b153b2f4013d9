use Rattle.std.proofs.Common.{◌∙◌, sym, refl}
use Rattle.sb_fraction.specs.Edges.{edge_of}
use Rattle.sb_fraction.proofs.Meetings.MeetingInRange.{meeting_is, neither_if_once, one_if_not_once}
use Rattle.sb_fraction.proofs.meeting.meet.Goals as goal

pub returns-then-have_one_point-clause-none : goal.returns-then-have_one_point-clause-none
returns-then-have_one_point-clause-none c =
    let once = sym c.have_one_point.ensures.value ∙ c.if-have_one_point.true in (
      λ none. absurd (cc),
      λ either.
          absurd (neither_if_once (edge_of c.args.a.now) (edge_of c.args.b.now) once either),
    )

pub returns-then-have_one_point-clause-some : goal.returns-then-have_one_point-clause-some
returns-then-have_one_point-clause-some c =
    let once = sym c.have_one_point.ensures.value ∙ c.if-have_one_point.true in
    meeting_is (edge_of c.args.a.now) (edge_of c.args.b.now) c.requires.first_in once
    c.meeting.result c.meeting.ensures.value c.meeting.ensures.size

pub returns-else-have_one_point-clause-none : goal.returns-else-have_one_point-clause-none
returns-else-have_one_point-clause-none c =
    let none = sym c.have_one_point.ensures.value ∙ c.if-have_one_point.false in
    (λ is. one_if_not_once (edge_of c.args.a.now) (edge_of c.args.b.now) none, λ either. refl)
