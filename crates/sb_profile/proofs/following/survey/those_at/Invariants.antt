use Rattle.std.proofs.Common.{◌≡◌, take}
use Rattle.sb_profile.specs.Steps.Survey.{wanted_there}
use Rattle.sb_profile.proofs.following.survey.those_at.Given as goal

abbrev pub invariant-loop-lead : goal.invariant-loop-lead
invariant-loop-lead l = l.numbers.items ≡ wanted_there l.at (take l.lead-index l.leads)
