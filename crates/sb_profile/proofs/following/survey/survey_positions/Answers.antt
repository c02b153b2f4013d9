use Rattle.sb_profile.proofs.following.survey.survey_positions.Goals as goal

pub returns : goal.returns
returns c = λ said roots first says at_first.
    let after_one = c.in_ok-follow.ensures said roots first says at_first in
    let after_two = c.in_ok-follow-2.ensures said roots first says after_one in
    let after_three = c.in_ok-follow-3.ensures said roots first says after_two in
    let after_four = c.in_ok-follow-4.ensures said roots first says after_three in
    let after_five = c.in_ok-follow-5.ensures said roots first says after_four in
    let after_six = c.in_ok-follow-6.ensures said roots first says after_five in
    let after_seven = c.in_ok-follow-7.ensures said roots first says after_six in
    c.in_ok-follow-8.ensures said roots first says after_seven
