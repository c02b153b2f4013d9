use Rattle.std.proofs.Common.{take}
use Rattle.std.specs.Ordering.{nat_cmp}
use Rattle.std.specs.BTreeSet.{contains}
use Rattle.sb_profile.specs.Contents.{Contents, Says}
use Rattle.sb_profile.specs.Steps.Found.{FindsEach}
use Rattle.sb_profile.proofs.following.survey.follow.Given as goal

abbrev pub invariant-numbers : goal.invariant-numbers
invariant-numbers l =
    (c : Contents) → Says l.file c
    → FindsEach (contains nat_cmp l.bodies) c l.at (take l.number-index l.number-items) l.fn.found
    l.found
