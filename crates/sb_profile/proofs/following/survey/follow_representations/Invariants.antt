use Rattle.std.proofs.Common.{take}
use Rattle.std.specs.Ordering.{nat_cmp}
use Rattle.std.specs.BTreeSet.{contains}
use Rattle.sb_profile.specs.declared.following.places.Place.TheVariants as place
use Rattle.sb_profile.specs.Contents.{Contents, Says}
use Rattle.sb_profile.specs.Steps.Found.{AreBodies, FindsEach}
use Rattle.sb_profile.proofs.following.survey.follow_representations.Given as goal

abbrev pub invariant-numbers : goal.invariant-numbers
invariant-numbers l =
    (c : Contents) → Says l.file c → AreBodies c (contains nat_cmp l.bodies)
    → FindsEach (contains nat_cmp l.bodies) c place.Representation (take l.number-index l.number-items) l.fn.found
    l.found
