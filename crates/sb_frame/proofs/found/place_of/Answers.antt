-- The closure compares with the point.
use Rattle.std.proofs.Common.{rules}
use Rattle.std.proofs.lemmas.Fn.{always_returns_same}
use Rattle.sb_frame.specs.Found.{order_of_points}
use Rattle.sb_frame.proofs.found.place_of.Goals as goal

pub returns-clause-place : goal.returns-clause-place
returns-clause-place c =
    c.binary_search_by.ensures.position (λ d. order_of_points d c.args.crossing.now)
    (always_returns_same _ _ _ (λ a r f k. search rules))
