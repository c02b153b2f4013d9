use Rattle.std.proofs.Common.{◌≡◌, take}
use Rattle.std.specs.Prelude.{filter}
use Rattle.sb_profile.specs.Contents.{Contents, Says, is_unfit}
use Rattle.sb_profile.specs.Steps.Links.{lowered}
use Rattle.sb_profile.proofs.reading.products.unfit_among.Given as goal

abbrev pub invariant-numbers : goal.invariant-numbers
invariant-numbers g l =
    (c : Contents) → Says l.file c → l.unfit
    ≡ lowered l.fn.unfit (filter (is_unfit c g.V.Seen.entity) (take l.number-index l.numbers))
