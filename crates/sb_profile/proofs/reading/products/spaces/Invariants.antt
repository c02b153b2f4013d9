use Rattle.std.proofs.Common.{◌≡◌, take}
use Rattle.std.specs.Prelude.{filter, filter_map}
use Rattle.sb_profile.specs.Entities.Entity.{space}
use Rattle.sb_profile.specs.Contents.{Contents, Says, is_unfit}
use Rattle.sb_profile.specs.Steps.Links.{lowered}
use Rattle.sb_profile.specs.Steps.Shapes.{shaped_space}
use Rattle.sb_profile.proofs.reading.products.spaces.Given as goal

abbrev pub invariant-numbers : goal.invariant-numbers
invariant-numbers l =
    ((c : Contents) → Says l.file c → l.products.items
    ≡ filter_map (shaped_space c) (take l.number-index l.numbers))
    × ((c : Contents) → Says l.file c → l.unfit
    ≡ lowered l.fn.unfit (filter (is_unfit c space) (take l.number-index l.numbers)))
