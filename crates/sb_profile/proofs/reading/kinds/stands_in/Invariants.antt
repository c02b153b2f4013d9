use Rattle.std.proofs.Common.{◌≡◌, map, take}
use Rattle.std.specs.List.{list_any}
use Rattle.std.specs.Str.{bytes_eq}
use Rattle.sb_profile.proofs.reading.kinds.stands_in.Given as goal

abbrev pub invariant-loop-one : goal.invariant-loop-one
invariant-loop-one l =
    l.found ≡ list_any (λ k. bytes_eq k l.keyword) (map (λ k. k.now) (take l.one-index l.keywords))
