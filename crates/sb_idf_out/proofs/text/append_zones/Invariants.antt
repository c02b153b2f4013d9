-- What stands there is the text as it was and the zones so far.
use Rattle.std.proofs.Common.{◌≡◌, ◌++◌, take}
use Rattle.std.specs.List.{flat_map}
use Rattle.sb_idf_out.specs.Objects.{zone_object}
use Rattle.sb_idf_out.proofs.text.append_zones.Given as goal

abbrev pub invariant-spaces : goal.invariant-spaces
invariant-spaces l =
    l.text ≡ l.initial.text ++ flat_map (λ s. zone_object s.number) (take l.space-index l.spaces)
