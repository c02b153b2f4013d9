use Rattle.std.proofs.Common.{◌≡◌, map, take}
use Rattle.sb_model.proofs.numbering.opening_numbers.Given as goal

abbrev pub invariant-openings : goal.invariant-openings
invariant-openings l = l.numbers.items ≡ map (λ o. o.number) (take l.opening-index l.opening-items)
