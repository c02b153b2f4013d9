use Rattle.std.proofs.Common.{◌≡◌, map, take}
use Rattle.sb_model.proofs.numbering.space_numbers.Given as goal

abbrev pub invariant-spaces : goal.invariant-spaces
invariant-spaces l = l.numbers.items ≡ map (λ s. s.number) (take l.space-index l.space-items)
