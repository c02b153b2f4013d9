use Rattle.std.proofs.Common.{◌≡◌, map, take}
use Rattle.sb_model.proofs.numbering.filling_numbers.Given as goal

abbrev pub invariant-fillings : goal.invariant-fillings
invariant-fillings l = l.numbers.items ≡ map (λ f. f.number) (take l.filling-index l.filling-items)
