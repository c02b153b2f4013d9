use Rattle.std.proofs.Common.{◌≡◌, map, take}
use Rattle.sb_model.proofs.numbering.element_numbers.Given as goal

abbrev pub invariant-elements : goal.invariant-elements
invariant-elements l = l.numbers.items ≡ map (λ e. e.number) (take l.element-index l.element-items)
