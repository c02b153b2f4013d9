use Rattle.std.proofs.Common.{◌≡◌, ◌||◌, not, drop}
use Rattle.sb_model.specs.Building.{first_wrong}
use Rattle.sb_model.specs.Numbering.{has, is_taken}
use Rattle.sb_model.proofs.numbering.first_bad_filling.Given as goal

abbrev pub invariant-fillings : goal.invariant-fillings
invariant-fillings l =
    first_wrong (λ f. f.number) (λ f. is_taken l.all.spaces l.all.elements l.all.openings f.number || not (has l.all.openings f.opening)) 0 l.filling-items
    ≡ first_wrong (λ f. f.number) (λ f. is_taken l.all.spaces l.all.elements l.all.openings f.number || not (has l.all.openings f.opening)) l.before
    (drop l.filling-index l.filling-items)
