use Rattle.std.proofs.Common.{◌≡◌, ◌||◌, not, drop}
use Rattle.sb_model.specs.Building.{first_wrong}
use Rattle.sb_model.specs.Numbering.{has, is_taken}
use Rattle.sb_model.proofs.numbering.first_bad_opening.Given as goal

abbrev pub invariant-openings : goal.invariant-openings
invariant-openings l =
    first_wrong (λ o. o.number) (λ o. is_taken l.all.spaces l.all.elements l.all.fillings o.number || not (has l.all.elements o.element)) 0 l.opening-items
    ≡ first_wrong (λ o. o.number) (λ o. is_taken l.all.spaces l.all.elements l.all.fillings o.number || not (has l.all.elements o.element)) l.before
    (drop l.opening-index l.opening-items)
