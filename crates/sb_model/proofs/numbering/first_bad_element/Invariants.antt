use Rattle.std.proofs.Common.{◌≡◌, drop}
use Rattle.sb_model.specs.Building.{first_wrong}
use Rattle.sb_model.specs.Numbering.{is_taken}
use Rattle.sb_model.proofs.numbering.first_bad_element.Given as goal

abbrev pub invariant-elements : goal.invariant-elements
invariant-elements l =
    first_wrong (λ e. e.number) (λ e. is_taken l.all.spaces l.all.openings l.all.fillings e.number) 0 l.element-items
    ≡ first_wrong (λ e. e.number) (λ e. is_taken l.all.spaces l.all.openings l.all.fillings e.number) l.before
    (drop l.element-index l.element-items)
