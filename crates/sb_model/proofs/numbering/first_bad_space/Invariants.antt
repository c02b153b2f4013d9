use Rattle.std.proofs.Common.{◌≡◌, drop}
use Rattle.sb_model.specs.Building.{first_wrong}
use Rattle.sb_model.specs.Numbering.{is_taken}
use Rattle.sb_model.proofs.numbering.first_bad_space.Given as goal

abbrev pub invariant-spaces : goal.invariant-spaces
invariant-spaces l =
    first_wrong (λ s. s.number) (λ s. is_taken l.all.elements l.all.openings l.all.fillings s.number) 0 l.space-items
    ≡ first_wrong (λ s. s.number) (λ s. is_taken l.all.elements l.all.openings l.all.fillings s.number) l.before
    (drop l.space-index l.space-items)
