use Rattle.std.proofs.Common.{◌≡◌, drop}
use Rattle.std.specs.List.{find}
use Rattle.sb_points.specs.Places.{spot_over}
use Rattle.sb_model.specs.Solids.{is_in_solid}
use Rattle.sb_model.proofs.labels.labelling.space_at.Given as goal

abbrev pub invariant-spaces : goal.invariant-spaces
invariant-spaces l =
    find (λ x. is_in_solid x.prism (spot_over l.p l.z)) l.space-items
    ≡ find (λ x. is_in_solid x.prism (spot_over l.p l.z)) (drop l.space-index l.space-items)
