use Rattle.std.proofs.Common.{◌≡◌, drop}
use Rattle.std.specs.List.{find}
use Rattle.sb_points.specs.Places.{spot_over}
use Rattle.sb_model.specs.Solids.{is_in_solid}
use Rattle.sb_model.proofs.labels.labelling.element_at.Given as goal

abbrev pub invariant-elements : goal.invariant-elements
invariant-elements l =
    find (λ x. is_in_solid x.prism (spot_over l.p l.z)) l.element-items
    ≡ find (λ x. is_in_solid x.prism (spot_over l.p l.z)) (drop l.element-index l.element-items)
