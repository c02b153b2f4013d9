-- Whether none of those that are left has layers.
use Rattle.std.proofs.Common.{◌≡◌, length}
use Rattle.std.specs.List.{list_all}
use Rattle.sb_walk.specs.Behind.{has_no_axis}
use Rattle.tests_walk.proofs.walks.have_no_layers.Given as goal

abbrev pub invariant-elements : goal.invariant-elements
invariant-elements l =
    list_all (λ e. has_no_axis e.layering) l.rest ≡ list_all (λ e. has_no_axis e.layering) l.elements

abbrev pub decreases-elements : goal.decreases-elements
decreases-elements l = length l.rest
