-- The first slab is one of the model, and no element has layers.
use Rattle.sb_fraction.specs.Lines.{arrow_along}
use Rattle.tests_walk.proofs.SlabsOfModel.{all_left, runs_along_x, of_model, no_layers}
use Rattle.tests_walk.proofs.walks.walk_in.Goals as goal

pub level_walk-requires-clause-slab : goal.level_walk-requires-clause-slab
level_walk-requires-clause-slab g c =
    of_model c.args.model.now c.in_ok-slabs.slabs c.next.new.self
    (all_left c.args.model.now c.args.edges.now c.requires.network c.in_ok-slabs.slabs
    (arrow_along c.along_x.result) c.along_x.ensures c.in_ok-slabs.ensures)
    c.in_ok-slab.field-0 c.in-Some.slab c.in-Some.is c.in_ok-slab.ensures.slab

pub level_walk-requires-clause-direction : goal.level_walk-requires-clause-direction
level_walk-requires-clause-direction g c =
    runs_along_x c.args.model.now c.in_ok-slabs.slabs c.next.new.self
    (all_left c.args.model.now c.args.edges.now c.requires.network c.in_ok-slabs.slabs
    (arrow_along c.along_x.result) c.along_x.ensures c.in_ok-slabs.ensures)
    c.in_ok-slab.field-0 c.in-Some.slab c.in-Some.is c.in_ok-slab.ensures.slab

pub level_walk-requires-clause-no_layers : goal.level_walk-requires-clause-no_layers
level_walk-requires-clause-no_layers g c =
    no_layers c.args.model.now c.as_slice.result.now c.elements.result.now c.as_slice.ensures
    c.elements.ensures.value c.have_no_layers.result c.have_no_layers.ensures
    c.if-not-have_no_layers.false
