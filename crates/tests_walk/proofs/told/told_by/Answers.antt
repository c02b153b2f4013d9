-- Slab after slab.
use Rattle.sb_fraction.specs.Lines.{arrow_along}
use Rattle.tests_walk.proofs.SlabsOfModel.{all_left, runs_along_x, of_model, rest_left}
use Rattle.tests_walk.proofs.told.told_by.Goals as goal

pub slabs-init : goal.slabs-init
slabs-init g c =
    all_left c.args.model.now c.args.edges.now c.requires.network c.in_ok-slabs.slabs
    (arrow_along c.along_x.result) c.along_x.ensures c.in_ok-slabs.ensures

pub overlap-requires-clause-slab : goal.overlap-requires-clause-slab
overlap-requires-clause-slab g c =
    of_model c.args.model.now c.slabs.slabs c.next.new.self c.slabs.invariant c.in_ok-slab.field-0
    c.in-Some.slab c.in-Some.is c.in_ok-slab.ensures.slab

pub overlap-requires-clause-direction : goal.overlap-requires-clause-direction
overlap-requires-clause-direction g c =
    runs_along_x c.args.model.now c.slabs.slabs c.next.new.self c.slabs.invariant
    c.in_ok-slab.field-0 c.in-Some.slab c.in-Some.is c.in_ok-slab.ensures.slab

pub slabs-preserved : goal.slabs-preserved
slabs-preserved g c =
    rest_left c.args.model.now c.slabs.slabs c.next.new.self c.slabs.invariant c.in_ok-slab.field-0
    c.in-Some.slab c.in-Some.is c.in_ok-slab.ensures.slab
