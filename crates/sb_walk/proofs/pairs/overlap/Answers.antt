-- The pair that is found is the least one.
use Rattle.std.proofs.Common.{◌∙◌}
use Rattle.sb_walk.proofs.LeastPairs.{order_fits, overlap_is}
use Rattle.sb_walk.proofs.pairs.overlap.Goals as goal

pub least_of-requires : goal.least_of-requires
least_of-requires c =
    order_fits c.args.model.now c.args.edges.now c.args.slab.now c.requires.edges c.requires.slab
    c.requires.direction c.spaces.ensures.is_building c.as_slice-2.result.now c.as_slice-2.ensures

pub returns-clause-some : goal.returns-clause-some
returns-clause-some c =
    (overlap_is c.args.model.now c.args.edges.now c.args.slab.now c.requires.edges c.requires.slab
    c.requires.direction c.spaces.ensures.is_building c.as_slice-2.result.now c.as_slice-2.ensures
    c.as_slice.result.now (c.as_slice.ensures ∙ c.spaces.ensures.value) c.least_of.result
    c.least_of.ensures).0

pub returns-clause-none : goal.returns-clause-none
returns-clause-none c =
    (overlap_is c.args.model.now c.args.edges.now c.args.slab.now c.requires.edges c.requires.slab
    c.requires.direction c.spaces.ensures.is_building c.as_slice-2.result.now c.as_slice-2.ensures
    c.as_slice.result.now (c.as_slice.ensures ∙ c.spaces.ensures.value) c.least_of.result
    c.least_of.ensures).1
