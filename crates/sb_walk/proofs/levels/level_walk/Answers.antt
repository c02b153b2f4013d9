-- What is read is the walk.
use Rattle.std.specs.Int.{w32}
use Rattle.std.proofs.Common.{rules, FitsSigned}
use Rattle.std.proofs.lemmas.Int.{to_z-of_z}
use Rattle.sb_walk.proofs.WalksRead.WalksAreRead.{places_fit, walk_is_made}
use Rattle.sb_walk.proofs.levels.level_walk.Goals as goal

pub present_behind-requires : goal.present_behind-requires
present_behind-requires c =
    places_fit c.args.model.now c.ground_position-ground.ensures.is_building c.args.edges.now
    c.requires.edges c.args.slab.now c.requires.slab c.requires.direction c.args.gap
    c.first.result.now c.as_slice.result.now c.first.ensures c.as_slice.ensures

pub returns : goal.returns
returns c =
    let fits : FitsSigned w32 c.ground_position-ground.result = search rules in
    let rising = simp to_z-of_z at c.in_ok-positions.ensures in
    walk_is_made c.args.model.now c.ground_position-ground.ensures.is_building c.args.edges.now
    c.requires.edges c.args.slab.now c.requires.slab c.requires.direction c.args.gap c.args.space.now
    c.args.way c.first.result.now c.as_slice.result.now c.first.ensures c.as_slice.ensures
    c.in_ok-present.present.items c.in_ok-present.ensures c.as_slice-2.result.now
    c.as_slice-2.ensures.value c.ground_position-ground.result c.ground_position-ground.ensures.value
    c.in_ok-positions.positions.items rising c.as_slice-4.result.now
    c.as_slice-4.ensures.value c.as_slice-3.result.now c.as_slice-3.ensures.value
    c.walk_of_space.result c.walk_of_space.ensures
