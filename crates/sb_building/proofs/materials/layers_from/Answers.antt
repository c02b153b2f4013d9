use Rattle.std.proofs.Common.{◌+◌, get_or, subst}
use Rattle.sb_building.specs.Steps.Materials.{IsPushed}
use Rattle.sb_building.proofs.Known.LayersOneByOne.{layers_one_more}
use Rattle.sb_building.proofs.materials.layers_from.Goals as goal

pub members-preserved : goal.members-preserved
members-preserved c = λ said says.
    layers_one_more said c.args.unit c.args.members.now c.members.place c.members.layers c.push_layer.new.layers
    c.members-test.true (c.members.invariant said says)
    (subst
    (λ b. IsPushed said c.args.unit (c.members.place + 1) (get_or c.args.members.now c.members.place 0)
    c.members.layers c.push_layer.new.layers b)
    c.if-not-branch.false (c.in_ok-push_layer.ensures said says))
