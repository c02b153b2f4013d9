use Rattle.std.proofs.Common.{rules, w64, FitsSigned, refl}
use Rattle.std.proofs.lemmas.Int.{to_z-of_z}
use Rattle.sb_model.specs.Surfaces.Corners.{corner_along}
use Rattle.sb_model.proofs.patches.corner_numbers.placed_along.Goals as goal

pub returns : goal.returns
unfolding corner_along
returns c =
    let z : FitsSigned w64 c.args.z = search rules in
    let height = simp to_z-of_z at c.whole.ensures in
    rw (c.x_along.ensures, c.y_along.ensures, height) refl
