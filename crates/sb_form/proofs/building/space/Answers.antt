-- The space has the data of the form's space.
use Rattle.std.proofs.Common.{rules, refl}
use Rattle.theory_models.proofs.SpacesByFields.{same_space}
use Rattle.sb_form.specs.Meaning.{space_of}
use Rattle.sb_form.proofs.building.space.Goals as goal

pub returns : goal.returns
returns c =
    same_space _ (space_of c.args.form.now c.args.extent.now) refl (search rules) (search rules)
    (search rules)
