-- The model that a form means is its box.
use Rattle.std.proofs.Common.{refl}
use Rattle.sb_box.specs.BoxModel.{IsBoxModel}
use Rattle.sb_box.specs.declared.extent.Extent.{Extent}
use Rattle.sb_form.specs.Meaning.{model_of, space_of, space_number}
use Rattle.sb_form.specs.declared.matcher.FirstForm.{FirstForm}

-- of which this is the extent
pub form_is_box : (f : FirstForm) (e : Extent) → IsBoxModel space_number e (model_of f e)
form_is_box f e = record {
  space = space_of f e;
  spaces = refl;
  number = refl;
  prism = refl;
  elements = refl;
  openings = refl;
  fillings = refl;
  ground_height = refl;
}
