-- The ground, the reach and the frame of a form's model are in their ranges.
use Rattle.std.proofs.Common.{◌≡◌, ◌<◌, ℤ, pos, true, IsTrue, unsigned_abs, nat_le, refl}
use Rattle.std.proofs.Common.{arith}
use Rattle.std.proofs.lemmas.Int.{ints, unsigned_abs-mul}
use Rattle.std.proofs.lemmas.Bool.{le-leb}
use Rattle.sb_model.specs.Building.{is_in_range, greatest_shift}
use Rattle.sb_box.specs.declared.extent.Extent.{Extent}
use Rattle.sb_form.specs.FirstForm.{AreShort}
use Rattle.sb_form.specs.Meaning.{model_of, nanometres}
use Rattle.sb_form.specs.declared.matcher.FirstForm.{FirstForm}

-- a short length in nanometres is within 10^12
in_nanometres : (z : ℤ) → unsigned_abs z < 1000000
    → nat_le (unsigned_abs (nanometres z)) greatest_shift ≡ true
in_nanometres z short =
    let size = unsigned_abs-mul z (pos 1000000) in
    le-leb (unsigned_abs (nanometres z)) greatest_shift (omega (arith, ints))

-- the model of a form with short numbers is in range
pub form_is_in_range : (f : FirstForm) (e : Extent) → AreShort f
    → IsTrue (is_in_range (model_of f e))
form_is_in_range f e short =
    rw (in_nanometres f.x short.0, in_nanometres f.y short.1, in_nanometres f.z short.2) refl
