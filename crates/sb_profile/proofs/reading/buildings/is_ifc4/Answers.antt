use Rattle.std.proofs.Common.{◌≡◌, Option, Some, None, ap, sym, ◌∙◌, refl}
use Rattle.std.specs.Prelude.{option_copied}
use Rattle.sb_profile.specs.Defects as spec
use Rattle.sb_profile.proofs.reading.buildings.is_ifc4.Goals as goal

-- two that have the same values are one
same_values : {A : Type 0} (one two : Option A) → ((a : A) → one ≡ Some a → two ≡ Some a)
    → ((a : A) → two ≡ Some a → one ≡ Some a) → one ≡ two
same_values None None there back = refl
same_values None (Some a) there back = back a refl
same_values (Some a) two there back = sym (there a refl)

pub returns : goal.returns
returns c = λ said says.
    c.is_the_schema.ensures
    ∙ ap spec.is_ifc4 (same_values (option_copied c.schema.result) said.schema
    (λ text is. (says.schema_is text).1 ((c.schema.ensures.text text).0 is))
    (λ text is. (c.schema.ensures.text text).1 ((says.schema_is text).0 is)))
