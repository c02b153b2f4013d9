-- Open intervals of rational numbers in which forms keep their sign, and numbers chosen in them.
-- They stand in the place of every limit: an interval just after r, a number near t.
use Rattle.std.specs.Prelude.{◌⊎◌, pos, ◌<ℤ◌, ◌*ℤ◌, Bool, List, [], ◌∷◌, map, if◌then◌else◌}
use Rattle.std.specs.List.{AllByRecursion}
use Rattle.theory_numbers.specs.Arrows.{Arrow, mirror}
use Rattle.theory_numbers.specs.Rationals.{IsRational, IsBelow, mediant, value_at, form_of, zero_of}
use Rattle.theory_numbers.specs.Tests.{is_negative}

-- the form is above 0 at every number strictly between r and t
abbrev pub IsPositiveOn : Arrow → Arrow → Arrow → Type 0
IsPositiveOn r t form =
    (u : Arrow) → IsRational u → IsBelow r u → IsBelow u t → pos 0 <ℤ value_at form u

-- the form is below 0 there
abbrev pub IsNegativeOn : Arrow → Arrow → Arrow → Type 0
IsNegativeOn r t form =
    (u : Arrow) → IsRational u → IsBelow r u → IsBelow u t → value_at form u <ℤ pos 0

-- the form has one sign strictly between r and t, and is 0 nowhere there
abbrev pub Keeps : Arrow → Arrow → Arrow → Type 0
Keeps r t form = IsPositiveOn r t form ⊎ IsNegativeOn r t form

-- each of the forms keeps its sign strictly between r and t
abbrev pub AllKeep : Arrow → Arrow → List Arrow → Type 0
AllKeep r t forms = AllByRecursion (Keeps r t) forms

-- the signs of the form at r and t are strictly opposite, so it is 0 strictly between them
abbrev pub changes_sign : Arrow → Arrow → Arrow → Bool
changes_sign form r t = is_negative (value_at form r *ℤ value_at form t)

-- the form's zero where it lies strictly between r and t, else t
abbrev pub stop : Arrow → Arrow → Arrow → Arrow
stop form r t = if changes_sign form r t then zero_of form else t

-- a number above r and at most t up to which no form changes its sign
abbrev pub clear_end : Arrow → Arrow → List Arrow → Arrow
clear_end r t [] = t
clear_end r t (form ∷ forms) = stop form r (clear_end r t forms)

-- a number below t and at least r from which on no form changes its sign
abbrev pub clear_start : Arrow → Arrow → List Arrow → Arrow
clear_start r t forms = mirror (clear_end (mirror t) (mirror r) (map mirror forms))

-- a number strictly between r and t at which none of the forms is 0
abbrev pub avoiding : Arrow → Arrow → List Arrow → Arrow
avoiding r t forms = mediant r (clear_end r t forms)

-- a number strictly between r and t that is none of the list
abbrev pub another : Arrow → Arrow → List Arrow → Arrow
another r t numbers = avoiding r t (map form_of numbers)
