-- Rational numbers as vectors (denominator, numerator), not reduced, and linear forms on them.
use Rattle.std.specs.Prelude.{◌≡◌, ℤ, pos, neg_ℤ, ◌<ℤ◌, ◌≤ℤ◌, Bool, int_le, if◌then◌else◌}
use Rattle.theory_numbers.specs.Arrows.{Arrow, arrow, cross, dot, add, turned}
use Rattle.theory_numbers.specs.Tests.{is_positive}

-- the number y/x: the denominator is above 0. 3/4 is `rational 3 4`, and so is `rational 6 8`,
-- which is another vector but the same number
abbrev pub IsRational : Arrow → Type 0
IsRational r = pos 0 <ℤ r.x

-- num/den
abbrev pub rational : ℤ → ℤ → Arrow
rational num den = arrow den num

-- r < s, for rational numbers
abbrev pub IsBelow : Arrow → Arrow → Type 0
IsBelow r s = pos 0 <ℤ cross r s

-- r <= s
abbrev pub IsAtMost : Arrow → Arrow → Type 0
IsAtMost r s = pos 0 ≤ℤ cross r s

-- r and s are the same number
abbrev pub IsSame : Arrow → Arrow → Type 0
IsSame r s = cross r s ≡ pos 0

-- r < s, as a test
abbrev pub is_below : Arrow → Arrow → Bool
is_below r s = is_positive (cross r s)

-- r <= s, as a test
abbrev pub is_at_most : Arrow → Arrow → Bool
is_at_most r s = int_le (pos 0) (cross r s)

-- (num + num')/(den + den'), which lies strictly between two different numbers
abbrev pub mediant : Arrow → Arrow → Arrow
mediant r s = add r s

-- the linear form a·D + b·N, written (a, b), has this value at N/D, times D
abbrev pub value_at : Arrow → Arrow → ℤ
value_at form r = dot form r

-- the form that is 0 at every number
abbrev pub IsZeroForm : Arrow → Type 0
IsZeroForm form = (form.x ≡ pos 0) × (form.y ≡ pos 0)

-- the form is 0 at one number at most: its coefficients are not both 0
abbrev pub IsForm : Arrow → Type 0
IsForm form = IsZeroForm form → ⊥

-- the form that is 0 at f alone, above 0 at greater numbers and below 0 at smaller ones
abbrev pub form_of : Arrow → Arrow
form_of f = turned f

-- the number at which the form a·D + b·N is 0: -a/b, its denominator above 0 where b is not 0
abbrev pub zero_of : Arrow → Arrow
zero_of form =
    if is_positive form.y then rational (neg_ℤ form.x) form.y else rational form.x (neg_ℤ form.y)
