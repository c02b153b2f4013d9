-- Between two numbers there is one at which finitely many forms are not 0, and one that is none of
-- a finite list.
use Rattle.std.proofs.Common.{◌≡◌, inl, inr, arith, List, [], ◌∷◌, map, pos}
use Rattle.std.proofs.lemmas.Int.{ints}
use Rattle.std.specs.List.{AllByRecursion}
use Rattle.theory_numbers.specs.Arrows.{Arrow, cross}
use Rattle.theory_numbers.specs.Rationals.{IsRational, IsBelow, IsSame, mediant, value_at, form_of}
use Rattle.theory_numbers.specs.Rationals.{IsForm}
use Rattle.theory_numbers.specs.Intervals.{Keeps, AllKeep, clear_end, avoiding, another}
use Rattle.theory_numbers.proofs.Vectors.Arrows.{dot-turned}
use Rattle.theory_numbers.proofs.Fractions.Rationals.{mediant-IsRational, mediant_between}
use Rattle.theory_numbers.proofs.Fractions.Rationals.{below_at_most_trans}
use Rattle.theory_numbers.proofs.Fractions.Clear.{clear_to}

-- the form is not 0 at u
abbrev pub IsOffZero : Arrow → Arrow → Type 0
IsOffZero u form = value_at form u ≡ pos 0 → ⊥

-- u lies strictly between r and t, and none of the forms is 0 at it
pub record IsAvoiding (r t : Arrow) (forms : List Arrow) (u : Arrow) : Type 0 where
  pub rational : IsRational u
  pub after : IsBelow r u
  pub before : IsBelow u t
  pub apart : AllByRecursion (IsOffZero u) forms

-- a form that keeps its sign is 0 nowhere
pub not_zero_where_kept : (form r t u : Arrow) → IsRational u → IsBelow r u → IsBelow u t
    → Keeps r t form → IsOffZero u form
not_zero_where_kept form r t u u_in after before (inl above) zero =
    let high = above u u_in after before in omega (arith, ints)
not_zero_where_kept form r t u u_in after before (inr below) zero =
    let low = below u u_in after before in omega (arith, ints)

none_zero : (r t u : Arrow) → IsRational u → IsBelow r u → IsBelow u t → (forms : List Arrow)
    → AllKeep r t forms → AllByRecursion (IsOffZero u) forms
none_zero r t u u_in after before [] all = tt
none_zero r t u u_in after before (form ∷ forms) all = (
  not_zero_where_kept form r t u u_in after before all.0,
  none_zero r t u u_in after before forms all.1,
)

-- between two numbers there is one at which none of finitely many forms is 0
pub avoiding_is : (r t : Arrow) → IsRational r → IsRational t → IsBelow r t
    → (forms : List Arrow) → AllByRecursion IsForm forms
    → IsAvoiding r t forms (avoiding r t forms)
avoiding_is r t r_in t_in low forms are_forms =
    let found = clear_to r t r_in t_in low forms are_forms in
    let end = clear_end r t forms in
    let u = mediant r end in
    let u_in = mediant-IsRational r end r_in found.rational in
    let inside = mediant_between r end found.after in
    record {
      rational = u_in;
      after = inside.0;
      before = below_at_most_trans u end t u_in found.rational t_in inside.1 found.within;
      apart = none_zero r end u u_in inside.0 inside.1 forms found.keep;
    }

-- ---- numbers in the place of forms

-- u is another number than f
abbrev pub IsOther : Arrow → Arrow → Type 0
IsOther u f = IsSame f u → ⊥

-- the form of a number is 0 at that number alone
pub value-form_of : (f u : Arrow) → value_at (form_of f) u ≡ cross f u
value-form_of f u = dot-turned f u

-- and is not the zero form
pub form_of_is_form : (f : Arrow) → IsRational f → IsForm (form_of f)
form_of_is_form f f_in zero = let none = zero.1 in omega (arith, ints)

forms_of : (numbers : List Arrow) → AllByRecursion IsRational numbers
    → AllByRecursion IsForm (map form_of numbers)
forms_of [] all = tt
forms_of (f ∷ numbers) all = (form_of_is_form f all.0, forms_of numbers all.1)

others_from : (u : Arrow) (numbers : List Arrow)
    → AllByRecursion (IsOffZero u) (map form_of numbers) → AllByRecursion (IsOther u) numbers
others_from u [] all = tt
others_from u (f ∷ numbers) all =
    (λ same. all.0 (rw (value-form_of f u) same), others_from u numbers all.1)

-- u lies strictly between r and t and is none of the numbers
pub record IsAnother (r t : Arrow) (numbers : List Arrow) (u : Arrow) : Type 0 where
  pub rational : IsRational u
  pub after : IsBelow r u
  pub before : IsBelow u t
  pub apart : AllByRecursion (IsOther u) numbers

-- between two numbers there is one that is none of a finite list
pub another_is : (r t : Arrow) → IsRational r → IsRational t → IsBelow r t
    → (numbers : List Arrow) → AllByRecursion IsRational numbers
    → IsAnother r t numbers (another r t numbers)
another_is r t r_in t_in low numbers are_numbers =
    let found =
    avoiding_is r t r_in t_in low (map form_of numbers) (forms_of numbers are_numbers)
    in
    record {
      rational = found.rational;
      after = found.after;
      before = found.before;
      apart = others_from (another r t numbers) numbers found.apart;
    }
