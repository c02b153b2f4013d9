-- Just before and just after each number there is an interval without a number of a finite list.
use Rattle.std.proofs.Common.{◌∙◌, ◌⊎◌, inl, inr, arith, List, [], ◌∷◌, map}
use Rattle.std.proofs.lemmas.Int.{ints}
use Rattle.std.specs.List.{AllByRecursion}
use Rattle.theory_numbers.specs.Arrows.{Arrow}
use Rattle.theory_numbers.specs.Rationals.{IsRational, IsBelow, IsAtMost, IsSame, form_of}
use Rattle.theory_numbers.specs.Rationals.{IsForm}
use Rattle.theory_numbers.specs.Intervals.{AllKeep, clear_end, clear_start}
use Rattle.theory_numbers.proofs.Vectors.Arrows.{cross-self}
use Rattle.theory_numbers.proofs.Fractions.Rationals.{below_at_most_trans, at_most_below_trans, same_sym}
use Rattle.theory_numbers.proofs.Fractions.Rationals.{below_or_not}
use Rattle.theory_numbers.proofs.Fractions.Clear.{clear_to, clear_from}
use Rattle.theory_numbers.proofs.Fractions.Avoid.{IsOther, not_zero_where_kept, value-form_of}
use Rattle.theory_numbers.proofs.Fractions.Avoid.{form_of_is_form}
use Rattle.theory_lists.specs.Members.{Stands}
use Rattle.theory_lists.proofs.Members.{all_stands}

-- no number of the list lies strictly between r and t
abbrev pub IsNoneBetween : Arrow → Arrow → List Arrow → Type 0
IsNoneBetween r t numbers = AllByRecursion (λ f. IsBelow r f → IsBelow f t → ⊥) numbers

-- a number that is the same as another is at most it
pub at_most_from_same : (r s : Arrow) → IsSame r s → IsAtMost r s
at_most_from_same r s same = omega (arith, ints)

-- a number that is not below another is at least it
pub at_least_if_not_below : (r s : Arrow) → (IsBelow r s → ⊥) → IsAtMost s r
at_least_if_not_below r s none = from (below_or_not r s)
  where
    from : IsBelow r s ⊎ IsAtMost s r → IsAtMost s r
    from (inl less) = absurd (none less)
    from (inr more) = more

-- where the forms of the numbers keep their sign there is none of the numbers
none_where_kept : (r t : Arrow) (numbers : List Arrow) → AllByRecursion IsRational numbers
    → AllKeep r t (map form_of numbers) → IsNoneBetween r t numbers
none_where_kept r t [] are_numbers kept = tt
none_where_kept r t (f ∷ numbers) are_numbers kept = (
  λ after before.
      not_zero_where_kept (form_of f) r t f are_numbers.0 after before kept.0
      (value-form_of f f ∙ cross-self f),
  none_where_kept r t numbers are_numbers.1 kept.1,
)

forms_of_numbers : (numbers : List Arrow) → AllByRecursion IsRational numbers
    → AllByRecursion IsForm (map form_of numbers)
forms_of_numbers [] are_numbers = tt
forms_of_numbers (f ∷ numbers) are_numbers =
    (form_of_is_form f are_numbers.0, forms_of_numbers numbers are_numbers.1)

-- an interval that ends at t and starts at s, not below r
pub record IsFreeBefore (r t : Arrow) (numbers : List Arrow) (s : Arrow) : Type 0 where
  pub rational : IsRational s
  pub within : IsAtMost r s
  pub before : IsBelow s t
  pub none : IsNoneBetween s t numbers

-- an interval that starts at r and ends at s, not above t
pub record IsFreeAfter (r t : Arrow) (numbers : List Arrow) (s : Arrow) : Type 0 where
  pub rational : IsRational s
  pub within : IsAtMost s t
  pub after : IsBelow r s
  pub none : IsNoneBetween r s numbers

module _ (r t : Arrow) (r_in : IsRational r) (t_in : IsRational t) (wide : IsBelow r t)
    (numbers : List Arrow) (are_numbers : AllByRecursion IsRational numbers) where
  -- there is one just before t
  pub free_before : (s : Arrow) × IsFreeBefore r t numbers s
  free_before =
      let forms = map form_of numbers in
      let s = clear_start r t forms in
      let found = clear_from r t r_in t_in wide forms (forms_of_numbers numbers are_numbers) in (
        s,
        record {
          rational = found.rational;
          within = found.within;
          before = found.before;
          none = none_where_kept s t numbers are_numbers found.keep;
        },
      )

  -- and one just after r
  pub free_after : (s : Arrow) × IsFreeAfter r t numbers s
  free_after =
      let forms = map form_of numbers in
      let s = clear_end r t forms in
      let found = clear_to r t r_in t_in wide forms (forms_of_numbers numbers are_numbers) in (
        s,
        record {
          rational = found.rational;
          within = found.within;
          after = found.after;
          none = none_where_kept r s numbers are_numbers found.keep;
        },
      )

-- a number of the list beyond the start of such an interval is at least its end
pub beyond_end : (r t f : Arrow) (numbers : List Arrow) → IsNoneBetween r t numbers
    → Stands f numbers → IsBelow r f → IsAtMost t f
beyond_end r t f numbers none listed after =
    at_least_if_not_below f t
    (all_stands (λ g. IsBelow r g → IsBelow g t → ⊥) f numbers none listed after)

-- and one below its end is at most its start
pub before_start : (r t f : Arrow) (numbers : List Arrow) → IsNoneBetween r t numbers
    → Stands f numbers → IsBelow f t → IsAtMost f r
before_start r t f numbers none listed before =
    at_least_if_not_below r f
    (λ after. all_stands (λ g. IsBelow r g → IsBelow g t → ⊥) f numbers none listed after before)

-- a number in such an interval is none of the list
pub other_between : (r t u : Arrow) → IsRational r → IsRational t → IsRational u → IsBelow r u
    → IsBelow u t → (numbers : List Arrow) → AllByRecursion IsRational numbers
    → IsNoneBetween r t numbers → AllByRecursion (IsOther u) numbers
other_between r t u r_in t_in u_in after before [] are_numbers none = tt
other_between r t u r_in t_in u_in after before (f ∷ numbers) are_numbers none = (
  λ same.
      none.0
      (below_at_most_trans r u f r_in u_in are_numbers.0 after
      (at_most_from_same u f (same_sym f u same)))
      (at_most_below_trans f u t are_numbers.0 u_in t_in (at_most_from_same f u same) before),
  other_between r t u r_in t_in u_in after before numbers are_numbers.1 none.1,
)
