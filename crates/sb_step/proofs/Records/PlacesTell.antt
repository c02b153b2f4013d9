-- A place tells what its record does: the form, and the keyword.
use Rattle.sb_step.proofs.Names.{◌≡◌, ℕ, List, Option, Some, None, refl, ap, ◌∙◌, arith, nat_lt, nat_eq, option_map, lookup, cond-false, le-ltb, same_Some, none-some, Form, Record, Place, place_by, form_of, place_at, PlaceLies, RecordLies, keyword_by}
use Rattle.sb_step.specs.declared.step_file.records.Form.TheVariants as form
use Rattle.sb_step.specs.Records.Table.{place_of}

-- a place that is found is that of an instance
pub record IsPlaceOf (instances : List (ℕ × Record)) (n : ℕ) (p : Place) : Type 0 where
  pub body : Record
  pub found : lookup (nat_eq n) instances ≡ Some body
  pub is : place_of body ≡ p

pub placed : (instances : List (ℕ × Record)) (n : ℕ) (p : Place) → place_at instances n ≡ Some p
    → IsPlaceOf instances n p
placed instances n p there = by_found (lookup (nat_eq n) instances) refl there
  where
    by_found : (o : Option Record) → lookup (nat_eq n) instances ≡ o
        → option_map place_of o ≡ Some p → IsPlaceOf instances n p
    by_found None is there = absurd (none-some p there)
    by_found (Some r) is some = record {
      body = r;
      found = is;
      is = same_Some (place_of r) p some;
    }

module _ (size : ℕ) (r : Record) (lies : RecordLies size r) where
  form_by : (f : Form) → r.form ≡ f → form_of (place_by r.start f) ≡ f
  form_by form.Complex is = refl
  form_by (form.Simple end) is =
      cond-false (nat_lt end r.start) form.Complex (form.Simple end)
      (le-ltb end r.start (lies end is).ordered)

  -- the form
  pub form_kept : form_of (place_of r) ≡ r.form
  form_kept = form_by r.form refl

  lies_by : (f : Form) → r.form ≡ f → PlaceLies size (place_by r.start f)
  lies_by form.Complex is = record { within = λ no. absurd (omega (arith, no)) }
  lies_by (form.Simple end) is = record { within = λ ordered. (lies end is).within }

  -- it lies in the input
  pub place_lies : PlaceLies size (place_of r)
  place_lies = lies_by r.form refl

  keyword_kept_by : (input : List ℕ) (f : Form) → r.form ≡ f
      → keyword_by input (place_by r.start f).start f ≡ keyword_by input r.start f
  keyword_kept_by input form.Complex is = refl
  keyword_kept_by input (form.Simple end) is = refl

  -- the keyword
  pub keyword_kept : (input : List ℕ) → keyword_by input (place_of r).start (form_of (place_of r))
      ≡ keyword_by input r.start r.form
  keyword_kept input =
      ap (keyword_by input (place_of r).start) form_kept ∙ keyword_kept_by input r.form refl
