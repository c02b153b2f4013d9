-- Where the keyword of an instance stands, as it is kept, and how it is found by the number.
use Rattle.std.specs.Prelude.{ℕ, ◌≤◌, nat_lt, nat_eq, if◌then◌else◌, List, Option, option_map}
use Rattle.std.specs.Map.{lookup}
use Rattle.sb_step.specs.declared.step_file.records.Form.{Form}
use Rattle.sb_step.specs.declared.step_file.records.Form.TheVariants as form
use Rattle.sb_step.specs.declared.step_file.records.Record.{Record}
use Rattle.sb_step.specs.declared.step_file.table.Place.{Place}

-- where the keyword of a record stands: that of a complex one would end before it begins
abbrev pub place_by : ℕ → Form → Place
place_by start (form.Simple end) = record { start = start; keyword_end = end }
place_by start form.Complex = record { start = 1; keyword_end = 0 }

abbrev pub place_of : Record → Place
place_of r = place_by r.start r.form

-- the form of the record
abbrev pub form_of : Place → Form
form_of p = if nat_lt p.keyword_end p.start then form.Complex else form.Simple p.keyword_end

-- the place of the instance of the number, if there is one
abbrev pub place_at : List (ℕ × Record) → ℕ → Option Place
place_at instances n = option_map place_of (lookup (nat_eq n) instances)

-- the keyword that a place tells lies in an input so long
pub record PlaceLies (size : ℕ) (p : Place) : Type 0 where
  pub within : p.start ≤ p.keyword_end → p.keyword_end ≤ size
