-- Where the keyword of a record lies, and which it is.
use Rattle.std.specs.Prelude.{◌≡◌, ℕ, ◌≤◌, nat_eq, List, slice_range, Option, Some, None, option_and_then}
use Rattle.std.specs.Map.{lookup}
use Rattle.sb_step.specs.declared.step_file.records.Form.{Form}
use Rattle.sb_step.specs.declared.step_file.records.Form.TheVariants as form
use Rattle.sb_step.specs.declared.step_file.records.Record.{Record}
use Rattle.sb_step.specs.Indexed.{Indexed}

-- the keyword of a simple record lies in an input so long
pub record KeywordLies (size : ℕ) (r : Record) (end : ℕ) : Type 0 where
  pub ordered : r.start ≤ end
  pub within : end ≤ size

-- if the record is simple
abbrev pub RecordLies : ℕ → Record → Type 0
RecordLies size r = (end : ℕ) → r.form ≡ form.Simple end → KeywordLies size r end

-- the bytes of the keyword, if the record is simple
abbrev pub keyword_by : List ℕ → ℕ → Form → Option (List ℕ)
keyword_by input start (form.Simple end) = Some (slice_range input start end)
keyword_by input start form.Complex = None

-- the keyword of the instance of the number: none where there is no such, and where its record is
-- complex
abbrev pub keyword_of : Indexed → ℕ → Option (List ℕ)
keyword_of indexed n =
    option_and_then (λ r. keyword_by indexed.input r.start r.form)
    (lookup (nat_eq n) indexed.file.instances)
