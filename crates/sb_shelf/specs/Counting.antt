-- How calls are numbered and failed calls are counted.
use Rattle.std.specs.Prelude.{◌≡◌, ℕ, ◌<◌, ◌≤◌, ◌==◌, Bool, ◌||◌, nat_lt, if◌then◌else◌, List, length}
use Rattle.std.specs.Prelude.{Option, Some, None, Result, Ok, Err, IfOk, is_ok}
use Rattle.std.specs.Result.{result_ok}
use Rattle.std.specs.List.{list_any}
use Rattle.sb_shelf.specs.declared.shelf.Failed.{Failed}
use Rattle.sb_shelf.specs.declared.shelf.Out.{Out}
use Rattle.sb_shelf.specs.World.{World, one_more, faults_of}

-- whether the n-th call is one of the listed
abbrev pub is_among : List ℕ → ℕ → Bool
is_among listed n = list_any (λ call. call == n) listed

-- a count of failed calls after one more call, which failed or did not
abbrev pub count_after : {T : Type 0} → Result T Failed → ℕ → ℕ
count_after result count = if is_ok result then count else one_more count

-- the count of read faults is that of failed calls: one more after one that failed
abbrev pub CountsReads : {T : Type 0} → Result T Failed → World → World → Type 0
CountsReads result old new = new.read_faults ≡ count_after result old.read_faults

-- the same of the count of file faults
abbrev pub CountsCreates : {T : Type 0} → Result T Failed → World → World → Type 0
CountsCreates result old new = new.file_faults ≡ count_after result old.file_faults

-- the same of the count of writes to this output
abbrev pub CountsWrites : {T : Type 0} → Out → Result T Failed → World → World → Type 0
CountsWrites out result old new = faults_of out new ≡ count_after result (faults_of out old)

-- How many bytes of the piece the system took, by its answer to a write: it has to take some of a
-- piece that is not empty.
abbrev pub taken_by : {E : Type 0} → List ℕ → Result ℕ E → Option ℕ
taken_by piece (Ok n) = if nat_lt 0 n || length piece == 0 then Some n else None
taken_by piece (Err error) = None

-- The answer of a shelf to a write of this piece, and its count, by the answer of the system: so many
-- bytes were taken, at most the piece, or the call is counted as failed.
pub record IsCounted {E : Type 0} (piece : List ℕ) (answer : Result ℕ E)
    (result : Result ℕ Failed) (before now : ℕ) : Type 0 where
  pub same : result_ok result ≡ taken_by piece answer
  pub within : IfOk result (λ n. n ≤ length piece)
  pub some : IfOk result (λ n. 0 < length piece → 0 < n)
  pub count : now ≡ count_after result before
  pub no_fall : before ≤ now
