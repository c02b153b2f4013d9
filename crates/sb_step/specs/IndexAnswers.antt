-- What `index` answers.
use Rattle.std.specs.Prelude.{◌≡◌, ◌≢◌, ℕ, List, map, Result, Ok, Err}
use Rattle.sb_step.specs.declared.error.StepError.{StepError}
use Rattle.sb_step.specs.declared.error.StepError.TheVariants as step_error
use Rattle.sb_step.specs.Grammar.{File}
use Rattle.sb_step.specs.Faults.{IsFile, IsFaultAt}
use Rattle.sb_step.specs.Numbers.{numbers_of, AreApart, IsLeastTwice}
use Rattle.sb_step.specs.Indexed.{Indexed}
use Rattle.sb_step.specs.declared.step_file.schema.Schema.{Schema}
use Rattle.sb_step.specs.declared.step_file.table.Place.{Place}
use Rattle.sb_step.specs.declared.step_file.table.Row.{Row}
use Rattle.sb_step.specs.Records.SchemaReading.{SchemaSays}
use Rattle.sb_step.specs.Records.Table.{place_of}
use Rattle.sb_step.specs.Records.Rows.{IsTable}

-- the input is this file, and no number is used twice in it
pub record IsIndexed (input : List ℕ) (indexed : Indexed) : Type 0 where
  pub input_is : indexed.input ≡ input
  pub file : IsFile input indexed.file
  pub apart : AreApart indexed.file.instances

-- What is held of a file that was indexed: where its schema stands, the numbers of its instances in
-- file order and where their keywords stand, and the table by number.
pub record IsHeld (schema : Schema) (numbers : List ℕ) (places : List Place) (rows : List Row)
    (data_end : ℕ) (indexed : Indexed) : Type 0 where
  pub is : IsIndexed indexed.input indexed
  pub schema_is : SchemaSays indexed.input indexed.file.header schema
  pub numbers_are : numbers ≡ numbers_of indexed.file.instances
  pub places_are : places ≡ map (λ i. place_of i.1) indexed.file.instances
  pub table : IsTable (numbers_of indexed.file.instances) rows
  pub end_is : data_end ≡ indexed.file.data_end

-- the input is a file, and this is the least of the numbers that are used twice in it
pub record HasDoubled (input : List ℕ) (n : ℕ) : Type 0 where
  pub file : File
  pub is : IsFile input file
  pub least : IsLeastTwice n file.instances

-- the answer is so; want of memory may come at any time
abbrev pub IsAnswer : List ℕ → Result Indexed StepError → Type 0
IsAnswer input (Ok indexed) = IsIndexed input indexed
IsAnswer input (Err (step_error.Syntax place)) = IsFaultAt input place
IsAnswer input (Err (step_error.Duplicate n)) = HasDoubled input n
IsAnswer input (Err step_error.NoMemory) = Unit {0}

-- there was memory enough for an answer
abbrev pub IsInTime : Result Indexed StepError → Type 0
IsInTime answer = answer ≢ Err step_error.NoMemory
