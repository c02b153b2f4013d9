-- What a shelf stands for: what can be read, what was written, and how often its calls have failed.
use Rattle.std.specs.Prelude.{◌≡◌, ◌≢◌, ℕ, ◌+◌, ◌≤◌, min, Bool, false, true, List, ◌++◌}
use Rattle.std.specs.Prelude.{Option, is_some}
use Rattle.std.specs.Option.{option_map}
use Rattle.sb_shelf.specs.declared.shelf.Out.{Out}
use Rattle.sb_shelf.specs.declared.shelf.Out.TheVariants.{Ifc, Idf, Report, Said}

-- what one call of `create` asks for
pub record AskedOutput : Type 0 where
  pub out : Out
  pub path : List ℕ

-- A shelf at one moment. `None` stands where the shelf does not tell.
pub record World : Type 0 where
  -- the bytes under each path
  pub under : List ℕ → Option (List ℕ)
  -- what is left to read
  pub left : Option (List ℕ)
  -- whether an output was created
  pub is_created : Out → Bool
  -- the bytes on an output
  pub bytes : Out → Option (List ℕ)
  -- the paths asked of `open`, in order, those of failed calls too
  pub asked_inputs : Option (List (List ℕ))
  -- what was asked of `create`, in order, by failed calls too
  pub asked_outputs : Option (List AskedOutput)
  -- how often opening and reading have failed
  pub read_faults : ℕ
  -- how often creating, and writing to the three files, have failed
  pub file_faults : ℕ
  -- how often writing the message has failed
  pub said_faults : ℕ

-- what was asked before and then these, where it is told
abbrev pub also_asked : {T : Type 0} → Option (List T) → List T → Option (List T)
also_asked before more = option_map (λ asked. asked ++ more) before

-- the last value of a count, 2^64 - 1, at which it stays
abbrev pub last_count : ℕ
last_count = 18446744073709551615

-- a count after one more
abbrev pub one_more : ℕ → ℕ
one_more count = min (count + 1) last_count

-- the count rose: it is greater now than it was before, or stands at its last value
abbrev pub Rose : ℕ → ℕ → Type 0
Rose before now = one_more before ≤ now

-- the count of failed writes to this output
abbrev pub faults_of : Out → World → ℕ
faults_of Ifc s = s.file_faults
faults_of Idf s = s.file_faults
faults_of Report s = s.file_faults
faults_of Said s = s.said_faults

-- the count of failed writes that writes to this output do not change
abbrev pub other_faults_of : Out → World → ℕ
other_faults_of Ifc s = s.said_faults
other_faults_of Idf s = s.said_faults
other_faults_of Report s = s.said_faults
other_faults_of Said s = s.file_faults

-- which outputs are created: each file as given, and the message always
abbrev pub created_of : Bool → Bool → Bool → Out → Bool
created_of ifc idf report Ifc = ifc
created_of ifc idf report Idf = idf
created_of ifc idf report Report = report
created_of ifc idf report Said = true

-- none of the three files is created
pub record IsUntouched (s : World) : Type 0 where
  pub ifc : s.is_created Ifc ≡ false
  pub idf : s.is_created Idf ≡ false
  pub report : s.is_created Report ≡ false

-- an output is as it was
pub record SameOut (out : Out) (old new : World) : Type 0 where
  pub is_created : new.is_created out ≡ old.is_created out
  pub bytes : new.bytes out ≡ old.bytes out

-- Of the world only what is left to read and what was asked of `open` have changed, and the count
-- of read faults has not fallen. Whether it is told what is left stays.
pub record OnlyReads (old new : World) : Type 0 where
  pub under : (path : List ℕ) → new.under path ≡ old.under path
  pub tells_left : is_some new.left ≡ is_some old.left
  pub outs : (out : Out) → SameOut out old new
  pub asked_outputs : new.asked_outputs ≡ old.asked_outputs
  pub read_faults : old.read_faults ≤ new.read_faults
  pub file_faults : new.file_faults ≡ old.file_faults
  pub said_faults : new.said_faults ≡ old.said_faults

-- What can be read and what was asked of `open` are as they were, and so are the other outputs. Whether the bytes on this one are
-- told stays.
pub record OnlyOutput (out : Out) (old new : World) : Type 0 where
  pub under : (path : List ℕ) → new.under path ≡ old.under path
  pub left : new.left ≡ old.left
  pub others : (other : Out) → other ≢ out → SameOut other old new
  pub tells_bytes : is_some (new.bytes out) ≡ is_some (old.bytes out)
  pub asked_inputs : new.asked_inputs ≡ old.asked_inputs
  pub read_faults : new.read_faults ≡ old.read_faults

-- Of the world only the bytes on this output have changed, and the count of its faults has not
-- fallen. What is created and what was asked for stay.
pub record OnlyWrites (out : Out) (old new : World) : Type 0 where
  pub output : OnlyOutput out old new
  pub is_created : new.is_created out ≡ old.is_created out
  pub asked_outputs : new.asked_outputs ≡ old.asked_outputs
  pub own_faults : faults_of out old ≤ faults_of out new
  pub other_faults : other_faults_of out new ≡ other_faults_of out old
