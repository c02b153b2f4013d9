-- What a shelf over real files stands for: it tells no bytes.
use Rattle.std.specs.Prelude.{ℕ, Bool, None}
use Rattle.sb_shelf.specs.World.{World, created_of}

-- from which files are created, and from the three counts of faults
abbrev pub host_state : Bool → Bool → Bool → ℕ → ℕ → ℕ → World
host_state ifc idf report read_count file_count said_count = record {
  under = λ _. None;
  left = None;
  is_created = created_of ifc idf report;
  bytes = λ _. None;
  asked_inputs = None;
  asked_outputs = None;
  read_faults = read_count;
  file_faults = file_count;
  said_faults = said_count;
}
