-- What a shelf that never fails stands for: it tells what is read, and of an output only whether it
-- was created.
use Rattle.std.specs.Prelude.{ℕ, Bool, List, [], Some, None, if◌then◌else◌}
use Rattle.std.specs.Str.{bytes_eq}
use Rattle.sb_shelf.specs.declared.steady.SteadyShelf.{SteadyShelf}
use Rattle.sb_shelf.specs.World.{World, created_of}
use Rattle.sb_shelf.specs.Input.{left_of}

-- From the path that is held, the bytes under it, what is left of them, and which files are
-- created. A path that is not held has no bytes, and the three counts are 0.
abbrev pub never_failing : List ℕ → List ℕ → List ℕ → Bool → Bool → Bool → World
never_failing held bytes left ifc idf report = record {
  under = λ path. Some (if bytes_eq path held then bytes else []);
  left = Some left;
  is_created = created_of ifc idf report;
  bytes = λ _. None;
  asked_inputs = None;
  asked_outputs = None;
  read_faults = 0;
  file_faults = 0;
  said_faults = 0;
}

-- the world that such a shelf stands for
abbrev pub steady_state : SteadyShelf → World
steady_state s =
    never_failing s.input.path s.input.bytes (left_of s.input) s.has_ifc s.has_idf s.has_report
