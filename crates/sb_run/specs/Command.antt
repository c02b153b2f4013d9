-- The command: which words are one, and what they ask for.
use Rattle.std.specs.Prelude.{ℕ, Bool, not, ◌&&◌, List, [], ◌∷◌, take, codes, Option}
use Rattle.std.specs.Prelude.{Some, None, if◌then◌else◌}
use Rattle.std.specs.Str.{bytes_eq}

-- the model to read, and where the report is to stand: two paths
pub record Command : Type 0 where
  pub model : List ℕ
  pub report : List ℕ

-- a value is not empty and does not begin with `-`
abbrev pub is_value : List ℕ → Bool
is_value word = not (bytes_eq word []) && not (bytes_eq (take 1 word) (codes "-"))

-- `demo:3` is no path
abbrev pub is_generated : List ℕ → Bool
is_generated word = bytes_eq (take 5 word) (codes "demo:")

-- the two paths of a command
abbrev pub are_paths : List ℕ → List ℕ → Bool
are_paths model report =
    is_value model && is_value report && not (bytes_eq model report) && not (is_generated model)

-- the command is `MODEL --report C`, and nothing else
abbrev pub command : List (List ℕ) → Option Command
command (model ∷ option ∷ report ∷ []) =
    if bytes_eq option (codes "--report") && are_paths model report
    then Some (record { model = model; report = report })
    else None
command _ = None
