-- The file that an input describes, which nothing but clauses sees whole.
use Rattle.std.specs.Prelude.{◌≡◌, ℕ, List}
use mathlib.Core.HLevel.{is_prop→PathP}
use mathlib.Core.Logic.{∥∥₁_elim, ∥∥₁_prop}
use Rattle.std.proofs.Props.{props}
use Rattle.sb_step.specs.Grammar.{File}
use Rattle.sb_step.specs.Faults.{IsFile, FilesAreUnique}

-- the input describes this file
abbrev pub Described : List ℕ → Type 0
Described input = (file : File) × ∥ IsFile input file ∥₁

-- files are data
File-set : IsSet File
File-set = hlevel props

-- that files are unique can be so in one way
pub FilesAreUnique-prop : IsProp FilesAreUnique
FilesAreUnique-prop = hlevel (props, File-set)

-- where they are, there is one file
pub Described-prop : FilesAreUnique → (input : List ℕ) → IsProp (Described input)
Described-prop unique input one two =
    let same : one.0 ≡ two.0 = ∥∥₁_elim one.1 (File-set one.0 two.0)
    (λ a. ∥∥₁_elim two.1 (File-set one.0 two.0) (λ b. unique input one.0 two.0 a b)) in
    λ i. (same i, is_prop→PathP (λ j. ∥ IsFile input (same j) ∥₁) (λ j. ∥∥₁_prop) one.1 two.1 i)
