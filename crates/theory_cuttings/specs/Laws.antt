-- The laws of cuttings that other crates rest on.
use Rattle.std.specs.Prelude.{◌≡◌, Bool, Decides, Option, List}
use Rattle.theory_numbers.specs.Arrows.{Arrow}
use Rattle.theory_cuttings.specs.Ends.{IsEnd}
use Rattle.theory_cuttings.specs.Cuttings.{Break, IsAlike, IsCutting, IsReducedCutting}
use Rattle.theory_cuttings.specs.Cuttings.{HasNoOddPoint}
use Rattle.theory_cuttings.specs.Changes.{squash}

-- one cutting: two reduced cuttings of one function are equal, as data
abbrev pub HasOneCutting : Type 0 → Type 0
HasOneCutting L =
    (f : Arrow → L) (low high : Option Arrow) → IsEnd low → IsEnd high
    → (first other : L) (breaks others : List (Break L))
    → IsReducedCutting f low high first breaks
    → IsReducedCutting f low high other others
    → (first ≡ other) × (breaks ≡ others)

-- squash: where no point is odd, dropping the needless breaks leaves a reduced cutting of the same
-- function. `same` is any test that tells whether two labels are equal
abbrev pub IsReducedBySquash : Type 0 → Type 0
IsReducedBySquash L =
    (f : Arrow → L) → IsAlike f
    → (same : L → L → Bool) → ((a b : L) → Decides (same a b) (a ≡ b))
    → (low high : Option Arrow) → IsEnd low → IsEnd high
    → (first : L) (breaks : List (Break L))
    → IsCutting f low high first breaks
    → HasNoOddPoint f first breaks
    → IsReducedCutting f low high first (squash same first breaks)
