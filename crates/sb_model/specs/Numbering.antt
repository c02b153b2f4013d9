-- Numbers in order, and what they say of the products that have them.

use Rattle.std.specs.Prelude.{◌≡◌, ℕ, ◌==◌, Bool, ◌||◌, List}
use Rattle.std.specs.List.{list_any}
use Rattle.std.specs.List.Sorted.{IsNonDecreasingBy}
use Rattle.sb_model.specs.Building.{has_number}

-- the numbers do not fall
abbrev pub Rises : List ℕ → Type 0
Rises numbers = IsNonDecreasingBy (λ n. n) numbers

-- whether a number is one of them
abbrev pub has : List ℕ → ℕ → Bool
has numbers n = list_any (λ k. k == n) numbers

-- whether it is one of three lists
abbrev pub is_taken : List ℕ → List ℕ → List ℕ → ℕ → Bool
is_taken first second third n = has first n || has second n || has third n

-- the numbers are those of these products, each perhaps at another place
abbrev pub HasNumbersOf : {X : Type 0} → (X → ℕ) → List X → List ℕ → Type 0
HasNumbersOf number products numbers = (n : ℕ) → has numbers n ≡ has_number number products n
