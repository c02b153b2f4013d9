-- Lists that a test parts in two: what passes comes first.

use Rattle.std.specs.Prelude.{◌≡◌, ℕ, Bool, true, false, List, take, drop}
use Rattle.std.specs.List.{AllByRecursion}

-- the first n items of the list pass the test, and the others do not
pub record IsPartedAt {X : Type 0} (test : X → Bool) (n : ℕ) (xs : List X) : Type 0 where
  pub first : AllByRecursion (λ x. test x ≡ true) (take n xs)
  pub rest : AllByRecursion (λ x. test x ≡ false) (drop n xs)
