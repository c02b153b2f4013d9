-- Lists by rising numbers.
use Rattle.std.specs.Prelude.{◌≡◌, ℕ, ◌<◌, List, Option, Some}
use Rattle.theory_lists.specs.Members.{Stands, AllOfTwo}

-- the numbers rise
abbrev pub Rise : {X : Type 0} → (X → ℕ) → List X → Type 0
Rise number xs = AllOfTwo (λ x y. number x < number y) xs

-- by each number one of the items that have it is found, and nothing else
pub record HasEach {X : Type 0} (number : X → ℕ) (xs : List X) (found : ℕ → Option X) : Type 0 where
  pub sound : (q : ℕ) (x : X) → found q ≡ Some x → Stands x xs × (number x ≡ q)
  pub complete : (x : X) → Stands x xs → (y : X) × (found (number x) ≡ Some y)

-- of each number one of the items that have it, by rising numbers
pub record AreInOrder {X : Type 0} (number : X → ℕ) (xs ys : List X) : Type 0 where
  pub rise : Rise number ys
  pub sound : (y : X) → Stands y ys → Stands y xs
  pub complete : (x : X) → Stands x xs → (y : X) × Stands y ys × (number y ≡ number x)
