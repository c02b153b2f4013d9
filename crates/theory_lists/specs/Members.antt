-- Membership, each two items, and no item twice: by recursion on the list.
use Rattle.std.specs.Prelude.{◌≡◌, ◌⊎◌, List, [], ◌∷◌}
use Rattle.std.specs.List.{AllByRecursion}

-- x stands in the list
abbrev pub Stands : {X : Type 0} → X → List X → Type 0
Stands x [] = ⊥
Stands x (y ∷ ys) = (x ≡ y) ⊎ Stands x ys

-- the relation holds of each two items at different places of the list, the earlier one first
abbrev pub AllOfTwo : {X : Type 0} → (X → X → Type 0) → List X → Type 0
AllOfTwo R [] = Unit {0}
AllOfTwo R (x ∷ xs) = AllByRecursion (R x) xs × AllOfTwo R xs

-- no item stands at two places
abbrev pub AreOnce : {X : Type 0} → List X → Type 0
AreOnce xs = AllOfTwo (λ x y. x ≡ y → ⊥) xs
