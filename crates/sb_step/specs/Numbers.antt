-- The numbers that the instances of a text use, how often, and the greatest.
use Rattle.std.specs.Prelude.{◌≡◌, ℕ, ◌≤◌, ◌==◌, List, [], ◌∷◌, map, count_by}
use Rattle.sb_step.specs.declared.step_file.records.Record.{Record}

-- the numbers in file order
abbrev pub numbers_of : List (ℕ × Record) → List ℕ
numbers_of instances = map (λ i. i.0) instances

-- how many instances have the number; zeros before its digits make no difference
abbrev pub uses : ℕ → List (ℕ × Record) → ℕ
uses n instances = count_by (λ i. i.0 == n) instances

-- an instance has the number
abbrev pub IsUsed : ℕ → List (ℕ × Record) → Type 0
IsUsed n instances = 1 ≤ uses n instances

-- two instances have the number, or more
abbrev pub IsUsedTwice : ℕ → List (ℕ × Record) → Type 0
IsUsedTwice n instances = 2 ≤ uses n instances

-- no two instances have one number
abbrev pub AreApart : List (ℕ × Record) → Type 0
AreApart instances = (n : ℕ) → uses n instances ≤ 1

-- the least of the numbers that are used twice
pub record IsLeastTwice (n : ℕ) (instances : List (ℕ × Record)) : Type 0 where
  pub twice : IsUsedTwice n instances
  pub least : (m : ℕ) → IsUsedTwice m instances → n ≤ m

-- an instance has the number, and none has a greater one
pub record IsGreatestUsed (n : ℕ) (instances : List (ℕ × Record)) : Type 0 where
  pub used : IsUsed n instances
  pub greatest : (m : ℕ) → IsUsed m instances → m ≤ n

-- the greatest number, and 0 where there is no instance
abbrev pub IsGreatest : ℕ → List (ℕ × Record) → Type 0
IsGreatest n [] = n ≡ 0
IsGreatest n (i ∷ later) = IsGreatestUsed n (i ∷ later)
