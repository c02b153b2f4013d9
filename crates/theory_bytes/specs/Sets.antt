-- Sets of byte strings, and how they are put together. A set is the fact of being in it.
use Rattle.std.specs.Prelude.{◌≡◌, ℕ, ◌⊎◌, Bool, false, List, [], ◌∷◌, ◌++◌, IsTrue}
use Rattle.std.specs.List.{list_all, concat, AllByRecursion}

-- just this text
abbrev pub Text : List ℕ → List ℕ → Type 0
Text text xs = xs ≡ text

-- one byte that passes the test
pub record Byte (test : ℕ → Bool) (xs : List ℕ) : Type 0 where
  pub byte : ℕ
  pub passes : IsTrue (test byte)
  pub alone : xs ≡ byte ∷ []

-- any number of bytes that pass, none too
abbrev pub Bytes : (ℕ → Bool) → List ℕ → Type 0
Bytes test xs = IsTrue (list_all test xs)

-- a string of the first set and directly behind it one of the second
pub record Joined (P Q : List ℕ → Type 0) (xs : List ℕ) : Type 0 where
  pub front : List ℕ
  pub back : List ℕ
  pub joined : xs ≡ front ++ back
  pub first : P front
  pub second : Q back

infixr 6 ◌⋅◌
-- `P ⋅ Q ⋅ R`: a string of each, one directly behind the other
abbrev pub ◌⋅◌ : (List ℕ → Type 0) → (List ℕ → Type 0) → List ℕ → Type 0
P ⋅ Q = Joined P Q

-- one byte that passes, or more
abbrev pub SomeBytes : (ℕ → Bool) → List ℕ → Type 0
SomeBytes test = Byte test ⋅ Bytes test

-- a string of the set, or nothing
abbrev pub Optional : (List ℕ → Type 0) → List ℕ → Type 0
Optional P xs = (xs ≡ []) ⊎ P xs

-- any number of strings of the set, one directly behind the other
pub record Repeated (P : List ℕ → Type 0) (xs : List ℕ) : Type 0 where
  pub pieces : List (List ℕ)
  pub each : AllByRecursion P pieces
  pub joined : xs ≡ concat pieces

-- a string of the set stands at the front
pub record Begins (P : List ℕ → Type 0) (xs : List ℕ) : Type 0 where
  pub front : List ℕ
  pub rest : List ℕ
  pub joined : xs ≡ front ++ rest
  pub is : P front

-- the text stands somewhere in the string
pub record Holds (text xs : List ℕ) : Type 0 where
  pub before : List ℕ
  pub after : List ℕ
  pub found : xs ≡ before ++ (text ++ after)

-- the first byte passes the test; there is one
abbrev pub begins_with : (ℕ → Bool) → List ℕ → Bool
begins_with test [] = false
begins_with test (b ∷ bs) = test b
