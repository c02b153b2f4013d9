-- Things that are numbered in order of first use: each stands once in a list, and its number is its place
-- there, from 1.

use Rattle.std.specs.Prelude.{ℕ, suc, Bool, ◌++◌, List, [], ◌∷◌, if◌then◌else◌}
use Rattle.std.specs.List.{list_any}

module _ {X : Type 0} (same : X → X → Bool) where
  -- one of the list is the same as this
  abbrev pub has : List X → X → Bool
  has xs x = list_any (same x) xs

  -- the list with this behind it, unless it has it
  abbrev pub with_new : List X → X → List X
  with_new xs x = if has xs x then xs else xs ++ x ∷ []

  -- the list with each of these in turn
  abbrev pub with_all : List X → List X → List X
  with_all found [] = found
  with_all found (x ∷ xs) = with_all (with_new found x) xs

  -- each of these once, in order of first use
  abbrev pub each_once : List X → List X
  each_once xs = with_all [] xs

  -- the number of this: the place of the first that is the same, from 1; behind the last where there is none
  abbrev pub number_in : List X → X → ℕ
  number_in [] x = 1
  number_in (y ∷ ys) x = if same x y then 1 else suc (number_in ys x)

-- texts of things in turn, each made of its number and of what it is; the numbers rise from this one
abbrev pub in_order : {X : Type 0} → (ℕ → X → List ℕ) → ℕ → List X → List ℕ
in_order text n [] = []
in_order text n (x ∷ xs) = text n x ++ in_order text (suc n) xs
