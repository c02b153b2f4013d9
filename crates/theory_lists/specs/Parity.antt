-- Exclusive or, and the parity of how often a test answers true in a list.
use Rattle.std.specs.Prelude.{Bool, true, false, not, List, [], ◌∷◌}

-- exclusive or: the two answers are different
abbrev pub differ : Bool → Bool → Bool
differ true b = not b
differ false b = b

-- the test answers true at an odd number of places of the list
abbrev pub is_odd_number : {X : Type 0} → (X → Bool) → List X → Bool
is_odd_number test [] = false
is_odd_number test (x ∷ xs) = differ (test x) (is_odd_number test xs)
