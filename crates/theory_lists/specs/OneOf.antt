-- Exactly one place of a list passes a test, or at most one, or none does.
use Rattle.std.specs.Prelude.{◌≡◌, Bool, true, false, List, [], ◌∷◌}
use Rattle.std.specs.Bool.{MatchBool}
use Rattle.std.specs.List.{list_any}
use Rattle.theory_lists.specs.Members.{AllOfTwo}

-- exactly one place of the list passes the test
abbrev pub ExactlyOne : {X : Type 0} → (X → Bool) → List X → Type 0
ExactlyOne test [] = ⊥
ExactlyOne test (x ∷ xs) = MatchBool (test x) (list_any test xs ≡ false) (ExactlyOne test xs)

-- at most one place of the list passes the test: no two places do
abbrev pub AtMostOne : {X : Type 0} → (X → Bool) → List X → Type 0
AtMostOne test xs = AllOfTwo (λ x y. test x ≡ true → test y ≡ true → ⊥) xs

-- no place of the list passes the test
abbrev pub NoneOf : {X : Type 0} → (X → Bool) → List X → Type 0
NoneOf test xs = list_any test xs ≡ false
