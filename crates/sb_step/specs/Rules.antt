-- Rules of a grammar over lexemes. A rule is said of a list and of what is left behind it: the list
-- begins with what the rule describes, and the rest follows directly.
use Rattle.std.specs.Prelude.{◌≡◌, List, [], ◌∷◌}
use Rattle.sb_step.specs.Lexemes.{Lexeme}

-- a list, and the rest of it behind what the rule describes
abbrev pub Rule : Type 1
Rule = List Lexeme → List Lexeme → Type 0

-- one lexeme that is so
abbrev pub One : (Lexeme → Type 0) → Rule
One P [] rest = ⊥
One P (x ∷ xs) rest = P x × (rest ≡ xs)

-- what the first rule describes, and directly behind it what the second does
pub record Joined (P Q : Rule) (xs rest : List Lexeme) : Type 0 where
  pub middle : List Lexeme
  pub first : P xs middle
  pub second : Q middle rest

infixr 6 ◌⋅◌
-- `P ⋅ Q ⋅ R`: each directly behind the one before
abbrev pub ◌⋅◌ : Rule → Rule → Rule
P ⋅ Q = Joined P Q

-- any number of times, none too
pub data Many (P : Rule) : List Lexeme → List Lexeme → Type 0 where
  none : {xs : List Lexeme} → Many P xs xs
  more : {xs ys zs : List Lexeme} → P xs ys → Many P ys zs → Many P xs zs

-- one of each item of the list, in order
abbrev pub Each : {A : Type 0} → (A → Rule) → List A → Rule
Each P [] xs rest = rest ≡ xs
Each P (a ∷ items) xs rest = Joined (P a) (Each P items) xs rest

-- the same, of one item or more
abbrev pub SomeOf : {A : Type 0} → (A → Rule) → List A → Rule
SomeOf P [] xs rest = ⊥
SomeOf P (a ∷ items) xs rest = Each P (a ∷ items) xs rest
