-- What holds of a list that is put together from blocks: what stands there, none, exactly one, each
-- one, each two.
use Rattle.std.proofs.Common.{◌≡◌, refl, sym, ap, ◌∙◌, inl, inr, Bool, true, false, ◌||◌}
use Rattle.std.proofs.Common.{List, [], ◌∷◌, ◌++◌}
use Rattle.std.specs.Bool.{MatchBool}
use Rattle.std.specs.List.{AllByRecursion, list_any}
use Rattle.std.proofs.lemmas.Bool.{or_parts, or_from, false≢true, false_from_ne_true}
use Rattle.theory_lists.specs.Members.{Stands, AllOfTwo}
use Rattle.theory_lists.specs.OneOf.{ExactlyOne, AtMostOne}
use Rattle.theory_lists.proofs.Members.{all_follow}

-- ---- what stands there

-- what stands in the first block
pub stands_before : {X : Type 0} (x : X) (xs ys : List X) → Stands x xs → Stands x (xs ++ ys)
stands_before x [] ys stands = absurd stands
stands_before x (y ∷ xs) ys (inl same) = inl same
stands_before x (y ∷ xs) ys (inr later) = inr (stands_before x xs ys later)

-- and in the second
pub stands_behind : {X : Type 0} (x : X) (xs ys : List X) → Stands x ys → Stands x (xs ++ ys)
stands_behind x [] ys stands = stands
stands_behind x (y ∷ xs) ys stands = inr (stands_behind x xs ys stands)

-- ---- any

-- none in either block
pub none-append : {X : Type 0} (test : X → Bool) (xs ys : List X)
    → list_any test xs ≡ false → list_any test ys ≡ false → list_any test (xs ++ ys) ≡ false
none-append test [] ys left right = right
none-append test (x ∷ xs) ys left right =
    let parts = or_parts (test x) (list_any test xs) left in
    or_from (test x) (list_any test (xs ++ ys)) parts.0 (none-append test xs ys parts.1 right)

-- and none in the two, none in each
pub none_in_parts : {X : Type 0} (test : X → Bool) (xs ys : List X)
    → list_any test (xs ++ ys) ≡ false → (list_any test xs ≡ false) × (list_any test ys ≡ false)
none_in_parts test [] ys none = (refl, none)
none_in_parts test (x ∷ xs) ys none =
    let parts = or_parts (test x) (list_any test (xs ++ ys)) none in
    let rest = none_in_parts test xs ys parts.1 in
    (or_from (test x) (list_any test xs) parts.0 rest.0, rest.1)

-- none where each item fails the test
pub none_where : {X : Type 0} (test : X → Bool) (xs : List X)
    → AllByRecursion (λ x. test x ≡ false) xs
    → list_any test xs ≡ false
none_where test [] all = refl
none_where test (x ∷ xs) all = or_from (test x) (list_any test xs) all.0 (none_where test xs all.1)

-- ---- exactly one

match_map : (b : Bool) (P Q R S : Type 0) → (P → R) → (Q → S) → MatchBool b P Q → MatchBool b R S
match_map true P Q R S to over h = to h
match_map false P Q R S to over h = over h

match_false : (b : Bool) (P Q : Type 0) → b ≡ false → Q → MatchBool b P Q
match_false b P Q e h = rw e h

match_true : (b : Bool) (P Q : Type 0) → b ≡ true → P → MatchBool b P Q
match_true b P Q e h = rw e h

-- the first item alone
pub first_alone : {X : Type 0} (test : X → Bool) (x : X) (xs : List X) → test x ≡ true
    → list_any test xs ≡ false → ExactlyOne test (x ∷ xs)
first_alone test x xs at others =
    match_true (test x) (list_any test xs ≡ false) (ExactlyOne test xs) at others

-- one behind the first item
pub one_behind : {X : Type 0} (test : X → Bool) (x : X) (xs : List X) → test x ≡ false
    → ExactlyOne test xs → ExactlyOne test (x ∷ xs)
one_behind test x xs not_here there =
    match_false (test x) (list_any test xs ≡ false) (ExactlyOne test xs) not_here there

-- at most one, and some
pub one_of_at_most : {X : Type 0} (test : X → Bool) (xs : List X) → AtMostOne test xs
    → list_any test xs ≡ true → ExactlyOne test xs
one_of_at_most test [] once some = absurd (false≢true some)
one_of_at_most test (x ∷ xs) once some = by (test x) refl (one_of_at_most test xs once.1)
  where
    by : (b : Bool) → test x ≡ b → (list_any test xs ≡ true → ExactlyOne test xs)
        → ExactlyOne test (x ∷ xs)
    by true passes rest =
        first_alone test x xs passes
        (none_where test xs
        (all_follow (λ y known. false_from_ne_true (test y) (known passes)) xs once.0))
    by false fails rest =
        one_behind test x xs fails
        (rest (sym (ap (λ b. b || list_any test xs) fails) ∙ some))

-- one in the first block, none in the second
pub one_in_first : {X : Type 0} (test : X → Bool) (xs ys : List X) → ExactlyOne test xs
    → list_any test ys ≡ false → ExactlyOne test (xs ++ ys)
one_in_first test [] ys one none = absurd one
one_in_first test (x ∷ xs) ys one none =
    match_map (test x) (list_any test xs ≡ false) (ExactlyOne test xs)
    (list_any test (xs ++ ys) ≡ false) (ExactlyOne test (xs ++ ys))
    (λ others. none-append test xs ys others none) (λ there. one_in_first test xs ys there none) one

-- none in the first block, one in the second
pub one_in_second : {X : Type 0} (test : X → Bool) (xs ys : List X) → list_any test xs ≡ false
    → ExactlyOne test ys → ExactlyOne test (xs ++ ys)
one_in_second test [] ys none one = one
one_in_second test (x ∷ xs) ys none one =
    let parts = or_parts (test x) (list_any test xs) none in
    one_behind test x (xs ++ ys) parts.0 (one_in_second test xs ys parts.1 one)

-- ---- each one

-- each item of both blocks
pub all-append : {X : Type 0} (P : X → Type 0) (xs ys : List X) → AllByRecursion P xs
    → AllByRecursion P ys → AllByRecursion P (xs ++ ys)
all-append P [] ys left right = right
all-append P (x ∷ xs) ys left right = (left.0, all-append P xs ys left.1 right)

-- what holds of each item of the two holds of each item of either
pub all_in_parts : {X : Type 0} (P : X → Type 0) (xs ys : List X) → AllByRecursion P (xs ++ ys)
    → AllByRecursion P xs × AllByRecursion P ys
all_in_parts P [] ys all = (tt, all)
all_in_parts P (x ∷ xs) ys all =
    let rest = all_in_parts P xs ys all.1 in ((all.0, rest.0), rest.1)

-- ---- each two

-- each two of a block, and each one of the first with each one of the second
pub two-append : {X : Type 0} (R : X → X → Type 0) (xs ys : List X) → AllOfTwo R xs → AllOfTwo R ys
    → AllByRecursion (λ x. AllByRecursion (R x) ys) xs → AllOfTwo R (xs ++ ys)
two-append R [] ys left right across = right
two-append R (x ∷ xs) ys left right across =
    (all-append (R x) xs ys left.0 across.0, two-append R xs ys left.1 right across.1)

-- what holds of each two of the two blocks together holds of each two of either, and of each one of
-- the first with each one of the second
pub two_in_parts : {X : Type 0} (R : X → X → Type 0) (xs ys : List X) → AllOfTwo R (xs ++ ys)
    → (AllOfTwo R xs × AllOfTwo R ys) × AllByRecursion (λ x. AllByRecursion (R x) ys) xs
two_in_parts R [] ys two = ((tt, two), tt)
two_in_parts R (x ∷ xs) ys two =
    let first = all_in_parts (R x) xs ys two.0 in
    let rest = two_in_parts R xs ys two.1 in
    (((first.0, rest.0.0), rest.0.1), (first.1, rest.1))
