-- Lists that are made item by item.
use Rattle.std.proofs.Common.{◌≡◌, ℕ, ℤ, ◌<◌, ◌+◌, Bool, true, false, ◌&&◌, List, [], ◌∷◌, ◌++◌, map, take, length, get_or, refl, sym, ap, ap₂, ◌∙◌, subst}
use Rattle.std.specs.List.{list_all, flat_map}
use Rattle.sb_solid.specs.Spans.{Reaches}
use Rattle.std.proofs.lemmas.Bool.{and_from}
use Rattle.std.proofs.lemmas.List.{map-append, take_more, flat_map_more, append_assoc}
use Rattle.std.proofs.lemmas.List.Folds.{list_all-append, list_all_at}

-- the items so far, with the one at this place
pub taken : {X : Type 0} (xs : List X) (i : ℕ) (x : X) → i < length xs → x ≡ get_or xs i x
    → take (i + 1) xs ≡ take i xs ++ x ∷ []
taken xs i x within is = take_more xs i x within ∙ ap (λ y. take i xs ++ y ∷ []) (sym is)

pub mapped_more : {X Y : Type 0} (f : X → Y) (xs : List X) (i : ℕ) (x : X) (all : List Y) (y : Y)
    → i < length xs → x ≡ get_or xs i x → all ≡ map f (take i xs) → y ≡ f x
    → all ++ y ∷ [] ≡ map f (take (i + 1) xs)
mapped_more f xs i x all y within is so_far next =
    ap₂ (λ s t. s ++ t ∷ []) so_far next ∙ sym (map-append f (take i xs) (x ∷ []))
    ∙ ap (map f) (sym (taken xs i x within is))

pub all_more : {X : Type 0} (test : X → Bool) (xs : List X) (i : ℕ) (x : X)
    → i < length xs → x ≡ get_or xs i x → list_all test (take i xs) ≡ true → test x ≡ true
    → list_all test (take (i + 1) xs) ≡ true
all_more test xs i x within is so_far next =
    ap (list_all test) (taken xs i x within is) ∙ list_all-append test (take i xs) (x ∷ [])
    ∙ and_from (list_all test (take i xs)) (test x && true) so_far (and_from (test x) true next refl)

pub all_last : {X : Type 0} (test : X → Bool) (all : List X) (y : X) → list_all test all ≡ true → test y ≡ true
    → list_all test (all ++ y ∷ []) ≡ true
all_last test all y so_far next =
    list_all-append test all (y ∷ [])
    ∙ and_from (list_all test all) (test y && true) so_far (and_from (test y) true next refl)

-- one that fails
pub all_fails : {X : Type 0} (test : X → Bool) (xs : List X) (i : ℕ) (x : X) → i < length xs → x ≡ get_or xs i x
    → test x ≡ false → list_all test xs ≡ false
all_fails test xs i x within is fails = list_all_at test xs i x within (ap test (sym is) ∙ fails)

-- lists put together from those of each item
pub flat_more : {X Y : Type 0} (f : X → List Y) (xs : List X) (i : ℕ) (x : X) → i < length xs → x ≡ get_or xs i x
    → flat_map f (take i xs) ++ f x ≡ flat_map f (take (i + 1) xs)
flat_more f xs i x within is =
    flat_map_more f [] (take i xs) x ∙ ap (flat_map f) (sym (taken xs i x within is))

-- the extent of numbers and of what is read of the items so far
pub reaches_next : {X : Type 0} (numbers : List ℤ) (f : X → ℤ) (xs : List X) (i : ℕ) (x : X) (n low high : ℤ)
    → i < length xs → x ≡ get_or xs i x → n ≡ f x
    → Reaches ((numbers ++ map f (take i xs)) ++ n ∷ []) low high
    → Reaches (numbers ++ map f (take (i + 1) xs)) low high
reaches_next numbers f xs i x n low high within is next reaches =
    subst (λ l. Reaches l low high)
    (append_assoc numbers (map f (take i xs)) (n ∷ [])
    ∙ ap (λ l. numbers ++ l) (mapped_more f xs i x (map f (take i xs)) n within is refl next)) reaches

-- the same of what is made of what is read
pub reaches_further : {X : Type 0} (numbers : List ℤ) (g : ℤ → ℤ) (f : X → ℤ) (xs : List X) (i : ℕ) (x : X)
    (m n low high : ℤ) → i < length xs → x ≡ get_or xs i x → m ≡ f x → n ≡ g m
    → Reaches ((numbers ++ map g (map f (take i xs))) ++ n ∷ []) low high
    → Reaches (numbers ++ map g (map f (take (i + 1) xs))) low high
reaches_further numbers g f xs i x m n low high within is first next reaches =
    subst (λ l. Reaches l low high)
    (append_assoc numbers (map g (map f (take i xs))) (n ∷ [])
    ∙ ap (λ l. numbers ++ l)
    (ap (λ k. map g (map f (take i xs)) ++ k ∷ []) next ∙ sym (map-append g (map f (take i xs)) (m ∷ []))
    ∙ ap (map g) (mapped_more f xs i x (map f (take i xs)) m within is refl first))) reaches
