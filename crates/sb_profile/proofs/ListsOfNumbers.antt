-- What stands in lists that are filtered, mapped or joined, and a loop's step of such lists.
use Rattle.std.proofs.Common.{eqb, IsPermutation, ◌↔◌, zero, suc, ◌≡◌, ℕ, ◌+◌, ◌<◌, ◌⊎◌, inl, inr, nat_eq, Bool, true, false, ◌||◌, ◌&&◌, List, [], ◌∷◌, ◌++◌, length, get_or, take, Option, Some, None, refl, sym, ap, ◌∙◌, subst, append_assoc, arith}
use Rattle.std.specs.Prelude.{filter_map, find, option_to_list, if◌then◌else◌}
use Rattle.std.specs.List.{list_any, flat_map, cons_option, dedup, Contains}
use Rattle.std.proofs.lemmas.Grind.{flat_map-append}
use Rattle.std.proofs.lemmas.List.{take_more, append-nil}
use Rattle.std.proofs.lemmas.List.Elements.{filter_map-append}
use Rattle.std.proofs.lemmas.List.Folds.{list_any_more}
use Rattle.std.proofs.lemmas.List.Kept.{Contains-dedup_nat, Contains-from_dedup}
use Rattle.std.proofs.lemmas.List.Sorted.{IsPermutation-sym}
use Rattle.std.proofs.lemmas.Bool.{false≢true, or_left, or_right, eqb-true, eq-eqb}
use Rattle.theory_lists.specs.Members.{Stands}
use Rattle.theory_lists.proofs.InAnyOrder.{stands_permuted}

one_mapped : {Y : Type 0} (o : Option Y) → cons_option o [] ≡ option_to_list o
one_mapped None = refl
one_mapped (Some y) = refl

pub filter_map_more : {Y : Type 0} (h : ℕ → Option Y) (xs : List ℕ) (i : ℕ) → i < length xs
    → filter_map h (take i xs) ++ option_to_list (h (get_or xs i 0)) ≡ filter_map h (take (i + 1) xs)
filter_map_more h xs i within =
    sym (ap (filter_map h) (take_more xs i 0 within)
    ∙ (filter_map-append h (take i xs) (get_or xs i 0 ∷ [])
    ∙ ap (λ ys. filter_map h (take i xs) ++ ys) (one_mapped (h (get_or xs i 0)))))

-- ---- membership, as a test and as a fact

pub any_stands : (q : ℕ) (xs : List ℕ) → list_any (nat_eq q) xs ≡ true → Stands q xs
any_stands q [] any = absurd (false≢true any)
any_stands q (x ∷ xs) any = by_first (nat_eq q x) refl any (any_stands q xs)
  where
    by_first : (b : Bool) → nat_eq q x ≡ b → list_any (nat_eq q) (x ∷ xs) ≡ true
        → (list_any (nat_eq q) xs ≡ true → Stands q xs) → Stands q (x ∷ xs)
    by_first true same any later = inl (eqb-true q x same)
    by_first false apart any later =
        inr (later (sym (ap (λ b. b || list_any (nat_eq q) xs) apart) ∙ any))

pub stands_any : (q : ℕ) (xs : List ℕ) → Stands q xs → list_any (nat_eq q) xs ≡ true
stands_any q [] stands = absurd stands
stands_any q (x ∷ xs) (inl same) =
    or_left (nat_eq q x) (list_any (nat_eq q) xs) (eq-eqb q x same)
stands_any q (x ∷ xs) (inr later) =
    or_right (nat_eq q x) (list_any (nat_eq q) xs) (stands_any q xs later)

-- what stands in two lists joined stands in one of them
pub stands_either : {X : Type 0} (x : X) (xs ys : List X) → Stands x (xs ++ ys)
    → Stands x xs ⊎ Stands x ys
stands_either x [] ys stands = inr stands
stands_either x (y ∷ xs) ys (inl same) = inl (inl same)
stands_either x (y ∷ xs) ys (inr later) = one (stands_either x xs ys later)
  where
    one : Stands x xs ⊎ Stands x ys → Stands x (y ∷ xs) ⊎ Stands x ys
    one (inl there) = inl (inr there)
    one (inr there) = inr there

-- what a list has at a place stands in it
pub stands_here : (xs : List ℕ) (i : ℕ) → i < length xs → Stands (get_or xs i 0) xs
stands_here [] i within = absurd (omega arith)
stands_here (x ∷ xs) zero within = inl refl
stands_here (x ∷ xs) (suc i) within = inr (stands_here xs i (omega arith))

-- a loop's step of lists joined
pub flat_map_more : {Y : Type 0} (f : ℕ → List Y) (xs : List ℕ) (i : ℕ) → i < length xs
    → flat_map f (take i xs) ++ f (get_or xs i 0) ≡ flat_map f (take (i + 1) xs)
flat_map_more f xs i within =
    sym (ap (flat_map f) (take_more xs i 0 within)
    ∙ (flat_map-append f (take i xs) (get_or xs i 0 ∷ [])
    ∙ ap (λ ys. flat_map f (take i xs) ++ ys) (append-nil (f (get_or xs i 0)))))

-- membership by places of std, and as it is defined here
stands_contains : (x : ℕ) (xs : List ℕ) → Stands x xs → Contains xs x
stands_contains x [] stands = absurd stands
stands_contains x (y ∷ xs) (inl same) = (0, omega arith, sym same)
stands_contains x (y ∷ xs) (inr later) = behind (stands_contains x xs later)
  where
    behind : Contains xs x → Contains (y ∷ xs) x
    behind (k, within, here) = (suc k, omega arith, here)

contains_stands : (x : ℕ) (xs : List ℕ) → Contains xs x → Stands x xs
contains_stands x [] (k, within, here) = absurd (omega arith)
contains_stands x (y ∷ xs) (zero, within, here) = inl (sym here)
contains_stands x (y ∷ xs) (suc k, within, here) =
    inr (contains_stands x xs (k, omega arith, here))

-- numbers in order, each once, have the same members
pub once_in_order : (xs sorted once : List ℕ) → IsPermutation xs sorted → once ≡ dedup eqb sorted
    → (n : ℕ) → Stands n once ↔ Stands n xs
once_in_order xs sorted once permuted is n = (
  λ stands. stands_permuted n sorted xs (IsPermutation-sym xs sorted permuted)
      (contains_stands n sorted
      (Contains-from_dedup eqb sorted n
      (stands_contains n (dedup eqb sorted) (subst (Stands n) is stands)))),
  λ stands. subst (Stands n) (sym is)
      (contains_stands n (dedup eqb sorted)
      (Contains-dedup_nat sorted n
      (stands_contains n sorted (stands_permuted n xs sorted permuted stands)))),
)

-- lists of products
pub filter_map_next : {X Y : Type 0} (h : X → Option Y) (xs : List X) (i : ℕ) (d : X)
    (before now next : List Y) → i < length xs → now ≡ before ++ filter_map h (take i xs)
    → next ≡ now ++ option_to_list (h (get_or xs i d)) → next ≡ before ++ filter_map h (take (i + 1) xs)
filter_map_next h xs i d before now next within was is =
    is
    ∙ (ap (λ ys. ys ++ option_to_list (h (get_or xs i d))) was
    ∙ (append_assoc before (filter_map h (take i xs)) (option_to_list (h (get_or xs i d)))
    ∙ ap (λ ys. before ++ ys)
    (ap (λ ys. filter_map h (take i xs) ++ ys) (sym (one_mapped (h (get_or xs i d))))
    ∙ (sym (filter_map-append h (take i xs) (get_or xs i d ∷ []))
    ∙ ap (filter_map h) (sym (take_more xs i d within))))))

pub flat_map_next : {X Y : Type 0} (f : X → List Y) (xs : List X) (i : ℕ) (d : X)
    (before now next : List Y) → i < length xs → now ≡ before ++ flat_map f (take i xs)
    → next ≡ now ++ f (get_or xs i d) → next ≡ before ++ flat_map f (take (i + 1) xs)
flat_map_next f xs i d before now next within was is =
    is
    ∙ (ap (λ ys. ys ++ f (get_or xs i d)) was
    ∙ (append_assoc before (flat_map f (take i xs)) (f (get_or xs i d))
    ∙ ap (λ ys. before ++ ys)
    (ap (λ ys. flat_map f (take i xs) ++ ys) (sym (append-nil (f (get_or xs i d))))
    ∙ (sym (flat_map-append f (take i xs) (get_or xs i d ∷ []))
    ∙ ap (flat_map f) (sym (take_more xs i d within))))))

-- a set of those of a list that pass
pub passing_more : (test : ℕ → Bool) (xs : List ℕ) (i q : ℕ) (b now next : Bool) → i < length xs
    → now ≡ (list_any (nat_eq q) (take i xs) && test q) → b ≡ test (get_or xs i 0)
    → next ≡ (now || (nat_eq q (get_or xs i 0) && b))
    → next ≡ (list_any (nat_eq q) (take (i + 1) xs) && test q)
passing_more test xs i q b now next within was tested is =
    is ∙ (ap (λ k. k || (nat_eq q (get_or xs i 0) && b)) was
    ∙ (by_number (nat_eq q (get_or xs i 0)) refl
    ∙ ap (λ k. k && test q) (sym (list_any_more (nat_eq q) xs i 0 within))))
  where
    any : Bool
    any = list_any (nat_eq q) (take i xs)

    joined : (a t : Bool) → (a && t) || (true && t) ≡ ((a || true) && t)
    joined true true = refl
    joined true false = refl
    joined false true = refl
    joined false false = refl

    apart : (a t : Bool) → (a && t) || false ≡ ((a || false) && t)
    apart true true = refl
    apart true false = refl
    apart false true = refl
    apart false false = refl

    by_number : (e : Bool) → nat_eq q (get_or xs i 0) ≡ e
        → (list_any (nat_eq q) (take i xs) && test q) || (nat_eq q (get_or xs i 0) && b)
        ≡ ((list_any (nat_eq q) (take i xs) || nat_eq q (get_or xs i 0)) && test q)
    by_number true same =
        let here : b ≡ test q = tested ∙ ap test (sym (eqb-true q (get_or xs i 0) same)) in
        rw (same, here) (joined (list_any (nat_eq q) (take i xs)) (test q))
    by_number false other = rw other (apart (list_any (nat_eq q) (take i xs)) (test q))

-- the first that passes, where two tests agree on the list
pub find_same : (one two : ℕ → Bool) (xs : List ℕ) → ((n : ℕ) → Stands n xs → one n ≡ two n)
    → find one xs ≡ find two xs
find_same one two [] same = refl
find_same one two (x ∷ xs) same =
    ap (λ b. if b then Some x else find one xs) (same x (inl refl))
    ∙ ap (λ o. if two x then Some x else o) (find_same one two xs (λ n there. same n (inr there)))
