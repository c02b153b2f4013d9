-- Of each number of a list one thing is read, number by number.
use Rattle.std.proofs.lemmas.List.{take_more, take_all}
use Rattle.std.proofs.Common.{◌≡◌, ◌<◌, ◌≤◌, ◌+◌, length, take, get_or, subst, ℕ, List, [], ◌∷◌, ◌++◌, drop, Some, None, slice_get, sym, ap, ◌∙◌, append_assoc, append-nil}
use Rattle.sb_prism.specs.Shapes.{AreEach}

-- of each number one thing, and of one number more
pub each_more : {X : Type 0} (Is : ℕ → X → Type 0) (ns : List ℕ) (xs : List X) (n : ℕ) (x : X)
    → AreEach Is ns xs → Is n x → AreEach Is (ns ++ n ∷ []) (xs ++ x ∷ [])
each_more Is [] [] n x are is = (is, tt)
each_more Is (m ∷ ns) (y ∷ ys) n x are is = (are.0, each_more Is ns ys n x are.1 is)
each_more Is [] (y ∷ ys) n x are is = absurd are
each_more Is (m ∷ ns) [] n x are is = absurd are

-- a loop's step
pub each_next : {X : Type 0} (Is : ℕ → X → Type 0) (ns : List ℕ) (xs : List X) (i : ℕ) (x : X) → i < length ns
    → AreEach Is (take i ns) xs → Is (get_or ns i 0) x → AreEach Is (take (i + 1) ns) (xs ++ x ∷ [])
each_next Is ns xs i x within are is =
    subst (λ ms. AreEach Is ms (xs ++ x ∷ [])) (sym (take_more ns i 0 within))
    (each_more Is (take i ns) xs (get_or ns i 0) x are is)

-- and its end
pub each_whole : {X : Type 0} (Is : ℕ → X → Type 0) (ns : List ℕ) (xs : List X) (i : ℕ) → length ns ≤ i
    → AreEach Is (take i ns) xs → AreEach Is ns xs
each_whole Is ns xs i past are = subst (λ ms. AreEach Is ms xs) (take_all i ns past) are

-- the first of those that are left is taken
pub one_taken : (all taken left rest : List ℕ) (n : ℕ) → all ≡ taken ++ left → Some n ≡ slice_get left 0
    → rest ≡ drop 1 left → all ≡ (taken ++ n ∷ []) ++ rest
one_taken all taken [] rest n is first behind = absurd (cc)
one_taken all taken (m ∷ left) rest n is first behind =
    let same : m ≡ n = cc in
    is ∙ (ap (λ k. taken ++ k ∷ left) same
    ∙ (sym (append_assoc taken (n ∷ []) left) ∙ ap (λ r. (taken ++ n ∷ []) ++ r) (sym behind)))

-- none is left
pub all_taken : (all taken left : List ℕ) → all ≡ taken ++ left → None ≡ slice_get left 0
    → taken ≡ all
all_taken all taken [] is none = sym (is ∙ append-nil taken)
all_taken all taken (m ∷ left) is none = absurd (cc)
