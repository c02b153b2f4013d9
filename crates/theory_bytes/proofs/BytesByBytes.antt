-- What a test says of each byte below a bound is found by computing it for all of them.
use Rattle.std.proofs.Common.{◌≡◌, ℕ, zero, suc, ◌<◌, Bool, true, not, leb, ◌&&◌, ◌||◌, sym, ap, ◌∙◌, subst, ⊎_elim, arith}
use Rattle.std.specs.Int.{is_in_range}
use Rattle.std.proofs.lemmas.Bool.{and_parts, cases_eq, leb-true}

-- each number below the bound passes
abbrev pub all_below : (ℕ → Bool) → ℕ → Bool
all_below test zero = true
all_below test (suc n) = test n && all_below test n

-- so does one of them
pub passes_below : (test : ℕ → Bool) (n : ℕ) → all_below test n ≡ true → (b : ℕ) → b < n
    → test b ≡ true
passes_below test zero all b low = absurd (omega arith)
passes_below test (suc n) all b low =
    let parts = and_parts (test n) (all_below test n) all in
    ⊎_elim (λ same. subst (λ c. test c ≡ true) (sym same) parts.0)
    (λ other. passes_below test n parts.1 b (omega arith)) (cases_eq b n)

-- and of each byte of a class that is a range
pub passes_in_range : (low high : ℕ) (test : ℕ → Bool)
    → all_below (λ b. not (is_in_range low high b) || test b) (suc high) ≡ true
    → (b : ℕ) → is_in_range low high b ≡ true → test b ≡ true
passes_in_range low high test all b within =
    let parts = and_parts (leb low b) (leb b high) within in
    let under = leb-true b high parts.1 in
    ap (λ w. not w || test b) (sym within)
    ∙ passes_below (λ c. not (is_in_range low high c) || test c) (suc high) all b (omega arith)
