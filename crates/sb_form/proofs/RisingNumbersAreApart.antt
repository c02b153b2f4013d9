-- Where the numbers of instances rise, no two are one number.
use Rattle.std.proofs.Common.{◌≡◌, ◌<◌, ◌≤◌, ◌+◌, ◌==◌, ◌&&◌, ℕ, Bool, true, cond, List, [], ◌∷◌, refl, ap, arith, ⊎_elim}
use Rattle.std.specs.Prelude.{nat_lt}
use Rattle.std.proofs.lemmas.Bool.{and_parts, cases_Bool, eqb-true, ltb-true}
use Rattle.std.proofs.lemmas.List.Sums.{sum_by-cons}
use Rattle.sb_step.specs.declared.step_file.records.Record.{Record}
use Rattle.sb_step.specs.Numbers.{uses, AreApart}

-- each number is above the one before, and the first above this
abbrev pub rises_from : ℕ → List (ℕ × Record) → Bool
rises_from n [] = true
rises_from n (i ∷ later) = nat_lt n i.0 && rises_from i.0 later

uses-cons : (n : ℕ) (i : ℕ × Record) (later : List (ℕ × Record))
    → uses n (i ∷ later) ≡ cond (i.0 == n) 1 0 + uses n later
uses-cons n i later = sum_by-cons (λ (x : ℕ × Record). cond (x.0 == n) 1 0) i later

-- a number has no use where all are above it
none_above : (n from : ℕ) (instances : List (ℕ × Record)) → n ≤ from
    → rises_from from instances ≡ true → uses n instances ≡ 0
none_above n from [] low rises = refl
none_above n from (i ∷ later) low rises =
    let parts = and_parts (nat_lt from i.0) (rises_from i.0 later) rises in
    let above : from < i.0 = ltb-true from i.0 parts.0 in
    let others = none_above n i.0 later (omega arith) parts.1 in
    ⊎_elim (λ same. absurd (omega (arith, above, low, eqb-true i.0 n same)))
    (λ other. omega (arith, uses-cons n i later, others, ap {B = ℕ} (λ b. cond b 1 0) other))
    (cases_Bool (i.0 == n))

-- instances whose numbers rise are apart
pub rising_are_apart : (from : ℕ) (instances : List (ℕ × Record))
    → rises_from from instances ≡ true → AreApart instances
rising_are_apart from [] rises n = omega arith
rising_are_apart from (i ∷ later) rises n =
    let parts = and_parts (nat_lt from i.0) (rises_from i.0 later) rises in
    let others = rising_are_apart i.0 later parts.1 n in
    ⊎_elim
    (λ same. omega (
      arith,
      uses-cons n i later,
      none_above n i.0 later (omega (arith, eqb-true i.0 n same)) parts.1,
      ap {B = ℕ} (λ b. cond b 1 0) same,
    ))
    (λ other. omega (arith, uses-cons n i later, others, ap {B = ℕ} (λ b. cond b 1 0) other))
    (cases_Bool (i.0 == n))
