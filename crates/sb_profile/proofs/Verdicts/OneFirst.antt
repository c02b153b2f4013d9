-- Of some codes there is one first defect, or none; it stays the first whatever codes follow, and where
-- there is none the first of those that follow is the first of all.
use Rattle.std.proofs.Common.{◌≡◌, ℕ, ◌≤◌, inl, inr, List, [], ◌∷◌, ◌++◌, Option, Some, None, sym, ap, ◌∙◌, arith}
use Rattle.sb_profile.specs.declared.defects.Code.{Code}
use Rattle.sb_profile.specs.declared.defects.Defect.{Defect}
use Rattle.sb_profile.specs.Lowest.{IsLowest}
use Rattle.sb_profile.specs.First.{defect_at, IsFirst}

-- two lowest numbers are one
pub one_lowest : (P : ℕ → Type 0) (m n : ℕ) → IsLowest P m → IsLowest P n → m ≡ n
one_lowest P m n one two =
    let below : m ≤ n = one.lowest n two.holds in
    let above : n ≤ m = two.lowest m one.holds in
    omega arith

pub one_first : (Has : Code → ℕ → Type 0) (codes : List Code) (one two : Option Defect)
    → IsFirst Has codes one → IsFirst Has codes two → one ≡ two
one_first Has [] one two none_one none_two = none_one ∙ sym none_two
one_first Has (code ∷ later) one two (inl (m, (low, is))) (inl (n, (lowest, also))) =
    is ∙ (ap (λ k. Some (defect_at k code)) (one_lowest (Has code) m n low lowest) ∙ sym also)
one_first Has (code ∷ later) one two (inl (m, (low, is))) (inr (none, first)) =
    absurd (none m low.holds)
one_first Has (code ∷ later) one two (inr (none, first)) (inl (n, (low, is))) =
    absurd (none n low.holds)
one_first Has (code ∷ later) one two (inr (none, first)) (inr (also, second)) =
    one_first Has later one two first second

pub earlier_first : (Has : Code → ℕ → Type 0) (codes later : List Code) (d : Defect)
    → IsFirst Has codes (Some d) → IsFirst Has (codes ++ later) (Some d)
earlier_first Has [] later d none = absurd (let e = none in cc)
earlier_first Has (code ∷ codes) later d (inl found) = inl found
earlier_first Has (code ∷ codes) later d (inr (none, first)) =
    inr (none, earlier_first Has codes later d first)

pub later_follow : (Has : Code → ℕ → Type 0) (codes later : List Code) (found : Option Defect)
    → IsFirst Has codes None → IsFirst Has later found → IsFirst Has (codes ++ later) found
later_follow Has [] later found none first = first
later_follow Has (code ∷ codes) later found (inl (n, (low, is))) first =
    absurd (let e = is in cc)
later_follow Has (code ∷ codes) later found (inr (none, nothing)) first =
    inr (none, later_follow Has codes later found nothing first)
