-- A list of items that all pass a test, and one more that does; heights in whole numbers.

use Rattle.std.proofs.Common.{◌≡◌, true, Bool, ◌&&◌, List, [], ◌∷◌, ◌++◌, IsTrue, ap₂, ◌∙◌, refl}
use Rattle.std.specs.List.{list_all}
use Rattle.std.proofs.lemmas.List.Folds.{list_all-append}
use Rattle.std.proofs.Common.{ℤ, pos, ◌≤◌, unsigned_abs, nat_le, le_trans, lit≤}
use Rattle.std.proofs.lemmas.Bool.{and_from, le-leb}
use Rattle.theory_numbers.specs.Fractions.{Ratio, reduced}
use Rattle.theory_numbers.proofs.Fractions.LowestTerms.{reduced-one}
use Rattle.sb_fraction.specs.Bounds.{is_abscissa_size, greatest_abscissa}

-- all still pass
pub all_pushed : {X : Type 0} (test : X → Bool) (xs : List X) (x : X) → IsTrue (list_all test xs)
    → IsTrue (test x) → IsTrue (list_all test (xs ++ x ∷ []))
all_pushed test xs x all here =
    list_all-append test xs (x ∷ [])
    ∙ and_from (list_all test xs) (test x && true) all (and_from (test x) true here refl)

-- a whole number of 32 bits has the size that a height may have
pub whole_is_small : (z : ℤ) (r : Ratio) → r ≡ reduced z (pos 1) → unsigned_abs z ≤ 2147483648
    → IsTrue (is_abscissa_size r)
whole_is_small z r is small =
    rw (is ∙ reduced-one z)
    (and_from (nat_le (unsigned_abs z) greatest_abscissa) true
    (le-leb (unsigned_abs z) greatest_abscissa (le_trans small (lit≤ tt))) refl)
