-- What the steps of the matcher find.
use Rattle.std.specs.Prelude.{◌≡◌, ◌++◌, ℕ, ℤ, List}
use Rattle.sb_form.specs.Numbers.{IsShort, number_text}

-- the bytes are three numbers, each behind its opening, and a rest
pub record AreThree (first second third : List ℕ) (a b c : ℤ) (rest bytes : List ℕ) : Type 0 where
  pub a_short : IsShort a
  pub b_short : IsShort b
  pub c_short : IsShort c
  pub spelled : bytes ≡ first
      ++ (number_text a ++ (second ++ (number_text b ++ (third ++ (number_text c ++ rest)))))
