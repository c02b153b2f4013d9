-- The greatest common divisor, as a function that computes.

use Rattle.std.specs.Prelude.{ℕ, zero, suc, ◌+◌, ◌%◌, Bool, nat_eq}

-- Euclid's remainders, at most `steps` of them
unfoldable pub divisor_within : ℕ → ℕ → ℕ → ℕ
divisor_within zero a b = a
divisor_within (suc steps) a zero = a
divisor_within (suc steps) a (suc b) = divisor_within steps (suc b) (a % suc b)

-- the greatest common divisor of two numbers; of 0 and 0 it is 0
-- (b falls with each remainder, so b + 1 of them are enough)
unfoldable pub greatest_divisor : ℕ → ℕ → ℕ
greatest_divisor a b = divisor_within (b + 1) a b

-- two numbers without a common divisor above 1
abbrev pub are_coprime : ℕ → ℕ → Bool
are_coprime a b = nat_eq (greatest_divisor a b) 1
