-- Laws of sums and products of whole numbers.
use Rattle.std.proofs.Common.{◌≡◌, arith, ℤ, pos, ◌+ℤ◌, ◌-ℤ◌, ◌*ℤ◌, neg_ℤ}
use Rattle.theory_numbers.proofs.Shapes.{var, num, plus, minus, negated, times, equal}

-- ---- products and sums

-- products are grouped at will
pub mul_assoc : (a b c : ℤ) → (a *ℤ b) *ℤ c ≡ a *ℤ (b *ℤ c)
mul_assoc a b c =
    equal (times (times (var a) (var b)) (var c)) (times (var a) (times (var b) (var c)))
    (omega arith)

-- two factors change places
pub mul_comm : (a b : ℤ) → a *ℤ b ≡ b *ℤ a
mul_comm a b = equal (times (var a) (var b)) (times (var b) (var a)) (omega arith)

-- the first two of three factors change places
pub mul_left_comm : (a b c : ℤ) → a *ℤ (b *ℤ c) ≡ b *ℤ (a *ℤ c)
mul_left_comm a b c =
    equal (times (var a) (times (var b) (var c))) (times (var b) (times (var a) (var c)))
    (omega arith)

-- the last two of three factors change places
pub mul_right_comm : (a b c : ℤ) → (a *ℤ b) *ℤ c ≡ (a *ℤ c) *ℤ b
mul_right_comm a b c =
    equal (times (times (var a) (var b)) (var c)) (times (times (var a) (var c)) (var b))
    (omega arith)

-- a factor times a sum
pub mul-add : (a b c : ℤ) → a *ℤ (b +ℤ c) ≡ (a *ℤ b) +ℤ (a *ℤ c)
mul-add a b c =
    equal (times (var a) (plus (var b) (var c)))
    (plus (times (var a) (var b)) (times (var a) (var c)))
    (omega arith)

-- a sum times a factor
pub add-mul : (a b c : ℤ) → (a +ℤ b) *ℤ c ≡ (a *ℤ c) +ℤ (b *ℤ c)
add-mul a b c =
    equal (times (plus (var a) (var b)) (var c))
    (plus (times (var a) (var c)) (times (var b) (var c)))
    (omega arith)

-- a factor times a difference
pub mul-sub : (a b c : ℤ) → a *ℤ (b -ℤ c) ≡ (a *ℤ b) -ℤ (a *ℤ c)
mul-sub a b c =
    equal (times (var a) (minus (var b) (var c)))
    (minus (times (var a) (var b)) (times (var a) (var c)))
    (omega arith)

-- a difference times a factor
pub sub-mul : (a b c : ℤ) → (a -ℤ b) *ℤ c ≡ (a *ℤ c) -ℤ (b *ℤ c)
sub-mul a b c =
    equal (times (minus (var a) (var b)) (var c))
    (minus (times (var a) (var c)) (times (var b) (var c)))
    (omega arith)

-- ---- signs turned

-- the sign moves out of the left factor
pub neg-mul : (a b : ℤ) → neg_ℤ a *ℤ b ≡ neg_ℤ (a *ℤ b)
neg-mul a b =
    equal (times (negated (var a)) (var b)) (negated (times (var a) (var b))) (omega arith)

-- the sign moves out of the right factor
pub mul-neg : (a b : ℤ) → a *ℤ neg_ℤ b ≡ neg_ℤ (a *ℤ b)
mul-neg a b =
    equal (times (var a) (negated (var b))) (negated (times (var a) (var b))) (omega arith)

-- two turned signs go away
pub neg-mul-neg : (a b : ℤ) → neg_ℤ a *ℤ neg_ℤ b ≡ a *ℤ b
neg-mul-neg a b =
    equal (times (negated (var a)) (negated (var b))) (times (var a) (var b)) (omega arith)

-- ---- 0 and 1

-- times 0
pub mul-zero : (a : ℤ) → a *ℤ pos 0 ≡ pos 0
mul-zero a = equal (times (var a) (num 0)) (num 0) (omega arith)

-- 0 times
pub zero-mul : (a : ℤ) → pos 0 *ℤ a ≡ pos 0
zero-mul a = equal (times (num 0) (var a)) (num 0) (omega arith)

-- times 1
pub mul-one : (a : ℤ) → a *ℤ pos 1 ≡ a
mul-one a = equal (times (var a) (num 1)) (var a) (omega arith)

-- 1 times
pub one-mul : (a : ℤ) → pos 1 *ℤ a ≡ a
one-mul a = equal (times (num 1) (var a)) (var a) (omega arith)

-- ---- squares

-- (a + b)(a - b) is the difference of the squares
pub sum-mul-difference : (a b : ℤ) → (a +ℤ b) *ℤ (a -ℤ b) ≡ (a *ℤ a) -ℤ (b *ℤ b)
sum-mul-difference a b =
    equal (times (plus (var a) (var b)) (minus (var a) (var b)))
    (minus (times (var a) (var a)) (times (var b) (var b)))
    (omega arith)
